-- What sentence 8 says of a palette that it lets pass: each number that an accessor reads is one of the first 2 + 8 × hues, so it is finite and
-- in range. And a colour's place is one of the palette's. Assumes nothing.
use mathlib.Core.Path.{◌≡◌}
use mathlib.Core.Bool.{Bool, true, false}
use mathlib.Core.List.{List}
use Prim.Native.Nat.{ℕ, ◌+◌, ◌*◌, ◌<◌}
use native.Mathlib.Nat.{mod-lt}
use native.Mathlib.Omega.{arith}
use lib.Ieee.{Float}
use Rattle.loops.proofs.Laws.{any_up-false}
use Rattle.color.specs.declared.palette.Ab.{Ab}
use Rattle.color.specs.declared.Lab.{Lab}
use Rattle.color.specs.Palette.{palette_len, level_l, hue_ab, palette_lab, index_of, wild, wild_at, wild_in, wild_palette}

pub record TameAb (p : Ab) : Type 0 where
  pub a : wild p.a ≡ false
  pub b : wild p.b ≡ false

pub record TameLab (c : Lab) : Type 0 where
  pub l : wild c.l ≡ false
  pub a : wild c.a ≡ false
  pub b : wild c.b ≡ false

-- one of the first n numbers, where none is wild
pub number-tame : (values : List Float) (n : ℕ) → wild_in values n ≡ false → (i : ℕ) → i < n → wild_at values i ≡ false
number-tame values n e i h = any_up-false (wild_at values) n e i h

module _ (palette : List Float) (hues : ℕ) (e : wild_palette palette hues ≡ false) where
  pub level-tame : (level : ℕ) → level < 2 → wild (level_l palette level) ≡ false
  unfolding level_l
  level-tame level h = number-tame palette (palette_len hues) e level (omega arith)

  pub hue-tame : (h : ℕ) → h < hues → TameAb (hue_ab palette h)
  unfolding hue_ab
  hue-tame h l = record { a = number-tame palette (palette_len hues) e (2 + 2 * h) (omega arith); b = number-tame palette (palette_len hues) e (3 + 2 * h) (omega arith) }

  pub lab-tame : (i : ℕ) → i < 2 * hues → TameLab (palette_lab palette hues i)
  unfolding palette_lab
  lab-tame i h = record {
    l = number-tame palette (palette_len hues) e (2 + 2 * hues + 3 * i) (omega arith);
    a = number-tame palette (palette_len hues) e (2 + 2 * hues + 3 * i + 1) (omega arith);
    b = number-tame palette (palette_len hues) e (2 + 2 * hues + 3 * i + 2) (omega arith);
  }

pub index_below : (l : Bool) (h hues : ℕ) → 0 < hues → index_of l h hues < 2 * hues
unfolding index_of
index_below true h hues p = omega (arith, mod-lt h p)
index_below false h hues p = omega (arith, mod-lt h p)
