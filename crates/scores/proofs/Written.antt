-- What an accepted call leaves, element by element: each module's score and colour, each chroma entry's scores, the tails as they were, the lengths. No turn of a loop comes back to a place that
-- another one wrote: module i has place i, and entry e of the chroma list the places from e × bits up to the next entry's. Assumes nothing.
use mathlib.Core.Path.{◌≡◌, refl, ap, ◌∙◌}
use mathlib.Core.Logic.{⊎_elim}
use mathlib.Core.List.{List}
use Prim.Native.Nat.{ℕ, suc, ◌+◌, ◌-◌, ◌*◌, ◌≤◌, ◌<◌, zero-le}
use native.Mathlib.Omega.{arith}
use native.Mathlib.Nat.{eq-or-lt_of_le, suc-mul, mul-le-mul_right}
use lib.ListN.{length, get_or, set, length-set}
use lib.Seq.{get_or-set_same, get_or-set_other}
use lib.Ieee.{Float, nan}
use Rattle.loops.proofs.Laws.{for_up_to}
use Rattle.limits.specs.Chroma.{symbol_bits}
use Rattle.color.specs.declared.Linear.{Linear}
use Rattle.color.specs.Color.{linear_to_lab}
use Rattle.color.specs.Palette.{linear_at}
use Rattle.modulate.specs.declared.Cell.{Cell}
use Rattle.modulate.specs.declared.Cell.TheVariants.{Unmasked, At}
use Rattle.stats.specs.declared.ChannelStats.{ChannelStats}
use Rattle.stats.specs.Noise.{reliability}
use Rattle.scores.proofs.Chroma.{entry_of}
use Rattle.observed.proofs.Threes.{three-long, three-other, colour-own, colour-other}
use Rattle.scores.specs.Score.{luma_score, Sheet, sheet, write_module, write_modules, bit_scores, chroma_score, put_score, put_scores, write_entry, write_cell, write_cells, write_ring, write_rings}
use Rattle.observed.specs.Colours.{put_colour}

-- ---- the modules

module _ (n : ChannelStats) (palette : List Float) (hues : ℕ) (colour : ℕ → Linear) (luma colours : List Float) where
  -- i modules are written
  pub record Modules (i : ℕ) (s : Sheet) : Type 0 where
    pub luma-long : length s.luma ≡ length luma
    pub scored : (j : ℕ) → j < i → get_or s.luma j nan ≡ luma_score n palette hues (colour j)
    pub luma-kept : (j : ℕ) → i ≤ j → get_or s.luma j nan ≡ get_or luma j nan
    pub colours-long : length s.colours ≡ length colours
    pub coloured : (j : ℕ) → j < i → linear_at s.colours j ≡ colour j
    pub colours-kept : (j : ℕ) → 3 * i ≤ j → get_or s.colours j nan ≡ get_or colours j nan

  start : Modules 0 (sheet luma colours)
  start =
      record {
        luma-long = refl;
        scored = λ j h. absurd (omega arith);
        luma-kept = λ j h. refl;
        colours-long = refl;
        coloured = λ j h. absurd (omega arith);
        colours-kept = λ j h. refl;
      }

  module _ (i : ℕ) (s : Sheet) (l : i < length luma) (k : 3 * i + 2 < length colours) (p : Modules i s) where
    scored-next : (j : ℕ) → j < suc i → get_or (set s.luma i (luma_score n palette hues (colour i))) j nan ≡ luma_score n palette hues (colour j)
    scored-next j h =
        ⊎_elim (λ (e : j ≡ i). rw e (get_or-set_same s.luma i _ nan (omega (arith, p.luma-long))))
        (λ (q : j < i). get_or-set_other s.luma i j _ nan (λ e. omega arith) ∙ p.scored j q)
        (eq-or-lt_of_le (let z : j ≤ i = omega arith in z))

    coloured-next : (j : ℕ) → j < suc i → linear_at (put_colour s.colours i (colour i)) j ≡ colour j
    coloured-next j h =
        ⊎_elim (λ (e : j ≡ i). rw e (colour-own s.colours i (colour i).r (colour i).g (colour i).b (omega (arith, p.colours-long))))
        (λ (q : j < i). colour-other s.colours i (colour i).r (colour i).g (colour i).b j (λ e. omega arith) ∙ p.coloured j q)
        (eq-or-lt_of_le (let z : j ≤ i = omega arith in z))

    next : Modules (suc i) (write_module n palette hues colour i s)
    unfolding write_module
    next =
        record {
          luma-long = length-set s.luma i _ ∙ p.luma-long;
          scored = scored-next;
          luma-kept = λ j h. get_or-set_other s.luma i j _ nan (λ e. omega arith) ∙ p.luma-kept j (omega arith);
          colours-long = three-long s.colours i (colour i).r (colour i).g (colour i).b ∙ p.colours-long;
          coloured = coloured-next;
          colours-kept = λ j h. three-other s.colours i (colour i).r (colour i).g (colour i).b j (λ e. omega arith) (λ e. omega arith) (λ e. omega arith) ∙ p.colours-kept j (omega arith);
        }

  -- all m modules are written, and nothing else
  pub modules_are : (m : ℕ) → m ≤ length luma → 3 * m ≤ length colours → Modules m (write_modules n palette hues colour m (sheet luma colours))
  modules_are m hl hc =
      for_up_to Modules (write_module n palette hues colour) m 0 (sheet luma colours) zero-le start (λ i q r s p. next i s (omega arith) (omega arith) p)

-- ---- one chroma entry, at the places from `at` on

module _ (bits : List Float) (weight : Float) (at : ℕ) (lent : List Float) where
  record Bits (b : ℕ) (s : List Float) : Type 0 where
    long : length s ≡ length lent
    has : (j : ℕ) → j < b → get_or s (at + j) nan ≡ chroma_score (get_or bits j nan) weight
    below : (j : ℕ) → j < at → get_or s j nan ≡ get_or lent j nan
    past : (j : ℕ) → at + b ≤ j → get_or s j nan ≡ get_or lent j nan

  no_bits : Bits 0 lent
  no_bits = record { long = refl; has = λ j h. absurd (omega arith); below = λ j h. refl; past = λ j h. refl }

  one_bit : (b : ℕ) (s : List Float) → at + b < length lent → Bits b s → Bits (suc b) (put_score bits weight at b s)
  unfolding put_score
  one_bit b s l p =
      record {
        long = length-set s (at + b) _ ∙ p.long;
        has = λ j h.
            ⊎_elim (λ (e : j ≡ b). rw e (get_or-set_same s (at + b) _ nan (omega (arith, p.long))))
            (λ (q : j < b). get_or-set_other s (at + b) (at + j) _ nan (λ e. omega arith) ∙ p.has j q)
            (eq-or-lt_of_le (let z : j ≤ b = omega arith in z));
        below = λ j h. get_or-set_other s (at + b) j _ nan (λ e. omega arith) ∙ p.below j h;
        past = λ j h. get_or-set_other s (at + b) j _ nan (λ e. omega arith) ∙ p.past j (omega arith);
      }

  bits_put : (k : ℕ) → at + k ≤ length lent → Bits k (put_scores bits weight k at lent)
  bits_put k h = for_up_to Bits (put_score bits weight at) k 0 lent zero-le no_bits (λ b q r s p. one_bit b s (omega arith) p)

-- ---- the entries

-- the score of bit b of an entry
pub entry_score : ChannelStats → List Float → ℕ → Cell → Linear → ℕ → Float
entry_score n palette hues cell c b = chroma_score (get_or (bit_scores n palette hues cell (linear_to_lab c)) b nan) (reliability n (linear_to_lab c) palette hues)

abbrev pub place : ℕ → ℕ → ℕ → ℕ
place hues e b = e * symbol_bits hues + b

module _ (n : ChannelStats) (palette : List Float) (hues : ℕ) (cell : ℕ → Cell) (colour : ℕ → Linear) (from : ℕ) (lent : List Float) where
  -- the entries from `from` up to e are written
  pub record Entries (e : ℕ) (s : List Float) : Type 0 where
    pub long : length s ≡ length lent
    pub has : (i b : ℕ) → from ≤ i → i < e → b < symbol_bits hues → get_or s (place hues i b) nan ≡ entry_score n palette hues (cell i) (colour i) b
    pub below : (j : ℕ) → j < from * symbol_bits hues → get_or s j nan ≡ get_or lent j nan
    pub past : (j : ℕ) → e * symbol_bits hues ≤ j → get_or s j nan ≡ get_or lent j nan

  no_entries : Entries from lent
  no_entries = record { long = refl; has = λ i b g h l. absurd (omega arith); below = λ j h. refl; past = λ j h. refl }

  module _ (e : ℕ) (s : List Float) (g : from ≤ e) (l : e * symbol_bits hues + symbol_bits hues ≤ length lent) (p : Entries e s) where
    put : Bits (bit_scores n palette hues (cell e) (linear_to_lab (colour e))) (reliability n (linear_to_lab (colour e)) palette hues) (e * symbol_bits hues) s (symbol_bits hues) (write_entry n palette hues (cell e) (colour e) e s)
    unfolding write_entry
    put = bits_put _ _ (e * symbol_bits hues) s (symbol_bits hues) (omega (arith, p.long))

    earlier : (i b : ℕ) → i < e → b < symbol_bits hues → place hues i b < e * symbol_bits hues
    earlier i b h k = omega (arith, suc-mul i (symbol_bits hues), mul-le-mul_right (symbol_bits hues) h)

    one_entry : Entries (suc e) (write_entry n palette hues (cell e) (colour e) e s)
    unfolding entry_score
    one_entry =
        record {
          long = put.long ∙ p.long;
          has = λ i b f h k.
              ⊎_elim (λ (d : i ≡ e). rw d (put.has b k))
              (λ (q : i < e). put.below (place hues i b) (earlier i b q k) ∙ p.has i b f q k)
              (eq-or-lt_of_le (let z : i ≤ e = omega arith in z));
          below = λ j h. put.below j (omega (arith, mul-le-mul_right (symbol_bits hues) g)) ∙ p.below j h;
          past = λ j h. put.past j (omega (arith, suc-mul e (symbol_bits hues))) ∙ p.past j (omega (arith, suc-mul e (symbol_bits hues)));
        }

-- ---- the cells, and then the ring modules

module _ (n : ChannelStats) (palette : List Float) (hues : ℕ) (cxs cys : List ℕ) (colour : ℕ → Linear) (lent : List Float) where
  abbrev pub cell_of : ℕ → Cell
  cell_of i = At (get_or cxs i 0) (get_or cys i 0)

  pub cells_are : (c : ℕ) → c * symbol_bits hues ≤ length lent → Entries n palette hues cell_of colour 0 lent c (write_cells n palette hues cxs cys colour c lent)
  unfolding write_cell
  cells_are c h =
      for_up_to (Entries n palette hues cell_of colour 0 lent) (write_cell n palette hues cxs cys colour) c 0 lent zero-le (no_entries n palette hues cell_of colour 0 lent)
      (λ i q r s p. one_entry n palette hues cell_of colour 0 lent i s zero-le (entry_of hues i c (length lent) r h) p)

module _ (n : ChannelStats) (palette : List Float) (hues cells grid : ℕ) (colour : ℕ → Linear) (lent : List Float) where
  -- entry e is that of ring module grid + (e - cells)
  abbrev ring_of : ℕ → Linear
  ring_of e = colour (grid + (e - cells))

  unfoldable pub Rings : ℕ → List Float → Type 0
  Rings i s = Entries n palette hues (λ e. Unmasked) ring_of cells lent (cells + (i - grid)) s

  no_rings : Rings grid lent
  unfolding Rings
  no_rings = rw (none cells grid) (no_entries n palette hues (λ e. Unmasked) ring_of cells lent)
    where
      none : (c g : ℕ) → c + (g - g) ≡ c
      none c g = omega arith

  module _ (i m : ℕ) (s : List Float) (g : grid ≤ i) (h : i < m) (l : (cells + (m - grid)) * symbol_bits hues ≤ length lent) (p : Rings i s) where
    own : colour i ≡ ring_of (cells + (i - grid))
    own = ap colour (same i grid cells g)
      where
        same : (i g c : ℕ) → g ≤ i → i ≡ g + (c + (i - g) - c)
        same i g c h = omega arith

    one_ring : Rings (suc i) (write_ring n palette hues cells grid colour i s)
    unfolding Rings write_ring
    one_ring =
        rw (later i grid cells g, own)
        (one_entry n palette hues (λ e. Unmasked) ring_of cells lent (cells + (i - grid)) s (omega arith) (entry_of hues (cells + (i - grid)) (cells + (m - grid)) (length lent) (omega arith) l) p)
      where
        later : (i g c : ℕ) → g ≤ i → c + (suc i - g) ≡ suc (c + (i - g))
        later i g c h = omega arith

  pub rings_are : (m : ℕ) → grid ≤ m → (cells + (m - grid)) * symbol_bits hues ≤ length lent → Rings m (write_rings n palette hues cells grid colour m lent)
  rings_are m g l = for_up_to Rings (write_ring n palette hues cells grid colour) m grid lent g no_rings (λ i q r s p. one_ring i m s q r l p)

  pub ring-has : (m : ℕ) (s : List Float) → Rings m s → (i b : ℕ) → grid ≤ i → i < m → b < symbol_bits hues → get_or s (place hues (cells + (i - grid)) b) nan ≡ entry_score n palette hues Unmasked (colour i) b
  unfolding Rings
  ring-has m s p i b g h k = p.has (cells + (i - grid)) b (omega arith) (omega arith) k ∙ ap (λ (c : Linear). entry_score n palette hues Unmasked c b) (ap colour (back i grid cells g))
    where
      back : (i g c : ℕ) → g ≤ i → g + (c + (i - g) - c) ≡ i
      back i g c h = omega arith

  pub ring_long : (m : ℕ) (s : List Float) → Rings m s → length s ≡ length lent
  unfolding Rings
  ring_long m s p = p.long

  pub ring-below : (m : ℕ) (s : List Float) → Rings m s → (j : ℕ) → j < cells * symbol_bits hues → get_or s j nan ≡ get_or lent j nan
  unfolding Rings
  ring-below m s p = p.below

  pub ring-past : (m : ℕ) (s : List Float) → Rings m s → (j : ℕ) → (cells + (m - grid)) * symbol_bits hues ≤ j → get_or s j nan ≡ get_or lent j nan
  unfolding Rings
  ring-past m s p = p.past
