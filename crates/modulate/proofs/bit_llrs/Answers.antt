-- `modulate::bit_llrs` meets its contract: each bit's score stands at its place. Assumes nothing.
use mathlib.Core.Path.{◌≡◌, ap, ◌∙◌}
use borrow.Author.Rules.{rules}
use mathlib.Core.Bool.{false}
use mathlib.Core.List.{List, ◌++◌}
use Prim.Native.Nat.{ℕ, ◌≤◌, ◌<◌}
use lib.ListN.{length, get_or, take, drop}
use lib.Ieee.{Float, nan}
use Rattle.limits.specs.Chroma.{log2}
use Rattle.limits.specs.Limits.{bad_hues}
use Rattle.limits.proofs.Laws.{hues_in}
use Rattle.modulate.specs.declared.Cell.{Cell}
use Rattle.lists.specs.Lists.{replaced}
use Rattle.modulate.specs.Score.{bit_llr, bit_llr_at, chroma_bit_llrs}
use Rattle.lists.proofs.Front.{front-below, front_written}
use Rattle.modulate.proofs.Ready.{hues-least, hues-most}
use Rattle.modulate.proofs.bit_llrs.Goals as goal

module _ (k bits : ℕ) (e : bits ≡ log2 k) where
  short : bad_hues k ≡ false → bits ≤ 4
  short h = rw e (hues_in k h).bits

  module _ (out : List Float) (h : log2 k ≤ length out) where
    room : bits ≤ length out
    room = rw e h

    one_of : (b : ℕ) → b < length (take bits out) → b < bits
    one_of b p = front-below bits b out room p

    whole : (ll : List Float) (cell : Cell) (s : List Float) (b : ℕ) → length s ≡ length (take bits out) → length (take bits out) ≤ b →
        ((j : ℕ) → j < b → get_or s j nan ≡ bit_llr ll cell k j) → s ++ drop bits out ≡ chroma_bit_llrs ll cell k out
    whole ll cell s b l past done =
        front_written nan bits (bit_llr_at ll cell k) out s room l b past done ∙ ap (λ (m : ℕ). replaced nan m (bit_llr_at ll cell k) out) e

pub invariant_of-entry : goal.invariant_of-entry
invariant_of-entry c = record { least = search (hues-least) }

pub invariant_of-entry-in-loop-b : goal.invariant_of-entry-in-loop-b
invariant_of-entry-in-loop-b c = record { counted = c.log2-bits.ensures; most = search (hues-most); few = search (short) }

pub bit_llr-requires : goal.bit_llr-requires
bit_llr-requires c = (search (one_of), search rules)

pub returns : goal.returns
returns c = whole _ _ c.log2-bits.ensures _ c.requires.2 _ _ _ _ c.loop-b.auto.score-items c.loop-b-test.false c.loop-b.invariant
