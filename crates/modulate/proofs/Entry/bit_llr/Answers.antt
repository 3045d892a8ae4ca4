-- `modulate::Entry::bit_llr` meets its contract: what is left of the hues gives the best of all; the code starts at minus infinity. Assumes nothing.
use mathlib.Core.Path.{◌≡◌, ap}
use borrow.Author.Rules.{rules}
use mathlib.Core.List.{List}
use Prim.Native.Nat.{ℕ, ◌≤◌, ◌<◌}
use native.Mathlib.Omega.{arith}
use lib.ListN.{length, get_or, take}
use lib.Seq.{length-take-le}
use lib.Ieee.{Float, nan, binary32, sub, of_bits}
use Rattle.std.proofs.lemmas.List.{get_or-take}
use Rattle.loops.proofs.Laws.{begin, loops}
use Rattle.modulate.specs.declared.Cell.{Cell}
use Rattle.modulate.specs.declared.Best.{Best}
use Rattle.modulate.specs.Score.{bit_of_hue, bettered, better_at, best_of, bit_llr}
use Rattle.lists.proofs.Front.{front-below}
use Rattle.modulate.proofs.Entry.bit_llr.Goals as goal

module _ (ll : List Float) (cell : Cell) (k b : ℕ) where
  turned : (h n : ℕ) (s s' : Best) → k ≤ length ll → h < length (take k ll) → n ≡ bit_of_hue cell k b h → s' ≡ bettered n (get_or (take k ll) h nan) s → s' ≡ better_at ll cell k b h s
  turned h n s s' l p e f = rw (e, get_or-take k ll h nan (front-below k h ll l p)) at f

  less : (s : Best) → s ≡ best_of ll cell k b → sub binary32 s.zero s.one ≡ bit_llr ll cell k b
  unfolding bit_llr
  less s e = ap (λ (t : Best). sub binary32 t.zero t.one) e

last : (ll : List Float) (k h : ℕ) → k ≤ length ll → length (take k ll) ≤ h → k ≤ h
last ll k h l p = let e = length-take-le k ll l in omega arith

pub loop-h-init : goal.loop-h-init
unfolding of_bits
loop-h-init c = begin

pub loop-h-preserved : goal.loop-h-preserved
loop-h-preserved c = search (turned, front-below, loops, rules)

pub returns : goal.returns
returns c = search (less, last, loops, rules)
