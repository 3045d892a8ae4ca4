-- `card::bad_directory` meets its contract: each section starts where the ones before it end, as the sum tells. Assumes nothing.
use mathlib.Core.Path.{◌≡◌, refl, ap, ◌∙◌}
use mathlib.Core.List.{List}
use Prim.Native.Nat.{ℕ, ◌+◌, ◌*◌, ◌<◌, ◌≤◌}
use mathlib.Core.Bool.{true, false, not}
use lib.Dec.{eqb}
use native.Mathlib.Omega.{arith}
use native.Mathlib.Numerals.{add-one}
use lib.ListN.{length}
use borrow.Author.Tests.{eq-eqb, ne_eqb}
use Rattle.loops.specs.Loops.{any_up}
use Rattle.loops.proofs.Laws.{LeftAny, begin-any, turn-any, out-any, done-any}
use Rattle.sentences.proofs.Laws.{or_here, or_past}
use Rattle.card.specs.declared.Pair.{Pair}
use Rattle.card.proofs.FivePairs.{pair_is}
use Rattle.card.specs.File.{offset_of, length_of, start_of, misplaced_at, bad_directory}
use Rattle.card.proofs.bad_directory.Goals as goal

first : (s : List ℕ) (pairs : ℕ) → 8 * pairs ≡ start_of pairs s 0
unfolding start_of
first s pairs = refl

next : (s : List ℕ) (pairs k at n : ℕ) → at ≡ start_of pairs s k → n ≡ length_of s k → at + n ≡ start_of pairs s (k + 1)
unfolding start_of
next s pairs k at n e f = rw (add-one k) (cc)

module _ (s : List ℕ) (pairs k at o : ℕ) (e : o ≡ offset_of s k) (f : at ≡ start_of pairs s k) (inv : LeftAny (misplaced_at pairs s) pairs k (any_up 0 pairs (misplaced_at pairs s))) (h : k < pairs) where
  same : not (eqb o at) ≡ misplaced_at pairs s k
  same = rw (e, f)

  elsewhere : (o ≡ at → ⊥) → true ≡ bad_directory pairs s
  unfolding bad_directory
  elsewhere t = or_here (any_up 0 pairs (misplaced_at pairs s)) true _ (out-any inv h same (ap not (ne_eqb o at t))) refl

  goes : o ≡ at → LeftAny (misplaced_at pairs s) pairs (k + 1) (any_up 0 pairs (misplaced_at pairs s))
  goes t = turn-any inv h same (ap not (eq-eqb o at t))

module _ (s : List ℕ) (pairs k at : ℕ) (f : at ≡ start_of pairs s k) (l : k ≤ pairs) where
  last : LeftAny (misplaced_at pairs s) pairs k (any_up 0 pairs (misplaced_at pairs s)) → pairs ≤ k → not (eqb at (length s)) ≡ bad_directory pairs s
  unfolding bad_directory
  last inv h =
      let d : k ≡ pairs = omega arith in
      or_past (any_up 0 pairs (misplaced_at pairs s)) false _ _ (done-any inv h) refl (ap (λ (n : ℕ). not (eqb n (length s))) (f ∙ ap (start_of pairs s) d))

pub loop-pair-init : goal.loop-pair-init
loop-pair-init c = (omega arith, search (first), search (begin-any))

pub returns-then-pair-at : goal.returns-then-pair-at
returns-then-pair-at c =
    let i = c.loop-pair.invariant in
    let pair = pair_is _ _ (record { at = 0; bytes = 0 }) _ c.directory-pair-items.ensures.is c.loop-pair-test.true in
    elsewhere c.args.file.now 5 c.loop-pair.pair-index c.loop-pair.at _ (ap (λ (p : Pair). p.at) pair) i.1 i.2 c.loop-pair-test.true c.if-pair-at.true

pub loop-pair-preserved : goal.loop-pair-preserved
loop-pair-preserved c =
    let i = c.loop-pair.invariant in
    let h = c.loop-pair-test.true in
    let pair = pair_is _ _ (record { at = 0; bytes = 0 }) _ c.directory-pair-items.ensures.is h in
    let bytes = ap (λ (p : Pair). p.bytes) pair in
    let small = c.directory-pair-items.ensures.small c.loop-pair.pair-index h in
    (omega (arith, bytes, small), next c.args.file.now 5 c.loop-pair.pair-index c.loop-pair.at _ i.1 bytes, goes c.args.file.now 5 c.loop-pair.pair-index c.loop-pair.at _ (ap (λ (p : Pair). p.at) pair) i.1 i.2 h c.if-pair-at.false)

pub returns : goal.returns
returns c = search (last)
