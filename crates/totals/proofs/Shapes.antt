-- What sentence 18 leaves: totals in their limits, which sums of few enough cards keep, since each limit is so much a card or a module. Assumes nothing.
use mathlib.Core.Path.{◌≡◌}
use mathlib.Core.Bool.{false}
use Prim.Native.Nat.{◌+◌, ◌*◌, ◌≤◌}
use native.Mathlib.Omega.{arith}
use borrow.Author.Tests.{ltb-false, le-ltb}
use lib.Dec.{ltb}
use Rattle.sentences.proofs.Laws.{neither}
use Rattle.totals.specs.declared.Totals.{Totals}
use Rattle.totals.specs.Batch.{nothing, plus, bad_totals, Good}
use Rattle.totals.specs.Calls.{too_many}

pub good : (t : Totals) → bad_totals t ≡ false → Good t
unfolding bad_totals
good t e =
    let a = neither (ltb 65535 t.cards) _ e in
    let b = neither (ltb (1048576 * t.cards) t.modules) _ a.1 in
    let c = neither (ltb t.modules t.undecided) _ b.1 in
    let d = neither (ltb t.modules t.under) _ c.1 in
    record {
      cards = ltb-false 65535 t.cards a.0;
      modules = ltb-false (1048576 * t.cards) t.modules b.0;
      undecided = ltb-false t.modules t.undecided c.0;
      under = ltb-false t.modules t.under d.0;
      sum = ltb-false (1310720 * t.modules) t.sum d.1;
    }

pub not-bad : (t : Totals) → Good t → bad_totals t ≡ false
unfolding bad_totals
not-bad t g =
    rw (
      le-ltb 65535 t.cards g.cards,
      le-ltb (1048576 * t.cards) t.modules g.modules,
      le-ltb t.modules t.undecided g.undecided,
      le-ltb t.modules t.under g.under,
      le-ltb (1310720 * t.modules) t.sum g.sum,
    )

-- ---- two batches

pub both-good : (a b : Totals) → too_many a b ≡ false → Good a × Good b × (a.cards + b.cards ≤ 65535)
unfolding too_many
both-good a b e =
    let p = neither (bad_totals a) _ e in
    let q = neither (bad_totals b) _ p.1 in
    (good a p.0, good b q.0, ltb-false 65535 (a.cards + b.cards) q.1)

pub plus-good : (a b : Totals) → Good a → Good b → a.cards + b.cards ≤ 65535 → Good (plus a b)
plus-good a b p q h =
    record { cards = h; modules = omega arith; undecided = omega arith; under = omega arith; sum = omega arith }

pub nothing-good : Good nothing
nothing-good = record { cards = omega arith; modules = omega arith; undecided = omega arith; under = omega arith; sum = omega arith }
