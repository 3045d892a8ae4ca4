-- The theorems that are promises as they stand, which the check finds by itself. Assumes nothing.
use Rattle.promises.proofs.Premises.{refused_by_length}
use Rattle.guarantee.proofs.Worked.{worked}
use Rattle.guarantee.proofs.Erased.{none-erased-inside, none-erased_at_nine}
use Rattle.page.proofs.Bytes.{pages}
use Rattle.color.proofs.Rises as rises
use Rattle.promises.proofs.Neighbours.{neighbours}
use Rattle.promises.proofs.Season.{only-nan-unfit}
use Rattle.promises.proofs.Formula.{formula}
use Rattle.modulate.proofs.Unmasking.{unmasking-twice, unmasked-reads}
use Rattle.margin.proofs.Wider.{yes_at_nine}
use Rattle.reading.proofs.Erasure.{erasures}
use Rattle.refine.proofs.Sign.{keeps_sign, call_keeps_sign}
use Rattle.order.proofs.AnyOrder.{median-any-order}
use Rattle.order.proofs.Distances.{deviation-any-order}
use Rattle.float.proofs.Nearest as nearest

pub ruleset theorems = (refused_by_length, worked, none-erased-inside, none-erased_at_nine, pages, rises.lightness_rises, neighbours, only-nan-unfit, formula, unmasking-twice, unmasked-reads, yes_at_nine, erasures, keeps_sign, call_keeps_sign)

-- the parts of one promise
pub ruleset any_order = (median-any-order, deviation-any-order)

pub ruleset roots = (nearest.sqrt_is, nearest.cbrt_is, nearest.sqrt-only, nearest.cbrt-only)
