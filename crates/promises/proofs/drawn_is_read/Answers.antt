-- `promises::drawn_is_read` meets its contract: the theorems of `modulate`. Assumes nothing.
use mathlib.Core.List.{List}
use Prim.Native.Nat.{ℕ}
use lib.Ieee.{Float}
use Rattle.modulate.proofs.Decided as decided
use Rattle.modulate.proofs.ReadBack as back
use Rattle.promises.specs.Symbols.{Leads, Says}
use Rattle.promises.proofs.drawn_is_read.Goals as goal

leads : (ll : List Float) (k h : ℕ) (y : Float) → Leads ll k h y → decided.Leads ll k h y
leads ll k h y p = record { here = p.here; top = p.top; runner-up = p.runner-up; ahead = p.ahead; others = p.others }

says : (level : ℕ) (v : Float) → Says level v → back.Says level v
says level v p = record { is = p.is; light = p.light; dark = p.dark }

pub returns : goal.returns
returns c =
    record {
      cell = λ bits k m cxs cys j b good on h ll y p l. back.read_cell bits k m cxs cys j b good on h ll y (leads ll k _ y p) l;
      ring = λ bits k m cxs cys j b good on h ll y p l. back.read-ring bits k m cxs cys j b good on h ll y (leads ll k _ y p) l;
      grid-luma = λ bits xs ys g mask i v p l. back.read-grid bits xs ys g mask i v (says _ v p) l;
      ring-luma = λ bits xs ys g mask i v p l. back.read-ring-luma bits xs ys g mask i v (says _ v p) l;
    }
