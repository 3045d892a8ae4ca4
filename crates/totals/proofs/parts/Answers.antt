-- `totals::parts` meets its contract: the 24 digits, shifted by what the exponent's field says. Assumes nothing.
use mathlib.Core.Path.{◌≡◌, sym, subst}
use mathlib.Core.Bool.{true, false}
use Prim.Native.Nat.{◌≤◌, ◌/◌}
use native.Mathlib.Omega.{arith}
use lib.Dec.{T}
use lib.Ieee.{Float, binary32, fits}
use Rattle.totals.specs.Score.{unfit}
use Rattle.totals.proofs.Score.{pattern, fit-real, none, some, field-most, parts_are}
use Rattle.totals.proofs.parts.Goals as goal

-- the format holds what the function is handed
held : (v : Float) → fits binary32 v ≡ true → T (fits binary32 v)
held v e = subst T (sym e) tt

-- from 110 to 131
fields : (v : Float) → fits binary32 v ≡ true → unfit v ≡ false → 110 ≤ pattern v / 0x80_0000 → (110 ≤ pattern v / 0x80_0000) × (pattern v / 0x80_0000 ≤ 131)
fields v e u h = (h, field-most v (held v e) u h)

pub float_to_bits-g : goal.float_to_bits-g
float_to_bits-g c = fit-real c.args.v c.requires

pub returns-then-field-lt110 : goal.returns-then-field-lt110
returns-then-field-lt110 c =
    let at = c in
    parts_are at.args.v at.requires 0 (none at.args.v (held at.args.v at.well_formed.0.1) at.requires c.if-field-lt110.true)

pub overflow_sub-field : goal.overflow_sub-field
overflow_sub-field c = let h = fields c.args.v c.well_formed.0.1 c.requires c.if-field-lt110.false in omega arith

pub round_shift-requires : goal.round_shift-requires
round_shift-requires c = let h = fields c.args.v c.well_formed.0.1 c.requires c.if-field-lt110.false in record { in_range = omega arith; some = omega arith; in_width = omega arith }

pub returns : goal.returns
returns c =
    let at = c in
    parts_are at.args.v at.requires c.round_shift.result
    (some at.args.v (held at.args.v at.well_formed.0.1) at.requires c.round_shift.result (fields c.args.v c.well_formed.0.1 c.requires c.if-field-lt110.false).0 (cc (c.round_shift.ensures, c.from.ensures, c.from-2.ensures)))
