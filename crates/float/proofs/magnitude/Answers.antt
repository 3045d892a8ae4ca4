-- `float::magnitude` meets its contract. Each return is a law of `proofs/Single.antt`. Assumes nothing.
use Rattle.std.proofs.Common.{arith}
use Rattle.float.proofs.Single.{narrows-inf, high-field, narrows-high, narrows-low, narrows-zero}
use Rattle.float.proofs.magnitude.Goals as goal

pub overflow_sub-result : goal.overflow_sub-result
overflow_sub-result c = high-field c.args.m c.round_shift.result (omega arith) c.round_shift.ensures

pub returns-then-wrapping_sub_u64-lt254 : goal.returns-then-wrapping_sub_u64-lt254
returns-then-wrapping_sub_u64-lt254 c = narrows-high c.args.m c.round_shift.result (omega arith) (omega arith) c.round_shift.ensures

pub overflow_cast-result : goal.overflow_cast-result
overflow_cast-result c = omega (arith, (returns-then-wrapping_sub_u64-lt254 c).small)

pub returns-then-field-ge1151 : goal.returns-then-field-ge1151
returns-then-field-ge1151 c = narrows-inf c.args.m c.requires c.if-field-ge1151.true

pub returns-then-field-ge864 : goal.returns-then-field-ge864
returns-then-field-ge864 c =
    narrows-low c.args.m c.round_shift-then-field-ge864.result c.if-field-ge864.true (omega arith)
    c.round_shift-then-field-ge864.ensures

pub overflow_cast-result-then-field-ge864 : goal.overflow_cast-result-then-field-ge864
overflow_cast-result-then-field-ge864 c = omega (arith, (returns-then-field-ge864 c).small)

pub returns : goal.returns
returns c = narrows-zero c.args.m c.if-field-ge864.false
