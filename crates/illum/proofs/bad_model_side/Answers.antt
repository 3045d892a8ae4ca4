-- `illum::bad_model_side` meets its contract, by its three tests; what lies between 1 and 1,024 has a whole part, and that is an f32.
-- Assumes nothing.
use Rattle.std.proofs.Common.{le→leb, ◌≡◌, ℕ, true, false, pos, arith}
use lib.Ieee.{Float, binary32, le, ne, of_bits, of_int, in_float, to_unsigned}
use Rattle.illum.specs.Refusals.{bad_model_side}
use Rattle.illum.proofs.Side.{one_is, most_is, above, below, cut}
use Rattle.illum.proofs.bad_model_side.Goals as goal

module _ (s a b : Float) (ea : a ≡ of_int binary32 (pos 1)) (eb : b ≡ of_int binary32 (pos 1024)) where
  tested : (k : ℕ) → le a s ≡ true → le s b ≡ true → k ≡ to_unsigned 64 s → ne (of_int binary32 (pos k)) s ≡ bad_model_side s
  unfolding bad_model_side ne
  tested k t u e = cc

  over : le a s ≡ true → le s b ≡ false → true ≡ bad_model_side s
  unfolding bad_model_side
  over t u = cc

under : (s a : Float) → a ≡ of_int binary32 (pos 1) → le a s ≡ false → true ≡ bad_model_side s
unfolding bad_model_side
under s a ea t = cc

pub truncating_f32_to_u64-requires : goal.truncating_f32_to_u64-requires
unfolding of_bits
truncating_f32_to_u64-requires c = record { lower_bound = above _ c.if-side.true; upper_bound = below _ c.if-side-2.true }

pub int_to_float-result : goal.int_to_float-result
unfolding of_bits in_float
int_to_float-result c =
    le→leb c.truncating_f32_to_u64.result 16777216 (omega (arith, cut _ c.if-side-2.true, c.truncating_f32_to_u64.ensures))

pub returns-then-side-2 : goal.returns-then-side-2
returns-then-side-2 c = search (tested, one_is, most_is)

pub returns-else-side-2 : goal.returns-else-side-2
returns-else-side-2 c = search (over, one_is, most_is)

pub returns-else-side : goal.returns-else-side
returns-else-side c = search (under, one_is)
