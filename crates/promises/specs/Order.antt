-- Order (crate `order`): what a selection and a median are, in words of order and number. Definitions only.
use Rattle.std.specs.Prelude.{◌≡◌, false, ℕ, ◌/◌, ◌%◌, ◌<◌, T, length, get_or, Float}
use mathlib.Core.List.{List, map, Permᴰ}
use Rattle.std.specs.Float.{nan, binary32}
use Rattle.std.specs.Float.Ieee.{fits, lt}
use Rattle.order.specs.Median.{selected, median_of, ordered_of, zero32}
use Rattle.order.specs.Deviation.{deviation}
use Rattle.order.specs.Law.{Numbers, NoNegativeZero, Sorted, Rank, HalfSum}

pub record MiddleOfAny : Type 0 where
  -- for every list, with NaN too: the values that a selection, and so `median`, leaves are those that it was given, in some order
  pub selection_permutes : (k : ℕ) (xs : List Float) → k < length xs → Permᴰ (selected k xs) xs
  pub permutes : (xs : List Float) → Permᴰ (ordered_of xs).values xs
  -- of none it is 0
  pub none : (xs : List Float) → length xs ≡ 0 → median_of xs ≡ zero32
  -- without NaN: the middle one of an odd number of values, half the sum of the middle pair of an even number
  pub odd : (xs : List Float) → Numbers xs → length xs % 2 ≡ 1 → Rank (length xs / 2) xs (median_of xs)
  pub even : (xs : List Float) → Numbers xs → 0 < length xs → length xs % 2 ≡ 0 → HalfSum xs (median_of xs)
  -- what a selection brings to place k has the rank k, and is neither below nor above what stands there in any sorted order
  pub selected_rank : (k : ℕ) (xs : List Float) → k < length xs → Numbers xs → Rank k xs (get_or (selected k xs) k nan)
  pub selected-sorted : (k : ℕ) (xs ss : List Float) → k < length xs → Numbers xs → Permᴰ ss xs → Sorted ss
      → (lt (get_or ss k nan) (get_or (selected k xs) k nan) ≡ false) × (lt (get_or (selected k xs) k nan) (get_or ss k nan) ≡ false)
  -- a rank tells the value but for the sign of a zero
  pub rank_unique : (k : ℕ) (xs : List Float) (r s : Float) → Numbers xs → Rank k xs r → Rank k xs s → (lt r s ≡ false) × (lt s r ≡ false)

-- the same values in another order
pub record AnyOrder : Type 0 where
  -- have the same median, bit for bit, where each is an f32, none is a NaN and no zero is negative
  pub median : (xs ys : List Float) → Permᴰ ys xs → Numbers xs → NoNegativeZero xs → ((i : ℕ) → T (fits binary32 (get_or xs i nan))) → median_of ys ≡ median_of xs
  -- and the same median distance from m, where no distance is a NaN
  pub deviation : (m : Float) (xs ys : List Float) → Permᴰ ys xs → Numbers (map (deviation m) xs) → median_of (map (deviation m) ys) ≡ median_of (map (deviation m) xs)
