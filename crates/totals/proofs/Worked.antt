-- Worked examples, which antt computes: ties go to the even 65,536th; 12 is not under 12, and what lies just below it is; Euclid on two small numbers. Assumes nothing.
use mathlib.Core.Path.{◌≡◌, refl}
use mathlib.Core.Bool.{true, false}
use mathlib.Core.List.{[], ◌∷◌, map}
use lib.Ieee.{binary32, round, lt, le, eq, of_bits}
use Rattle.floatlaws.specs.Value.{mag}
use Rattle.float.specs.Select.{abs}
use Rattle.loops.specs.Loops.{while_go, while_do}
use Rattle.color.specs.Color.{fraction}
use Rattle.reading.specs.Read.{reads}
use Rattle.totals.specs.Score.{unfit, undecided, under, parts_of, per_part}
use Rattle.totals.specs.Batch.{totals}
use Rattle.totals.specs.LowestTerms.{over, goes_further, next, gcd, ratio_of}

-- a half, just above it, one and a half, two and a half, three and a half, -3.5, just below 12, 12, 20, the smallest value
parts : map (λ b. parts_of (of_bits binary32 b)) (0x3700_0000 ∷ 0x3700_0001 ∷ 0x37c0_0000 ∷ 0x3820_0000 ∷ 0x3860_0000 ∷ 0xb860_0000 ∷ 0x413f_ffff ∷ 0x4140_0000 ∷ 0x41a0_0000 ∷ 1 ∷ [])
    ≡ 0 ∷ 1 ∷ 2 ∷ 2 ∷ 4 ∷ 4 ∷ 786432 ∷ 786432 ∷ 1310720 ∷ 0 ∷ []
unfolding parts_of per_part of_bits mag
parts = refl

unders : map (λ b. under (of_bits binary32 b)) (0x413f_ffff ∷ 0x4140_0000 ∷ 0xc13f_ffff ∷ 0xc140_0000 ∷ 0 ∷ []) ≡ true ∷ false ∷ true ∷ false ∷ true ∷ []
unfolding under of_bits abs lt fraction round
unders = refl

-- both zeros and a NaN, and not the smallest value
undecideds : map (λ b. undecided (of_bits binary32 b)) (0 ∷ 0x8000_0000 ∷ 0x7fc0_0000 ∷ 1 ∷ []) ≡ true ∷ true ∷ true ∷ false ∷ []
unfolding undecided reads of_bits lt
undecideds = refl

-- 20, -20, just above 20, an infinity, a NaN
unfits : map (λ b. unfit (of_bits binary32 b)) (0x41a0_0000 ∷ 0xc1a0_0000 ∷ 0x41a0_0001 ∷ 0xff80_0000 ∷ 0x7fc0_0000 ∷ []) ≡ false ∷ false ∷ true ∷ true ∷ true ∷ []
unfolding unfit of_bits abs le lt eq fraction round
unfits = refl

mean : map ratio_of (totals 1 6 0 6 3 ∷ totals 7 0 0 0 0 ∷ totals 1 12 12 12 0 ∷ totals 2 21 0 0 34 ∷ []) ≡ over 1 2 ∷ over 0 1 ∷ over 0 1 ∷ over 34 21 ∷ []
unfolding ratio_of gcd goes_further next while_do while_go
mean = refl
