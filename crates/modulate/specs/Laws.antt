-- What two calls of `unmask_luma` in a row leave (document 02, P14), and what an unmasked score reads as (P2). Definitions only.
use Rattle.std.specs.Prelude.{◌≡◌, cond, List, ℕ, ℤ, Float}
use Rattle.reading.specs.Read.{reads}
use Rattle.reading.specs.Erasure.{turned}
use Rattle.modulate.specs.Score.{masked_at, unmask_at, unmask_luma_of}

-- "unmasking the same scores twice, by one mask over the same modules, restores every bit of them": the whole slice, whatever the call takes, also where both calls are refused. The definitions have one NaN,
-- so that NaNs count as equal
abbrev pub UnmaskingTwice : Type 0
UnmaskingTwice =
    (luma : List Float) (side : ℕ) (xs ys : List ℤ) (g mask : ℕ) → (unmask_luma_of (unmask_luma_of luma side xs ys g mask).list side xs ys g mask).list ≡ luma

-- "before as after unmasking": where the mask turns module i a bit that is read is turned, and an erasure stays one
abbrev pub UnmaskedReads : Type 0
UnmaskedReads =
    (id : ℕ) (xs ys : List ℤ) (i : ℕ) (v : Float) → reads (unmask_at id xs ys i v) ≡ cond (masked_at id xs ys i) (turned (reads v)) (reads v)
