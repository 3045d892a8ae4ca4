-- Inside the margin no score reads as 2: each has the sign of what was drawn, as the read guarantee's proof finds out, and reads as a bit. Assumes nothing.
use mathlib.Core.Path.{◌≡◌, refl}
use mathlib.Core.Bool.{Bool, true, false}
use Prim.Native.Nat.{ℕ, ◌<◌}
use native.Mathlib.Omega.{arith}
use lib.Dec.{ltb}
use lib.ListN.{get_or}
use lib.Ieee.{nan}
use Rattle.limits.specs.Chroma.{chroma_on}
use Rattle.modulate.proofs.Symbols.{bit_lt}
use Rattle.reading.specs.Read.{reads}
use Rattle.margin.specs.declared.Threshold.TheVariants.{Nine}
use Rattle.guarantee.specs.Card.{Setting, Card, chroma_scores, scored_card}
use Rattle.guarantee.specs.Guarantee.{Singles, Readable, InMarginAt, NoNan}
use Rattle.guarantee.specs.Erased.{NoneErased, NoneErasedInside, NoneErasedAtNine}
use Rattle.guarantee.proofs.Known.{at_nine}
use Rattle.guarantee.proofs.ReadLuma.{score_reads, refined-reads, read-unmasked, no_nan}
use Rattle.guarantee.proofs.ReadChroma.{chroma-reads}
use Rattle.guarantee.proofs.Guarantee.{off}

below : (x y : ℕ) → x ≡ y → y < 2 → x < 2
below x y e h = omega arith

module _ (s : Setting) (c : Card) (S : Singles s) (M : InMarginAt Nine s) (R : Readable s c) (N : NoNan s c) where
  chroma : (b : Bool) → chroma_on s.layout.hues ≡ b → (j : ℕ) → j < chroma_scores s → reads (get_or (scored_card s c).chroma j nan) < 2
  chroma true e j h = below _ _ (chroma-reads s c S M R e j h) (bit_lt _)
  chroma false e j h = absurd (omega (arith, off s c S M R false e refl))

  none-erased : NoneErased s c
  none-erased =
      record {
        scored = score_reads s c S M R;
        refined = λ i h. refined-reads s c S M R i h (N i h);
        unmasked = λ i h. below _ _ (read-unmasked s c S M R i h (N i h) (ltb i s.layout.grid) refl) (bit_lt _);
        chroma = chroma (chroma_on s.layout.hues) refl;
      }

pub none-erased_at_nine : NoneErasedAtNine
none-erased_at_nine = none-erased

-- at 13, where no refined score is a NaN
pub none-erased-inside : NoneErasedInside
none-erased-inside s c S M R = none-erased s c S (at_nine s M) R (no_nan s c S M R)
