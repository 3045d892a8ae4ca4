-- What the floats of a list of records are: eight each, so the first i records are the first 8 × i floats, and reference i of them is record i. Assumes nothing.
use mathlib.Core.Path.{◌≡◌, refl, sym, ap, ◌∙◌}
use mathlib.Core.Bool.{false, not}
use mathlib.Core.List.{List, [], ◌∷◌, ◌++◌, append_assoc, append-nil}
use Prim.Native.Nat.{ℕ, zero, suc, ◌+◌, ◌*◌, ◌/◌, ◌%◌, ◌<◌}
use native.Mathlib.Omega.{arith}
use native.Mathlib.Nat.{not-suc-le-zero, le_of_suc-le-suc}
use borrow.Author.Tests.{eq-eqb}
use lib.Dec.{eqb}
use lib.ListN.{length, get_or, take, length-append, get_or-append}
use lib.Seq.{get_or-append-add}
use lib.Ieee.{Float, nan}
use Rattle.references.specs.References.{x_at, y_at, observed_at, nominal_at}
use Rattle.records.specs.declared.Reference.{Reference}
use Rattle.records.specs.Records.{eight, flattened, no_reference}

-- one record more
pub flattened-more : (ps : List Reference) (i : ℕ) → i < length ps → flattened (take (suc i) ps) ≡ flattened (take i ps) ++ eight (get_or ps i no_reference)
unfolding flattened
flattened-more [] i l = absurd (not-suc-le-zero l)
flattened-more (p ∷ ps) zero l = append-nil (eight p)
flattened-more (p ∷ ps) (suc i) l =
    ap (λ (t : List Float). eight p ++ t) (flattened-more ps i (le_of_suc-le-suc l)) ∙ sym (append_assoc (eight p) (flattened (take i ps)) (eight (get_or ps i no_reference)))

pub flattened-length : (ps : List Reference) → length (flattened ps) ≡ 8 * length ps
unfolding flattened
flattened-length [] = refl
flattened-length (p ∷ ps) = omega (arith, length-append (eight p) (flattened ps), flattened-length ps)

-- the flat form finds as many references, and none cut off
module _ (ps : List Reference) where
  pub as_many : length (flattened ps) / 8 ≡ length ps
  as_many = omega (arith, flattened-length ps)

  pub none-cut : not (eqb (length (flattened ps) % 8) 0) ≡ false
  none-cut = ap not (eq-eqb (length (flattened ps) % 8) 0 (omega (arith, flattened-length ps)))

-- ---- reference i of the floats is record i

-- float k of it stands at place j
float_is : (ps : List Reference) (i k j : ℕ) → i < length ps → k < 8 → j ≡ 8 * i + k → get_or (flattened ps) j nan ≡ get_or (eight (get_or ps i no_reference)) k nan
unfolding flattened
float_is [] i k j h l e = absurd (not-suc-le-zero h)
float_is (p ∷ ps) zero k j h l e =
    let q : j ≡ k = omega arith in
    ap (λ (n : ℕ). get_or (eight p ++ flattened ps) n nan) q ∙ get_or-append (eight p) (flattened ps) nan k l
float_is (p ∷ ps) (suc i) k j h l e =
    let q : j ≡ 8 + (8 * i + k) = omega arith in
    ap (λ (n : ℕ). get_or (eight p ++ flattened ps) n nan) q ∙ get_or-append-add (eight p) (flattened ps) (8 * i + k) nan
    ∙ float_is ps i k (8 * i + k) (le_of_suc-le-suc h) l refl

pub record Reads (flat : List Float) (i : ℕ) (p : Reference) : Type 0 where
  pub x : x_at flat i ≡ p.x
  pub y : y_at flat i ≡ p.y
  pub observed : observed_at flat i ≡ p.observed
  pub nominal : nominal_at flat i ≡ p.nominal

module _ (ps : List Reference) (i : ℕ) (h : i < length ps) where
  is : (k j : ℕ) → k < 8 → j ≡ 8 * i + k → get_or (flattened ps) j nan ≡ get_or (eight (get_or ps i no_reference)) k nan
  is k j l e = float_is ps i k j h l e

  pub reads : Reads (flattened ps) i (get_or ps i no_reference)
  reads =
      record {
        x = is 0 (8 * i) (omega arith) (omega arith);
        y = is 1 (8 * i + 1) (omega arith) refl;
        observed = rw (is 2 (8 * i + 2 + 0) (omega arith) (omega arith), is 3 (8 * i + 2 + 1) (omega arith) (omega arith), is 4 (8 * i + 2 + 2) (omega arith) (omega arith));
        nominal = rw (is 5 (8 * i + 5 + 0) (omega arith) (omega arith), is 6 (8 * i + 5 + 1) (omega arith) (omega arith), is 7 (8 * i + 5 + 2) (omega arith) (omega arith));
      }
