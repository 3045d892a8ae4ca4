-- What a class says: it is below the number of classes; one of the dark exactly where `luma_llr` is above zero; the last exactly where that is neither above nor below. Assumes nothing.
use mathlib.Core.Path.{◌≡◌, refl, sym, ◌∙◌}
use mathlib.Core.Bool.{Bool, true, false, not, cond, ◌&&◌, true≢false, false≢true}
use mathlib.Core.List.{List}
use Prim.Native.Nat.{ℕ, ◌+◌, ◌*◌, ◌<◌}
use native.Mathlib.Omega.{arith}
use mir.Syntax.{w64}
use mir.Val.{Fits}
use lib.Dec.{eqb}
use lib.IntN.{pos}
use lib.Ieee.{Float, fin, lt, binary32, of_bits, round}
use Rattle.limits.specs.Limits.{bad_hues}
use Rattle.limits.specs.Chroma.{chroma_on, hue_classes}
use Rattle.order.proofs.Order.{lt_asym}
use Rattle.color.specs.declared.Lab.{Lab}
use Rattle.color.specs.Color.{fraction, whole}
use Rattle.color.proofs.Numbers.{n0}
use Rattle.reading.specs.Read.{reads}
use Rattle.stats.specs.declared.ChannelStats.{ChannelStats}
use Rattle.stats.specs.Noise.{luma_llr}
use Rattle.counts.specs.Counts.{likelihoods, highest_of, undecided, hue_class, class_of, Class}
use Rattle.counts.proofs.Bounds.{some-hues, few-classes}
use Rattle.counts.proofs.Ranks.{highest_is}

-- ---- the hue class is among them

below_by : (b : Bool) (h k : ℕ) → h < k → cond b h 0 < cond b k 1
below_by true h k l = l
below_by false h k l = omega arith

pub hue-below : (n : ChannelStats) (palette : List Float) (k : ℕ) (s : Lab) → bad_hues k ≡ false → hue_class n palette k s < hue_classes k
unfolding hue_class hue_classes
hue-below n palette k s h =
    let ll = likelihoods n palette k s in
    below_by (chroma_on k) (highest_of ll k) k (highest_is ll k (some-hues k h)).among

-- ---- the class by the two tests of the sign, of which at most one holds

abbrev class_by : Bool → Bool → ℕ → ℕ → ℕ
class_by below above m h = cond (not below && not above) (2 * m) (cond below m 0 + h)

record Says (below above : Bool) (m c : ℕ) : Type 0 where
  among : c < 2 * m + 1
  dark : above ≡ true → c < m
  only-dark : c < m → above ≡ true
  last : not below && not above ≡ true → c ≡ 2 * m
  only_last : c ≡ 2 * m → not below && not above ≡ true

says : (below above : Bool) (m h : ℕ) → h < m → (above ≡ true → below ≡ false) → Says below above m (class_by below above m h)
says true true m h l e = absurd (true≢false (e refl))
says true false m h l e =
    record {
      among = omega arith;
      dark = λ z. absurd (false≢true z);
      only-dark = λ z. absurd (omega arith);
      last = λ z. absurd (false≢true z);
      only_last = λ z. absurd (omega arith);
    }
says false true m h l e =
    record {
      among = omega arith;
      dark = λ z. omega arith;
      only-dark = λ z. refl;
      last = λ z. absurd (false≢true z);
      only_last = λ z. absurd (omega arith);
    }
says false false m h l e =
    record {
      among = omega arith;
      dark = λ z. absurd (false≢true z);
      only-dark = λ z. absurd (omega arith);
      last = λ z. refl;
      only_last = λ z. refl;
    }

-- what reads as no bit, by the two tests
zero_is : fin false 0 (pos 0) ≡ whole 0
unfolding fraction round
zero_is = refl

read_by : (below above : Bool) → eqb (cond below 1 (cond above 0 2)) 2 ≡ not below && not above
read_by true above = refl
read_by false true = refl
read_by false false = refl

undecided_is : (v : Float) → undecided v ≡ not (lt v (whole 0)) && not (lt (whole 0) v)
unfolding undecided reads
undecided_is v = rw zero_is (read_by (lt v (whole 0)) (lt (whole 0) v))

class_of_is : (n : ChannelStats) (palette : List Float) (k : ℕ) (s : Lab) →
    class_of n palette k s ≡ class_by (lt (luma_llr n s.l) (whole 0)) (lt (whole 0) (luma_llr n s.l)) (hue_classes k) (hue_class n palette k s)
unfolding class_of
class_of_is n palette k s = rw (undecided_is (luma_llr n s.l))

module _ (n : ChannelStats) (palette : List Float) (k : ℕ) (s : Lab) (ok : bad_hues k ≡ false) where
  pub class_is : Class n k s (class_of n palette k s)
  class_is =
      let v = luma_llr n s.l in
      let u = undecided_is v in
      let p = says (lt v (whole 0)) (lt (whole 0) v) (hue_classes k) (hue_class n palette k s) (hue-below n palette k s ok) (lt_asym (whole 0) v) in
      rw (class_of_is n palette k s)
      (record { among = p.among; dark = p.dark; only-dark = p.only-dark; last = λ z. p.last (sym u ∙ z); only_last = λ z. u ∙ p.only_last z })

  pub class_here : (r : ℕ) → r ≡ class_of n palette k s → Class n k s r
  class_here r e = rw e class_is

-- ---- the returns of `class_of`

by_dark : (b a : Bool) (m h : ℕ) → a ≡ true → b ≡ false → h ≡ class_by b a m h
by_dark false true m h e f = omega arith
by_dark false false m h e f = absurd (false≢true e)
by_dark true a m h e f = absurd (true≢false f)

by_light : (b a : Bool) (m h : ℕ) → a ≡ false → b ≡ true → m + h ≡ class_by b a m h
by_light true a m h e f = refl
by_light false a m h e f = absurd (false≢true f)

by_neither : (b a : Bool) (m h : ℕ) → a ≡ false → b ≡ false → 2 * m ≡ class_by b a m h
by_neither false false m h e f = refl
by_neither false true m h e f = absurd (true≢false e)
by_neither true a m h e f = absurd (true≢false f)

module _ (n : ChannelStats) (palette : List Float) (k : ℕ) (s : Lab) (v : Float) (e : v ≡ luma_llr n s.l) where
  pub dark_class : (r : ℕ) → r ≡ hue_class n palette k s → lt (of_bits binary32 0) v ≡ true → r ≡ class_of n palette k s
  dark_class r h t =
      let a : lt (whole 0) (luma_llr n s.l) ≡ true = rw (n0, e) at t in
      h ∙ by_dark _ _ (hue_classes k) (hue_class n palette k s) a (lt_asym (whole 0) (luma_llr n s.l) a) ∙ sym (class_of_is n palette k s)

  pub dark-says : (r : ℕ) → r ≡ hue_class n palette k s → lt (of_bits binary32 0) v ≡ true → bad_hues k ≡ false → Class n k s r
  dark-says r h t ok = class_here n palette k s ok r (dark_class r h t)

  module _ (m : ℕ) (g : m ≡ hue_classes k) (f : lt (of_bits binary32 0) v ≡ false) where
    a_false : lt (whole 0) (luma_llr n s.l) ≡ false
    a_false = rw (n0, e) at f

    pub light_class : (r : ℕ) → r ≡ hue_class n palette k s → lt v (of_bits binary32 0) ≡ true → m + r ≡ class_of n palette k s
    light_class r h t =
        let b : lt (luma_llr n s.l) (whole 0) ≡ true = rw (n0, e) at t in
        rw (g, h) (by_light _ _ (hue_classes k) (hue_class n palette k s) a_false b ∙ sym (class_of_is n palette k s))

    pub light-says : (r : ℕ) → r ≡ hue_class n palette k s → lt v (of_bits binary32 0) ≡ true → bad_hues k ≡ false → Class n k s (m + r)
    light-says r h t ok = class_here n palette k s ok (m + r) (light_class r h t)

    pub last_class : lt v (of_bits binary32 0) ≡ false → 2 * m ≡ class_of n palette k s
    last_class t =
        let b : lt (luma_llr n s.l) (whole 0) ≡ false = rw (n0, e) at t in
        rw g (by_neither _ _ (hue_classes k) (hue_class n palette k s) a_false b ∙ sym (class_of_is n palette k s))

    pub last_says : lt v (of_bits binary32 0) ≡ false → bad_hues k ≡ false → Class n k s (2 * m)
    last_says t ok = class_here n palette k s ok (2 * m) (last_class t)

-- what the code adds and doubles is small
module _ (k m : ℕ) (g : m ≡ hue_classes k) (ok : bad_hues k ≡ false) where
  pub light-fits : (n : ChannelStats) (palette : List Float) (s : Lab) (r : ℕ) → r ≡ hue_class n palette k s → Fits w64 (m + r)
  light-fits n palette s r h = record { fits = omega (arith, few-classes k ok, hue-below n palette k s ok) }

  pub last_fits : Fits w64 (2 * m)
  last_fits = record { fits = omega (arith, few-classes k ok) }
