-- How a palette divides the colours: the 32,768 sRGB colours whose bytes are multiples of 8, the class of each, and the counts. Definitions only.
use Rattle.std.specs.Prelude.{◌≡◌, Bool, true, false, not, cond, ◌&&◌, ◌||◌, List, ℕ, zero, suc, ◌+◌, ◌*◌, ◌/◌, ◌%◌, ◌≤◌, ◌<◌, eqb, length, get_or, set, replicate, Float}
use Rattle.std.specs.Float.{nan, binary32}
use Rattle.std.specs.Float.Ieee.{is_nan, lt}
use Rattle.floatlaws.specs.Finite.{Fin}
use Rattle.loops.specs.Loops.{for_up}
use Rattle.lists.specs.Lists.{replaced}
use Rattle.limits.specs.Chroma.{chroma_on, hue_classes}
use Rattle.color.specs.declared.Srgb8.{Srgb8}
use Rattle.color.specs.declared.Lab.{Lab}
use Rattle.color.specs.Color.{srgb8, whole, fraction, srgb8_to_linear, linear_to_lab}
use Rattle.reading.specs.Read.{reads}
use Rattle.illum.specs.Correct.{corrected, unit_model}
use Rattle.stats.specs.declared.ChannelStats.{ChannelStats}
use Rattle.stats.specs.Noise.{luma_llr, hue_log_likelihoods}

-- ---- the colours

-- "the 32,768 sRGB colours whose three bytes are multiples of 8"
abbrev pub byte_at : ℕ → ℕ
byte_at i = 8 * i

-- colour i: red slowest, blue fastest
unfoldable pub colour_at : ℕ → Srgb8
colour_at i = srgb8 (byte_at (i / 1024)) (byte_at (i / 32 % 32)) (byte_at (i % 32))

-- the middle of the first module
abbrev pub half : Float
half = fraction 1 2

-- "under the unit model", the one of side 1 and 4 terms: the colour corrected and in Lab, as scoring takes a sample
unfoldable pub sample_at : ℕ → Lab
sample_at i = linear_to_lab (corrected (unit_model 1 4) half half (srgb8_to_linear (colour_at i))).colour

-- no other choice would change a count: each unit model leaves each of the colours bit for bit, at every finite position
pub record UnitLeaves : Type 0 where
  pub leaves : (side terms : ℕ) → 1 ≤ side → (x y : Float) → Fin binary32 x → Fin binary32 y → (i : ℕ) → i < 32768 →
      (corrected (unit_model side terms) x y (srgb8_to_linear (colour_at i))).colour ≡ srgb8_to_linear (colour_at i)

-- ---- the hue

-- "a NaN ranking below every other likelihood"
unfoldable pub beats : Float → Float → Bool
beats x y = not (is_nan x) && (is_nan y || lt y x)

-- h where it beats the best so far, else that
unfoldable pub better : List Float → ℕ → ℕ → ℕ
better ll h best = cond (beats (get_or ll h nan) (get_or ll best nan)) h best

-- "the highest hue likelihood, the lowest hue on equality": hue 0, until a hue beats the best before it
abbrev pub highest_of : List Float → ℕ → ℕ
highest_of ll k = for_up 1 k (better ll) 0

-- what that is: no hue beats it, it beats every lower one, and it is a NaN only where all are
pub record Highest (ll : List Float) (k h : ℕ) : Type 0 where
  pub among : h < k
  pub beaten_by_none : (g : ℕ) → g < k → beats (get_or ll g nan) (get_or ll h nan) ≡ false
  pub beats-lower : (g : ℕ) → g < h → beats (get_or ll h nan) (get_or ll g nan) ≡ true
  pub nan_last : is_nan (get_or ll h nan) ≡ true → (g : ℕ) → g < k → is_nan (get_or ll g nan) ≡ true

-- ---- the class

-- one a level and hue class, and one more
abbrev pub classes : ℕ → ℕ
classes k = 2 * hue_classes k + 1

-- "colours whose `luma_llr` is zero or NaN": it reads as no bit
unfoldable pub undecided : Float → Bool
undecided v = eqb (reads v) 2

-- the likelihoods of the hues, in room for 16
abbrev pub likelihoods : ChannelStats → List Float → ℕ → Lab → List Float
likelihoods n palette k s = hue_log_likelihoods n s palette k (replicate 16 (whole 0))

-- the likeliest hue; 0 with chroma off
unfoldable pub hue_class : ChannelStats → List Float → ℕ → Lab → ℕ
hue_class n palette k s = cond (chroma_on k) (highest_of (likelihoods n palette k s) k) 0

-- "in palette order": dark by hue, then light by hue; "after the others" those that are neither
unfoldable pub class_of : ChannelStats → List Float → ℕ → Lab → ℕ
class_of n palette k s =
    let v = luma_llr n s.l in
    cond (undecided v) (2 * hue_classes k) (cond (lt v (whole 0)) (hue_classes k) 0 + hue_class n palette k s)

-- what class c says of the sign of `luma_llr`: it is one of the dark exactly above zero, the last exactly where that is zero or a NaN, and so one of the light exactly below zero
pub record Class (n : ChannelStats) (k : ℕ) (s : Lab) (c : ℕ) : Type 0 where
  pub among : c < classes k
  pub dark : lt (whole 0) (luma_llr n s.l) ≡ true → c < hue_classes k
  pub only-dark : c < hue_classes k → lt (whole 0) (luma_llr n s.l) ≡ true
  pub last : undecided (luma_llr n s.l) ≡ true → c ≡ 2 * hue_classes k
  pub only_last : c ≡ 2 * hue_classes k → undecided (luma_llr n s.l) ≡ true

-- ---- the counts

-- one more in the class of colour i
unfoldable pub count_at : ChannelStats → List Float → ℕ → ℕ → List ℕ → List ℕ
count_at n palette k i out =
    let c = class_of n palette k (sample_at i) in
    set out c (get_or out c 0 + 1)

-- the same for every colour
abbrev pub count_all : ChannelStats → List Float → ℕ → List ℕ → List ℕ
count_all n palette k out = for_up 0 32768 (count_at n palette k) out

-- the first n entries are 0, the others as they were
abbrev pub cleared : ℕ → List ℕ → List ℕ
cleared n out = replaced 0 n (λ i x. 0) out

-- the counts at the front of `out`
abbrev pub counted : ChannelStats → List Float → ℕ → List ℕ → List ℕ
counted n palette k out = count_all n palette k (cleared (classes k) out)

-- the sum of the first n entries
unfoldable pub total : ℕ → List ℕ → ℕ
total zero l = 0
total (suc n) l = total n l + get_or l n 0

-- the list has n entries, and the first n add up to t
pub record Sums (n t : ℕ) (l : List ℕ) : Type 0 where
  pub long : n ≤ length l
  pub sum : total n l ≡ t

-- ---- what the counts are

-- how many of the first t colours fall to class c
unfoldable pub fallen : ChannelStats → List Float → ℕ → ℕ → ℕ → ℕ
fallen n palette k zero c = 0
fallen n palette k (suc i) c = fallen n palette k i c + cond (eqb (class_of n palette k (sample_at i)) c) 1 0

-- "Count how many fall to each level and hue .. so all counts sum to 32,768"; what lies past the counts is kept
pub record Divides (n : ChannelStats) (palette : List Float) (k : ℕ) (before after : List ℕ) : Type 0 where
  pub sum : Sums (classes k) 32768 after
  pub each : (c : ℕ) → c < classes k → get_or after c 0 ≡ fallen n palette k 32768 c
  pub rest : (c : ℕ) → classes k ≤ c → get_or after c 0 ≡ get_or before c 0
