-- The mean magnitude in 65,536ths, as two whole numbers without common factor. Definitions only.
use Rattle.std.specs.Prelude.{◌≡◌, Bool, not, cond, List, [], ◌∷◌, ℕ, ◌*◌, ◌/◌, ◌%◌, ◌<◌, eqb}
use Rattle.std.specs.Int.{◌∣◌}
use Rattle.sentences.specs.Sentences.{Sentence, ◌when◌}
use Rattle.answers.specs.Answers.{Said, gives, answered}
use Rattle.loops.specs.Loops.{while_do}
use Rattle.totals.specs.declared.Totals.{Totals}
use Rattle.totals.specs.declared.Ratio.{Ratio}
use Rattle.totals.specs.Batch.{bad_totals}

-- ---- the greatest common divisor, by Euclid

pub record Pair : Type 0 where
  pub x : ℕ
  pub y : ℕ

abbrev pub pair : ℕ → ℕ → Pair
pair x y = record { x = x; y = y }

abbrev pub rest : Pair → ℕ
rest p = p.y

unfoldable pub goes_further : Pair → Bool
goes_further p = not (eqb p.y 0)

unfoldable pub next : Pair → Pair
next p = pair p.y (p.x % p.y)

abbrev pub euclid : Pair → Pair
euclid p = while_do rest goes_further next p

unfoldable pub gcd : ℕ → ℕ → ℕ
gcd a b = (euclid (pair a b)).x

-- ---- the mean

abbrev pub over : ℕ → ℕ → Ratio
over n d = record { numerator = n; denominator = d }

-- "with no modules it is 0 over 1"
unfoldable pub ratio_of : Totals → Ratio
unfolding gcd
ratio_of t = cond (eqb t.modules 0) (over 0 1) (over (t.sum / gcd t.sum t.modules) (t.modules / gcd t.sum t.modules))

unfoldable pub mean_sentences : Totals → List Sentence
mean_sentences t = (18 when bad_totals t) ∷ []

unfoldable pub mean_of : Totals → Said Ratio
mean_of t = answered (mean_sentences t) (ratio_of t)

-- q is the sum over the modules, and "without common factor"
pub record Lowest (t : Totals) (q : Ratio) : Type 0 where
  pub above_zero : 0 < q.denominator
  pub same : q.numerator * t.modules ≡ t.sum * q.denominator
  pub no_factor : (d : ℕ) → d ∣ q.numerator → d ∣ q.denominator → d ≡ 1

-- what is given is so, with modules no other fraction is, and without it is 0 over 1
pub record MeanLowest (t : Totals) : Type 0 where
  pub lowest : (q : Ratio) → mean_of t ≡ gives q → Lowest t q
  pub unique : (p q : Ratio) → mean_of t ≡ gives q → 0 < t.modules → Lowest t p → p ≡ q
  pub none : (q : Ratio) → mean_of t ≡ gives q → t.modules ≡ 0 → q ≡ over 0 1
