-- Residuals, their root mean square, and which references are rejected, in the Rust's order. Definitions only.
use Rattle.std.specs.Prelude.{false, cond, ◌&&◌, List, [], ◌∷◌, ℕ, zero, suc, ◌+◌, ◌/◌, ◌^◌, ltb, pos, get_or, set, Float}
use Rattle.std.specs.Float.{nan, fin, binary32}
use Rattle.std.specs.Float.Ieee.{add, sub, mul, div, lt, round, of_int}
use Rattle.loops.specs.Loops.{for_up}
use Rattle.float.specs.Root.{sqrt_of}
use Rattle.float.specs.Select.{max}
use Rattle.order.specs.Deviation.{sigma_of}
use Rattle.color.specs.declared.Linear.{Linear}
use Rattle.illum.specs.declared.IlluminationModel.{IlluminationModel}
use Rattle.illum.specs.Correct.{corrected}
use Rattle.references.specs.References.{x_at, y_at, observed_at, nominal_at}
use Rattle.equations.specs.Live.{dropped_mark, is_live, live_count}

-- ---- residuals

-- `powi(2)` is one product
unfoldable pub squared : Float → Float
squared v = mul binary32 v v

-- the distance of two colours
unfoldable pub distance : Linear → Linear → Float
distance p q =
    sqrt_of
    (add binary32 (add binary32 (squared (sub binary32 p.r q.r)) (squared (sub binary32 p.g q.g)))
    (squared (sub binary32 p.b q.b)))

-- how far reference i, corrected, is from its nominal colour
unfoldable pub residual : IlluminationModel → List Float → ℕ → Float
residual m flat i = distance (corrected m (x_at flat i) (y_at flat i) (observed_at flat i)).colour (nominal_at flat i)

-- f i, f (i + 1), .., k of them
unfoldable pub listed : ℕ → ℕ → (ℕ → Float) → List Float
listed zero i f = []
listed (suc k) i f = f i ∷ listed k (suc i) f

-- those of all n references, rejected ones too
unfoldable pub residuals_of : IlluminationModel → List Float → ℕ → List Float
unfolding listed
residuals_of m flat n = listed n 0 (residual m flat)

-- ---- the root mean square over live references

unfoldable pub add_square : List Float → List Float → ℕ → Float → Float
add_square residuals live i s = cond (is_live live i) (add binary32 s (squared (get_or residuals i nan))) s

abbrev pub squares : List Float → List Float → ℕ → Float
squares residuals live n = for_up 0 n (add_square residuals live) (fin false 0 (pos 0))

-- the Rust's `.max(1)`
unfoldable pub at_least_one : ℕ → ℕ
at_least_one k = cond (ltb k 1) 1 k

unfoldable pub rms_of : List Float → List Float → ℕ → Float
rms_of residuals live n = sqrt_of (div binary32 (squares residuals live n) (of_int binary32 (pos (at_least_one (live_count live n)))))

-- ---- rejection: "Residuals above 3 × sigma are rejected in list order, up to a quarter rounded down"

-- 1e-4
unfoldable pub least_sigma : Float
least_sigma = round binary32 false 1 (10 ^ 4)

-- 3 × sigma, sigma being at least 1e-4
unfoldable pub three_sigma : Float → Float
three_sigma sigma = mul binary32 (of_int binary32 (pos 3)) (max sigma least_sigma)

-- after pass one every reference is live, so all residuals count
abbrev pub limit_of : List Float → Float
limit_of residuals = three_sigma (sigma_of residuals)

pub record Rejection : Type 0 where
  pub live : List Float
  pub rejected : ℕ

abbrev pub rejection : List Float → ℕ → Rejection
rejection live rejected = record { live = live; rejected = rejected }

unfoldable pub reject_at : List Float → Float → ℕ → ℕ → Rejection → Rejection
reject_at residuals limit most i s =
    cond (lt limit (get_or residuals i nan) && ltb s.rejected most) (rejection (set s.live i dropped_mark) (s.rejected + 1)) s

unfoldable pub reject_above : List Float → Float → ℕ → List Float → Rejection
reject_above residuals limit n live = for_up 0 n (reject_at residuals limit (n / 4)) (rejection live 0)
