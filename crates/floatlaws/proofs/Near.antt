-- The laws of specs/Near.antt that rest on rounding keeping the order (`near_mono`, specs/Near.antt). Assumes nothing.
use Rattle.std.specs.Prelude.{◌≡◌, ◌⊎◌, ℕ, ◌+◌, ◌-◌, ◌*◌, ◌^◌, ◌≤◌, ◌<◌, Bool, true, Float}
use Rattle.std.proofs.Common.{sym, ◌∙◌, inl, inr, zero-le, le_trans, le_of_eq, le_antisymm, mul-one, one-mul, sub-eq-zero_of_le, mul-le-mul_right, mul-le-mul_left, le_of_mul-le-mul_right, arith, pow_pos}
use Rattle.std.proofs.Math.Path.{ap}
use Rattle.std.proofs.Math.Bool.{false, cond}
use Rattle.std.specs.Float.{nan, inf, fin, Format}
use Rattle.std.specs.Float.Ieee.{low, round, is_nan}
use Rattle.std.specs.Float.Ieee.Scale.{overflow}
use Rattle.floatlaws.specs.Value.{big, mag, hi, lo, Num, shape, mag-shape, overflow-pos, one_side, each-side}
use Rattle.floatlaws.specs.Order.{Le, Same, same, of_sides}
use Rattle.floatlaws.specs.Near.{round-num, near, hi_round, lo_round, near_mono, near-exact, near-zero, at_top, at_quarter, near-big, Rounds, sub-mul, inf-num}

pub near_same : (f : Format) (a c b d : ℕ) → 0 < c → 0 < d → a * d ≡ b * c → near f a c ≡ near f b d
near_same f a c b d C D e = le_antisymm (near_mono f a c b d C D (le_of_eq e)) (near_mono f b d a c D C (le_of_eq (sym e)))

-- the same denominator
pub near_le : (f : Format) (a b c : ℕ) → 0 < c → a ≤ b → near f a c ≤ near f b c
near_le f a b c C h = near_mono f a c b c C C (mul-le-mul_right c h)

pub near-top : (f : Format) (a c : ℕ) → 0 < c → overflow f * c ≤ a → near f a c ≡ big f
near-top f a c C h =
    le_antisymm (near-big f a c)
    (le_trans (le_of_eq (sym (at_top f))) (near_mono f (overflow f) 1 a c (pow_pos 0) C (le_trans h (le_of_eq (sym (mul-one a))))))

pub near-tiny : (f : Format) (a c : ℕ) → 0 < c → a * 4 ≤ c → near f a c ≡ 0
near-tiny f a c C h =
    le_antisymm (le_trans (near_mono f a c 1 4 C (pow_pos 2) (le_trans h (le_of_eq (sym (one-mul c))))) (le_of_eq (at_quarter f))) zero-le

-- ---- a value of the format is its own
pub near-self : (f : Format) (x : Float) → Num f x → near f (mag f x) 1 ≡ mag f x
near-self f nan p = absurd (unfold is_nan in p.real)
near-self f (inf s) p = unfold mag in near-top f (big f) 1 (pow_pos 0) (mul-le-mul_left (overflow f) (overflow-pos f))
near-self f (fin s m e) p =
    let g = shape f s m e p.fit in
    rw (mag-shape f s m e p.fit) (near-exact f (m * 2 ^ g.j) 1 m g.j (pow_pos 0) g.small g.under (sym (mul-one (m * 2 ^ g.j))))

-- of two numbers the larger rounds to the larger
pub rounds_mono : {f : Format} {z z' : Float} {P N C P' N' C' : ℕ} → Rounds f z P N C → Rounds f z' P' N' C' → P * C' + N' * C ≤ P' * C + N * C'
    → Le f z z'
rounds_mono {f} {z} {z'} {P} {N} {C} {P'} {N'} {C'} r s h =
    let a = sub-mul P N C' in
    let b = sub-mul P' N' C in
    let c = sub-mul N P C' in
    let d = sub-mul N' P' C in
    of_sides
    (le_trans (le_of_eq r.hi) (le_trans (near_mono f (P - N) C (P' - N') C' r.below s.below (omega arith)) (le_of_eq (sym s.hi))))
    (le_trans (le_of_eq s.lo) (le_trans (near_mono f (N' - P') C' (N - P) C s.below r.below (omega arith)) (le_of_eq (sym r.lo))))

-- a value of the format is its own
pub rounds-self : {f : Format} {x : Float} → Num f x → Rounds f x (hi f x) (lo f x) 1
rounds-self {f} {x} p = record { num = p; below = pow_pos 0; hi = (go (one_side f x)).0; lo = (go (one_side f x)).1 }
  where
    own : (near f (hi f x) 1 ≡ hi f x) × (near f (lo f x) 1 ≡ lo f x)
    own = each-side f x (λ n. near f n 1 ≡ n) (near-zero f 1 (pow_pos 0)) (near-self f x p)

    sub-nothing : (a b : ℕ) → b ≡ 0 → a - b ≡ a
    sub-nothing a b e = omega arith

    nothing-sub : (a b : ℕ) → a ≡ 0 → a - b ≡ 0
    nothing-sub a b e = omega arith

    clear : (a b : ℕ) → a ≡ 0 → near f b 1 ≡ b → (a ≡ near f (a - b) 1) × (b ≡ near f (b - a) 1)
    clear a b z e = (
      z ∙ sym (ap (λ (n : ℕ). near f n 1) (nothing-sub a b z) ∙ near-zero f 1 (pow_pos 0)),
      sym
          (ap (λ (n : ℕ). near f n 1) (sub-nothing b a z) ∙ e),
    )

    go : (hi f x ≡ 0) ⊎ (lo f x ≡ 0) → (hi f x ≡ near f (hi f x - lo f x) 1) × (lo f x ≡ near f (lo f x - hi f x) 1)
    go (inl z) = clear (hi f x) (lo f x) z own.1
    go (inr z) = let c = clear (lo f x) (hi f x) z own.0 in (c.1, c.0)

-- a value of the format that is at most the number is at most the rounded number, and so for at least
pub above : {f : Format} {x z : Float} {P N C : ℕ} → Num f x → Rounds f z P N C → hi f x * C + N ≤ P + lo f x * C → Le f x z
above p r h = rounds_mono (rounds-self p) r (omega arith)

pub under : {f : Format} {x z : Float} {P N C : ℕ} → Num f x → Rounds f z P N C → P + lo f x * C ≤ hi f x * C + N → Le f z x
under p r h = rounds_mono r (rounds-self p) (omega arith)

pub rounds_same : {f : Format} {z z' : Float} {P N C P' N' C' : ℕ} → Rounds f z P N C → Rounds f z' P' N' C' → P * C' + N' * C ≡ P' * C + N * C'
    → Same f z z'
rounds_same r s e = same (rounds_mono r s (le_of_eq e)) (rounds_mono s r (omega arith))

-- ---- what `round` makes of a fraction a / c that is (P - N) / C units
near-equal : (f : Format) (a c P N C : ℕ) → 0 < c → 0 < C → P * c ≡ a * 2 ^ low f * C + N * c
    → (near f (a * 2 ^ low f) c ≡ near f (P - N) C) × (near f (N - P) C ≡ 0)
near-equal f a c P N C c_pos C-pos e =
    let l = sub-mul P N c in
    let n : N - P ≡ 0 = sub-eq-zero_of_le (le_of_mul-le-mul_right {k = c} (omega arith) c_pos) in
    (near_same f (a * 2 ^ low f) c (P - N) C c_pos C-pos (omega arith), ap (λ (x : ℕ). near f x C) n ∙ near-zero f C C-pos)

-- of the sign s the number's two sides are taken in order or in reverse
pub round-rounds : (f : Format) (s : Bool) (a c P N C : ℕ) → 0 < c → 0 < C → cond s N P * c ≡ a * 2 ^ low f * C + cond s P N * c
    → Rounds f (round f s a c) P N C
round-rounds f false a c P N C c_pos C-pos e =
    let k = near-equal f a c P N C c_pos C-pos e in
    record { num = round-num f false a c; below = C-pos; hi = hi_round f false a c c_pos ∙ k.0; lo = lo_round f false a c c_pos ∙ sym k.1 }
round-rounds f true a c P N C c_pos C-pos e =
    let k = near-equal f a c N P C c_pos C-pos e in
    record { num = round-num f true a c; below = C-pos; hi = hi_round f true a c c_pos ∙ sym k.1; lo = lo_round f true a c c_pos ∙ k.0 }

far : (f : Format) (P N C : ℕ) → 0 < C → overflow f * C + N ≤ P → (big f ≡ near f (P - N) C) × (0 ≡ near f (N - P) C)
far f P N C C-pos h =
    let n : N - P ≡ 0 = omega arith in
    (sym (near-top f (P - N) C C-pos (omega arith)), sym (ap (λ (x : ℕ). near f x C) n ∙ near-zero f C C-pos))

pub inf-rounds : (f : Format) (s : Bool) (P N C : ℕ) → 0 < C → overflow f * C + cond s P N ≤ cond s N P → Rounds f (inf s) P N C
unfolding hi lo mag
inf-rounds f false P N C C-pos h = let k = far f P N C C-pos h in record { num = inf-num f false; below = C-pos; hi = k.0; lo = k.1 }
inf-rounds f true P N C C-pos h = let k = far f N P C C-pos h in record { num = inf-num f true; below = C-pos; hi = k.1; lo = k.0 }
