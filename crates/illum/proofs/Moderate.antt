-- No moderate colour in reach of a model is wild: on the scale of the surfaces the position is from -3 to 3, so a surface is 8 × 169 at most, an inverse (256 + 1,352) / 0.05 at most, and a row of the affine part 8 × (3 × 32,160 + 1) at most, which is under 1,048,576. Each operation keeps such a bound, since rounding keeps the order. Assumes nothing.
use Rattle.std.proofs.Common.{◌≡◌, ℕ, ◌<◌, Bool, true, false, cond, not, ◌&&◌, ◌||◌, T, eqb, ◌⊎◌, List, get_or, pos, sym, refl, ap, ◌∙◌, subst, inl, inr, arith}
use lib.Ieee.{Float, nan, inf, fin, Format, binary32, binary64, add, sub, mul, div, neg, le, lt, eq, round, fits, is_nan}
use lib.Ieee.Fits.{round-fits, fits_widens, and_l, and_r}
use lib.Ieee.Scale.{finite}
use Rattle.floatlaws.specs.Value.{negative, Num}
use Rattle.floatlaws.specs.Order.{Le, of_le, to_le, of_not_lt, le_refl, le_trans, neg-num, widen_le}
use Rattle.floatlaws.specs.Finite.{Fin, num, neg-fin, between, mul-num, div-num, sub_num'}
use Rattle.floatlaws.proofs.Mono.{mul_mono', div_mono, sub_mono}
use Rattle.floatlaws.specs.Interval.{plain, le_pos, within}
use Rattle.floatlaws.proofs.Interval.{add_in}
use Rattle.floatlaws.specs.Magnitude.{Within, of_tests, to_tests, self, wider}
use Rattle.floatlaws.proofs.Magnitude.{add-within, sub_within, mul-within, div-within}
use Rattle.loops.specs.Loops.{for_up, turns}
use Rattle.loops.proofs.Laws.{any_up-false}
use Rattle.float.specs.Single.{to_single}
use Rattle.float.specs.Select.{abs}
use Rattle.color.specs.declared.Linear.{Linear}
use Rattle.color.specs.Palette.{wild, wild_linear}
use Rattle.illum.specs.declared.Span.{Span}
use Rattle.illum.specs.declared.Unshaded.{Unshaded}
use Rattle.illum.specs.declared.IlluminationModel.{IlluminationModel}
use Rattle.illum.specs.Surface.{zero64, one64, two64, least_gain, terms_used, normalised, bilinear, biquadratic, basis_at, add_term, surface_at, is_held, hold_gain, deshade}
use Rattle.illum.specs.Correct.{affine_row, unshaded, mixed, corrected}
use Rattle.illum.specs.Reach.{Typed, Placed, Values, three, most_number, most_colour, most_side, is_from, large_at, large_up_to, large_affine, large_gains, large_flares, in_scale, span, reach_of, is_within}
use Rattle.illum.proofs.Bound.{past, wild-single}

-- ---- tests

-- what a test that holds has on its right is no NaN
right-real : (a x : Float) → T (le a x) → T (not (is_nan x))
unfolding le lt eq is_nan
right-real nan nan t = absurd t
right-real (inf s) nan t = absurd t
right-real (fin s m e) nan t = absurd t
right-real a (inf s) t = tt
right-real a (fin s m e) t = tt

passed : (b : Bool) → not b ≡ false → T b
passed true e = tt
passed false e = subst T e tt

closed : (f : Format) (b : Float) → T (fits f b && finite b) → Fin f b
closed f b t = record { fit = and_l (fits f b) (finite b) t; finite = and_r (fits f b) (finite b) t }

-- a number from -b to b by its two tests
moderate : {f : Format} {b v : Float} → Fin f b → T (not (negative b)) → T (fits f v) → T (is_from b v) → Within f b v
moderate {b = b} {v = v} B s w t =
    let l = and_l (le (neg b) v) (le v b) t in of_tests B s (record { fit = w; real = right-real (neg b) v l }) l (and_r (le (neg b) v) (le v b) t)

-- one of the model's numbers
number : (c : List Float) (n : ℕ) → Values c → large_up_to n c ≡ false → (k : ℕ) → k < n → Within binary64 most_number (get_or c k nan)
number c n w e k h =
    moderate (closed binary64 most_number (unfold fits in tt)) tt (w k) (passed (is_from most_number (get_or c k nan)) (any_up-false (large_at c) n e k h))

-- ---- a surface

-- 8 × 169
abbrev most_surface : Float
most_surface = fin false 169 (pos 3)

most-surface : Fin binary64 most_surface
most-surface = closed binary64 most_surface (unfold fits in tt)

one_within : Within binary64 one64 one64
one_within = self (closed binary64 one64 (unfold fits in tt)) tt

zero-within : Within binary64 zero64 zero64
zero-within = self (closed binary64 zero64 (unfold fits in tt)) tt

module _ (c : List Float) (u v : Float) (p : Within binary64 three u) (q : Within binary64 three v) where
  four : ((k : ℕ) → k < 4 → Within binary64 most_number (get_or c k nan)) → Within binary64 most_surface (for_up 0 4 (add_term c (bilinear u v)) zero64)
  unfolding for_up turns add_term
  four n =
      let t0 = mul-within (n 0 (omega arith)) one_within (unfold mul in tt) in
      let t1 = mul-within (n 1 (omega arith)) p (unfold mul in tt) in
      let t2 = mul-within (n 2 (omega arith)) q (unfold mul in tt) in
      let t3 = mul-within (n 3 (omega arith)) (mul-within p q (unfold mul in tt)) (unfold mul in tt) in
      let s0 = add-within zero-within t0 (unfold add mul in tt) in
      let s1 = add-within s0 t1 (unfold add mul in tt) in
      let s2 = add-within s1 t2 (unfold add mul in tt) in
      let s3 = add-within s2 t3 (unfold add mul in tt) in
      wider most-surface tt (of_le (num s3.bound) (num most-surface) (unfold add mul le in tt)) s3

  nine : ((k : ℕ) → k < 9 → Within binary64 most_number (get_or c k nan)) → Within binary64 most_surface (for_up 0 9 (add_term c (biquadratic u v)) zero64)
  unfolding for_up turns add_term
  nine n =
      let uu = mul-within p p (unfold mul in tt) in
      let uv = mul-within p q (unfold mul in tt) in
      let uuv = mul-within uu q (unfold mul in tt) in
      let t0 = mul-within (n 0 (omega arith)) one_within (unfold mul in tt) in
      let t1 = mul-within (n 1 (omega arith)) p (unfold mul in tt) in
      let t2 = mul-within (n 2 (omega arith)) q (unfold mul in tt) in
      let t3 = mul-within (n 3 (omega arith)) uv (unfold mul in tt) in
      let t4 = mul-within (n 4 (omega arith)) uu (unfold mul in tt) in
      let t5 = mul-within (n 5 (omega arith)) (mul-within q q (unfold mul in tt)) (unfold mul in tt) in
      let t6 = mul-within (n 6 (omega arith)) uuv (unfold mul in tt) in
      let t7 = mul-within (n 7 (omega arith)) (mul-within uv q (unfold mul in tt)) (unfold mul in tt) in
      let t8 = mul-within (n 8 (omega arith)) (mul-within uuv q (unfold mul in tt)) (unfold mul in tt) in
      let s0 = add-within zero-within t0 (unfold add mul in tt) in
      let s1 = add-within s0 t1 (unfold add mul in tt) in
      let s2 = add-within s1 t2 (unfold add mul in tt) in
      let s3 = add-within s2 t3 (unfold add mul in tt) in
      let s4 = add-within s3 t4 (unfold add mul in tt) in
      let s5 = add-within s4 t5 (unfold add mul in tt) in
      let s6 = add-within s5 t6 (unfold add mul in tt) in
      let s7 = add-within s6 t7 (unfold add mul in tt) in
      let s8 = add-within s7 t8 (unfold add mul in tt) in
      wider most-surface tt (of_le (num s8.bound) (num most-surface) (unfold add mul le in tt)) s8

  by_terms : (b : Bool) → ((k : ℕ) → k < cond b 4 9 → Within binary64 most_number (get_or c k nan))
      → Within binary64 most_surface (for_up 0 (cond b 4 9) (add_term c (cond b (bilinear u v) (biquadratic u v))) zero64)
  by_terms true n = four n
  by_terms false n = nine n

-- ---- the gain that divides

gain-fin : Fin binary64 least_gain
unfolding least_gain
gain-fin = record { fit = round-fits binary64 false 5 100; finite = unfold round in tt }

twice-neg : Le binary64 least_gain (neg (neg least_gain))
twice-neg = of_le (num gain-fin) (neg-num (neg-num (num gain-fin))) (unfold least_gain round neg le in tt)

either-sign : (g : Float) → (abs g ≡ g) ⊎ (abs g ≡ neg g)
unfolding abs neg
either-sign nan = inl refl
either-sign (inf true) = inr refl
either-sign (inf false) = inl refl
either-sign (fin true m e) = inr refl
either-sign (fin false m e) = inl refl

record Divides (g : Float) : Type 0 where
  num : Num binary64 g
  least : Le binary64 least_gain g ⊎ Le binary64 least_gain (neg g)

held : (b : Bool) → Divides (cond b (neg least_gain) least_gain)
held true = record { num = neg-num (num gain-fin); least = inr twice-neg }
held false = record { num = num gain-fin; least = inl (le_refl binary64 least_gain) }

free : (g : Float) → Num binary64 g → lt (abs g) least_gain ≡ false → Divides g
free g n e = record { num = n; least = go (either-sign g) }
  where
    go : (abs g ≡ g) ⊎ (abs g ≡ neg g) → Le binary64 least_gain g ⊎ Le binary64 least_gain (neg g)
    go (inl h) = inl (of_not_lt n (num gain-fin) (subst (λ (b : Bool). T (not b)) (sym (rw h at e)) tt))
    go (inr h) = inr (of_not_lt (neg-num n) (num gain-fin) (subst (λ (b : Bool). T (not b)) (sym (rw h at e)) tt))

divides : (g : Float) → Num binary64 g → Divides (hold_gain g)
unfolding hold_gain is_held
divides g n = go (lt (abs g) least_gain) refl
  where
    go : (b : Bool) → lt (abs g) least_gain ≡ b → Divides (cond b (cond (lt g zero64) (neg least_gain) least_gain) g)
    go true e = held (lt g zero64)
    go false e = free g n e

-- ---- one channel's inverse, and a row

-- (256 + 1,352) / 0.05, and a little
abbrev most_inverse : Float
most_inverse = fin false 32161 (pos 0)

most-inverse : Fin binary64 most_inverse
most-inverse = closed binary64 most_inverse (unfold fits in tt)

module _ {observed flare gain : Float} (o : Within binary64 most_colour observed) (f : Within binary64 most_surface flare) (g : Within binary64 most_surface gain) where
  inverse : Within binary64 most_inverse (div binary64 (sub binary64 observed flare) (hold_gain gain))
  inverse =
      let d = divides gain (num g.is) in
      let s = sub_within o f (unfold add in tt) in
      let v = div-within {a = add binary64 most_colour most_surface} {c = least_gain} gain-fin (unfold least_gain round in tt) (unfold div add least_gain round in tt) d.num d.least s in
      wider most-inverse tt (of_le (num v.bound) (num most-inverse) (unfold div add least_gain round le in tt)) v

past-fin : Fin binary64 past
past-fin = closed binary64 past (unfold fits in tt)

module _ (a : List Float) {r g b : Float} (n : (k : ℕ) → k < 4 → Within binary64 most_number (get_or a k nan)) (R : Within binary64 most_inverse r)
    (G : Within binary64 most_inverse g) (B : Within binary64 most_inverse b) where
  row-not-wild : wild (affine_row a r g b) ≡ false
  unfolding affine_row
  row-not-wild =
      let t0 = mul-within (n 0 (omega arith)) R (unfold mul in tt) in
      let t1 = mul-within (n 1 (omega arith)) G (unfold mul in tt) in
      let t2 = mul-within (n 2 (omega arith)) B (unfold mul in tt) in
      let s1 = add-within t0 t1 (unfold add mul in tt) in
      let s2 = add-within s1 t2 (unfold add mul in tt) in
      let s3 = add-within s2 (n 3 (omega arith)) (unfold add mul in tt) in
      let w = wider past-fin tt (of_le (num s3.bound) (num past-fin) (unfold add mul le in tt)) s3 in
      single-not-wild _ w
    where
      single-not-wild : (v : Float) → Within binary64 past v → wild (to_single v) ≡ false
      single-not-wild v w = wild-single v w.is.fit ∙ both (le v past) (le (neg past) v) (to_tests w).1 (to_tests w).0
        where
          both : (a b : Bool) → T a → T b → not (a && b) ≡ false
          both true true s t = refl
          both true false s t = absurd t
          both false b s t = absurd s

-- ---- the scale of the surfaces

wide : {x : Float} → Fin binary32 x → Fin binary64 x
wide {x} p = record { fit = fits_widens x p.fit; finite = p.finite }

two_fin : Fin binary64 two64
two_fin = closed binary64 two64 (unfold fits in tt)

one_fin : Fin binary64 one64
one_fin = closed binary64 one64 (unfold fits in tt)

one_32 : Fin binary32 one64
one_32 = closed binary32 one64 (unfold fits in tt)

zero_32 : Fin binary32 zero64
zero_32 = closed binary32 zero64 (unfold fits in tt)

most_32 : Fin binary32 most_side
most_32 = closed binary32 most_side (unfold fits in tt)

module _ {side : Float} (S : Fin binary64 side) (least : Le binary64 one64 side) where
  scaled : {x : Float} → Fin binary64 x → Num binary64 (normalised side x)
  unfolding normalised
  scaled p = sub_num' (div-num (mul-num two_fin p) S (le_pos (num one_fin) tt least)) one_fin

  scaled_mono : {x y : Float} → Fin binary64 x → Fin binary64 y → Le binary64 x y → Le binary64 (normalised side x) (normalised side y)
  unfolding normalised
  scaled_mono p q h =
      let c = le_pos (num one_fin) tt least in
      let a = mul-num two_fin p in
      let b = mul-num two_fin q in
      let d = div-num a S c in
      let e = div-num b S c in
      sub_mono d e (num one_fin) (num one_fin) (sub_num' d one_fin) (sub_num' e one_fin)
      (div_mono a b (num S) d e c (mul_mono' (num p) (num q) (num two_fin) a b (plain binary64 two64 tt) h)) (le_refl binary64 one64)

three-fin : Fin binary64 three
three-fin = closed binary64 three (unfold fits in tt)

module _ (side : Float) (F : T (fits binary32 side)) (least : T (le one64 side)) (most : T (le side most_side)) (scale : T (in_scale side)) where
  side-num : Num binary32 side
  side-num = record { fit = F; real = right-real one64 side least }

  -- the ends, from -side to 2 × side
  lowest : Fin binary32 (neg side)
  lowest = neg-fin (between one_32 side-num most_32 (of_le (num one_32) side-num least) (of_le side-num (num most_32) most))

  highest : Fin binary32 (add binary32 side side)
  highest =
      let i = within one_32 most_32 side-num (of_le (num one_32) side-num least) (of_le side-num (num most_32) most) in
      (add_in i i (unfold add in tt)).is

  on_scale : (x : Float) → T (fits binary32 x) → T (le (neg side) x && le x (add binary32 side side)) → Within binary64 three (normalised side x)
  unfolding in_scale
  on_scale x f t =
      let a = and_l (le (neg side) x) (le x (add binary32 side side)) t in
      let b = and_r (le (neg side) x) (le x (add binary32 side side)) t in
      let n : Num binary32 x = record { fit = f; real = right-real (neg side) x a } in
      let l = of_le (num lowest) n a in
      let h = of_le n (num highest) b in
      let X = wide (between lowest n highest l h) in
      let u = and_l (le (neg three) (normalised side (neg side))) (le (normalised side (add binary32 side side)) three) scale in
      let v = and_r (le (neg three) (normalised side (neg side))) (le (normalised side (add binary32 side side)) three) scale in
      let S : Fin binary64 side = wide (between one_32 side-num most_32 (of_le (num one_32) side-num least) (of_le side-num (num most_32) most)) in
      let L : Le binary64 one64 side = of_le (num one_fin) (num S) least in
      let z = scaled S L X in
      of_tests three-fin tt z
      (to_le (neg-num (num three-fin)) z
      (le_trans (of_le (neg-num (num three-fin)) (scaled S L (wide lowest)) u) (scaled_mono S L (wide lowest) X (widen_le (num lowest) n l))))
      (to_le z (num three-fin)
      (le_trans (scaled_mono S L X (wide highest) (widen_le n (num highest) h)) (of_le (scaled S L (wide highest)) (num three-fin) v)))

-- ---- one channel

module _ (terms : ℕ) (side x y : Float) (p : Within binary64 three (normalised side x)) (q : Within binary64 three (normalised side y)) where
  surface : (c : List Float) → Values c → large_up_to (terms_used terms) c ≡ false → Within binary64 most_surface (surface_at terms c (basis_at terms side x y))
  unfolding terms_used basis_at
  surface c w e = by_terms c (normalised side x) (normalised side y) p q (eqb terms 4) (number c (cond (eqb terms 4) 4 9) w e)

  channel : (gain flare : List Float) (o : Float) → Values gain → Values flare → large_up_to (terms_used terms) gain ≡ false → large_up_to (terms_used terms) flare ≡ false
      → T (fits binary32 o) → T (is_from most_colour o) → Within binary64 most_inverse (deshade terms gain flare (basis_at terms side x y) o).value
  unfolding deshade
  channel gain flare o wg wf eg ef f t =
      inverse (moderate (closed binary64 most_colour (unfold fits in tt)) tt (fits_widens o f) t) (surface flare wf ef) (surface gain wg eg)

-- ---- the tests, one by one

each : (a b c : Bool) → (a || b || c) ≡ false → (a ≡ false) × (b ≡ false) × (c ≡ false)
each false false false e = (refl, refl, refl)
each false false true e = absurd (subst T e tt)
each false true c e = absurd (subst T e tt)
each true b c e = absurd (subst T e tt)

four-tests : (a b c d : Bool) → T (a && b && c && d) → T a × T b × T c × T d
four-tests a b c d t = (
  and_l a b (and_l (a && b) c (and_l (a && b && c) d t)),
  and_r a b (and_l (a && b) c (and_l (a && b && c) d t)),
  and_r (a && b) c (and_l (a && b && c) d t),
  and_r (a && b && c) d t,
)

not-false : (b : Bool) → T (not b) → b ≡ false
not-false true t = absurd t
not-false false t = refl

-- ---- the law

module _ (m : IlluminationModel) (x y : Float) (c : Linear) (M : Typed m) (P : Placed x y c) where
  abbrev some : Bool
  some = le one64 m.side && le m.side most_side && in_scale m.side && not (large_affine m || large_gains m || large_flares m)

  in_some : T some → T (is_within (span (neg m.side) (add binary32 m.side m.side)) x y c) → wild_linear (corrected m x y c).colour ≡ false
  unfolding is_within wild_linear mixed unshaded large_affine large_gains large_flares
  in_some s t =
      let S = four-tests (le one64 m.side) (le m.side most_side) (in_scale m.side) (not (large_affine m || large_gains m || large_flares m)) s in
      let E = each (large_affine m) (large_gains m) (large_flares m) (not-false (large_affine m || large_gains m || large_flares m) S.3) in
      let A = each (large_up_to 4 m.affine_r) (large_up_to 4 m.affine_g) (large_up_to 4 m.affine_b) E.0 in
      let k = terms_used m.terms in
      let G = each (large_up_to k m.gain_r) (large_up_to k m.gain_g) (large_up_to k m.gain_b) E.1 in
      let F = each (large_up_to k m.flare_r) (large_up_to k m.flare_g) (large_up_to k m.flare_b) E.2 in
      let lo = neg m.side in
      let hi = add binary32 m.side m.side in
      let ix = le lo x && le x hi in
      let iy = le lo y && le y hi in
      let r = is_from most_colour c.r in
      let g = is_from most_colour c.g in
      let b = is_from most_colour c.b in
      let Q = four-tests ix iy r g (and_l (ix && iy && r && g) b t) in
      let u = on_scale m.side M.side S.0 S.1 S.2 x P.at_x Q.0 in
      let v = on_scale m.side M.side S.0 S.1 S.2 y P.at_y Q.1 in
      let dr = channel m.terms m.side x y u v m.gain_r m.flare_r c.r M.gain-r M.flare-r G.0 F.0 P.red Q.2 in
      let dg = channel m.terms m.side x y u v m.gain_g m.flare_g c.g M.gain-g M.flare-g G.1 F.1 P.green Q.3 in
      let db = channel m.terms m.side x y u v m.gain_b m.flare_b c.b M.gain-b M.flare-b G.2 F.2 P.blue (and_r (ix && iy && r && g) b t) in
      rw (
        row-not-wild m.affine_r (number m.affine_r 4 M.affine-r A.0) dr dg db,
        row-not-wild m.affine_g (number m.affine_g 4 M.affine-g A.1) dr dg db,
        row-not-wild m.affine_b (number m.affine_b 4 M.affine-b A.2) dr dg db,
      ) refl

  in_none : T (is_within (span one64 zero64) x y c) → ⊥
  unfolding is_within le
  in_none t =
      let a = le one64 x in
      let b = le x zero64 in
      let i = le one64 y && le y zero64 in
      let r = is_from most_colour c.r in
      let g = is_from most_colour c.g in
      let d = a && b in
      let Q = (four-tests d i r g (and_l (d && i && r && g) (is_from most_colour c.b) t)).0 in
      let n : Num binary32 x = record { fit = P.at_x; real = right-real one64 x (and_l a b Q) } in
      to_le (num one_32) (num zero_32) (le_trans (of_le (num one_32) n (and_l a b Q)) (of_le n (num zero_32) (and_r a b Q)))

  not-wild : is_within (reach_of m) x y c ≡ true → wild_linear (corrected m x y c).colour ≡ false
  unfolding reach_of
  not-wild = go some refl
    where
      go : (b : Bool) → some ≡ b → is_within (cond b (span (neg m.side) (add binary32 m.side m.side)) (span one64 zero64)) x y c ≡ true → wild_linear (corrected m x y c).colour ≡ false
      go true e h = in_some (subst T (sym e) tt) (subst T (sym h) tt)
      go false e h = absurd (in_none (subst T (sym h) tt))

-- the same of what a program was told
true_of : (w : Bool) → not w ≡ false → w ≡ true
true_of true e = refl
true_of false e = absurd (subst T e tt)

pub in_reach : (m : IlluminationModel) (x y : Float) (c : Linear) (s : Span) (w : Bool) → (s ≡ reach_of m) × Typed m
    → (w ≡ is_within s x y c) × Placed x y c → not w ≡ false → wild_linear (corrected m x y c).colour ≡ false
in_reach m x y c s w r i h =
    not-wild m x y c r.1 i.1 (sym (ap (λ (z : Span). is_within z x y c) r.0) ∙ sym i.0 ∙ true_of w h)

-- a moderate colour in reach of the model is not wild
pub in_reach_tame : (m : IlluminationModel) (x y : Float) (c : Linear) (s : Span) (w : Bool) → (s ≡ reach_of m) × Typed m → (w ≡ is_within s x y c) × Placed x y c → w ≡ true →
    false ≡ wild_linear (corrected m x y c).colour
in_reach_tame m x y c s w r i t = sym (in_reach m x y c s w r i (ap not t))

-- a colour that is corrected in two steps is wild where the corrected one is
pub spot_wild : (m : IlluminationModel) (x y : Float) (c : Linear) (d : Unshaded) (r : Bool) → d ≡ unshaded m x y c → r ≡ wild_linear (mixed m d).colour → r ≡ wild_linear (corrected m x y c).colour
spot_wild m x y c d r ed e = e ∙ ap (λ (z : Unshaded). wild_linear (mixed m z).colour) ed
