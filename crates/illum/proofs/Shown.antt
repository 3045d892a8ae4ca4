-- A finite result has finite operands, step by step from a corrected colour back to the numbers of its model. A quotient hides a divisor that is infinite,
-- but is 0 then. So a colour that is not wild, from inverses that are not 0, has a model whose numbers are finite. Assumes nothing.
use Rattle.std.proofs.Common.{◌≡◌, ℕ, zero, suc, ◌-◌, Bool, true, false, cond, not, ◌||◌, T, List, get_or, refl, ap, ◌∙◌, subst}
use lib.Ieee.{Float, nan, inf, fin, binary64, add, sub, mul, neg, eq, lt, le, round}
use lib.Ieee.Scale.{finite}
use Rattle.loops.specs.Loops.{turns, for_up, some_of, any_up}
use Rattle.floatlaws.specs.Operands.{add-operands, sub-operands, mul-operands, div-operands}
use Rattle.float.specs.Single.{to_single}
use Rattle.float.specs.Select.{abs}
use Rattle.color.specs.declared.Linear.{Linear}
use Rattle.color.specs.Color.{fraction}
use Rattle.color.specs.Palette.{wild, wild_linear}
use Rattle.illum.specs.declared.IlluminationModel.{IlluminationModel}
use Rattle.illum.specs.Surface.{zero64, terms_used, add_term, least_gain, is_held, hold_gain, surface_at, deshade, basis_at}
use Rattle.illum.specs.Correct.{affine_row, unshaded, mixed, corrected}
use Rattle.illum.specs.Refusals.{not_finite_at, not_finite_up_to, not_finite_affine, not_finite_gains, not_finite_flares, not_finite_model}
use Rattle.illum.specs.Shown.{leaves_open}

-- ---- tests

no : (b : Bool) → T b → not b ≡ false
no true t = refl
no false t = absurd t

neither : (a b : Bool) → (a || b) ≡ false → (a ≡ false) × (b ≡ false)
neither true b e = absurd (subst T e tt)
neither false b e = (refl, e)

none : (a b : Bool) → a ≡ false → b ≡ false → (a || b) ≡ false
none true b e h = e
none false b e h = h

three : {a b c : Bool} → a ≡ false → b ≡ false → c ≡ false → (a || b || c) ≡ false
three e h k = none _ _ (none _ _ e h) k

-- ---- a surface

terms-back : (c b : List Float) (k i : ℕ) (s : Float) → T (finite (turns k i (add_term c b) s)) → T (finite s) × (some_of k i (not_finite_at c) ≡ false)
unfolding turns some_of add_term
terms-back c b zero i s t = (t, refl)
terms-back c b (suc k) i s t =
    let p = terms-back c b k (suc i) (add_term c b i s) t in
    let q = add-operands binary64 s (mul binary64 (get_or c i nan) (get_or b i nan)) p.0 in
    let r = mul-operands binary64 (get_or c i nan) (get_or b i nan) q.1 in
    (q.0, ap (λ (z : Bool). cond z true (some_of k (suc i) (not_finite_at c))) (no (finite (get_or c i nan)) r.0) ∙ p.1)

surface-back : (terms : ℕ) (c b : List Float) → T (finite (surface_at terms c b)) → not_finite_up_to (terms_used terms) c ≡ false
unfolding for_up any_up
surface-back terms c b t = (terms-back c b (terms_used terms - 0) 0 zero64 t).1

-- ---- one channel

gain-back : (g : Float) → T (finite (hold_gain g)) → T (finite g)
unfolding hold_gain is_held lt abs least_gain round
gain-back nan t = t
gain-back (inf s) t = t
gain-back (fin s m e) t = tt

module _ (terms : ℕ) (gain flare b : List Float) (o : Float) where
  channel-back : T (finite (deshade terms gain flare b o).value) → eq (deshade terms gain flare b o).value zero64 ≡ false →
      (not_finite_up_to (terms_used terms) gain ≡ false) × (not_finite_up_to (terms_used terms) flare ≡ false)
  unfolding deshade
  channel-back t e =
      let p = div-operands binary64 (sub binary64 o (surface_at terms flare b)) (hold_gain (surface_at terms gain b)) t e in
      let q = sub-operands binary64 o (surface_at terms flare b) p.0 in
      (surface-back terms gain b (gain-back (surface_at terms gain b) p.1), surface-back terms flare b q.1)

-- ---- a row of the affine part

single-back : (v : Float) → T (finite (to_single v)) → T (finite v)
unfolding to_single
single-back nan t = t
single-back (inf s) t = t
single-back (fin s m e) t = tt

tame-finite : (v : Float) → wild v ≡ false → T (finite v)
unfolding wild fraction round le lt eq neg
tame-finite nan e = absurd (subst T e tt)
tame-finite (inf true) e = absurd (subst T e tt)
tame-finite (inf false) e = absurd (subst T e tt)
tame-finite (fin s m e) h = tt

record Row (a : List Float) (r g b : Float) : Type 0 where
  numbers : not_finite_up_to 4 a ≡ false
  first : T (finite r)
  second : T (finite g)
  third : T (finite b)

module _ (a : List Float) (r g b : Float) where
  private_sum : T (finite (get_or a 0 nan)) → T (finite (get_or a 1 nan)) → T (finite (get_or a 2 nan)) → T (finite (get_or a 3 nan)) → not_finite_up_to 4 a ≡ false
  unfolding any_up some_of
  private_sum p q s t =
      rw (no (finite (get_or a 0 nan)) p, no (finite (get_or a 1 nan)) q, no (finite (get_or a 2 nan)) s, no (finite (get_or a 3 nan)) t) refl

  row_back : wild (affine_row a r g b) ≡ false → Row a r g b
  unfolding affine_row
  row_back e =
      let rr = mul binary64 (get_or a 0 nan) r in
      let gg = mul binary64 (get_or a 1 nan) g in
      let bb = mul binary64 (get_or a 2 nan) b in
      let w = single-back (add binary64 (add binary64 (add binary64 rr gg) bb) (get_or a 3 nan)) (tame-finite (affine_row a r g b) e) in
      let p = add-operands binary64 (add binary64 (add binary64 rr gg) bb) (get_or a 3 nan) w in
      let q = add-operands binary64 (add binary64 rr gg) bb p.0 in
      let s = add-operands binary64 rr gg q.0 in
      let x = mul-operands binary64 (get_or a 0 nan) r s.0 in
      let y = mul-operands binary64 (get_or a 1 nan) g s.1 in
      let z = mul-operands binary64 (get_or a 2 nan) b q.1 in
      record { numbers = private_sum x.0 y.0 z.0 p.1; first = x.1; second = y.1; third = z.1 }

-- ---- the model

module _ (m : IlluminationModel) (x y : Float) (c : Linear) where
  abbrev at : List Float
  at = basis_at m.terms m.side x y

  pub shown : leaves_open m.residual_rms (unshaded m x y c) (corrected m x y c).colour ≡ false → not_finite_model m ≡ false
  unfolding leaves_open wild_linear mixed unshaded not_finite_model not_finite_affine not_finite_gains not_finite_flares
  shown e =
      let k = neither (wild_linear (corrected m x y c).colour) _ e in
      let z = neither (eq (unshaded m x y c).r.value zero64 || eq (unshaded m x y c).g.value zero64 || eq (unshaded m x y c).b.value zero64) _ k.1 in
      let kb = neither (eq (unshaded m x y c).r.value zero64 || eq (unshaded m x y c).g.value zero64) _ z.0 in
      let kr = neither (eq (unshaded m x y c).r.value zero64) _ kb.0 in
      let w = neither (wild (corrected m x y c).colour.r) _ k.0 in
      let w' = neither (wild (corrected m x y c).colour.g) (wild (corrected m x y c).colour.b) w.1 in
      let r = row_back m.affine_r (unshaded m x y c).r.value (unshaded m x y c).g.value (unshaded m x y c).b.value w.0 in
      let g = row_back m.affine_g (unshaded m x y c).r.value (unshaded m x y c).g.value (unshaded m x y c).b.value w'.0 in
      let b = row_back m.affine_b (unshaded m x y c).r.value (unshaded m x y c).g.value (unshaded m x y c).b.value w'.1 in
      let dr = channel-back m.terms m.gain_r m.flare_r at c.r r.first kr.0 in
      let dg = channel-back m.terms m.gain_g m.flare_g at c.g r.second kr.1 in
      let db = channel-back m.terms m.gain_b m.flare_b at c.b r.third kb.1 in
      none _ _
      (none _ _ (none _ _ (three r.numbers g.numbers b.numbers) (three dr.0 dg.0 db.0)) (three dr.1 dg.1 db.1)) z.1
