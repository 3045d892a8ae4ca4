-- A finite result has finite operands: a NaN or an infinity among them comes out as one, save under a quotient, where it leaves 0. Assumes nothing.
use Rattle.std.specs.Prelude.{◌≡◌, refl, Bool, true, false, cond, T, eqb, pos, Float}
use Rattle.std.proofs.Common.{sym, ◌∙◌, subst}
use Rattle.std.specs.Bool.{beq}
use Rattle.std.specs.Float.{nan, inf, fin, Format}
use Rattle.std.specs.Float.Ieee.{unlike, add, sub, mul, div, neg, eq}
use Rattle.std.specs.Float.Ieee.Scale.{finite}

either : (b : Bool) (s : Bool) → T (finite (cond b (inf s) nan)) → ⊥
either true s t = t
either false s t = t

either' : (b : Bool) (s : Bool) → T (finite (cond b nan (inf s))) → ⊥
either' true s t = t
either' false s t = t

pub add-operands : (f : Format) (x y : Float) → T (finite (add f x y)) → T (finite x) × T (finite y)
unfolding add
add-operands f nan y t = absurd t
add-operands f (inf s) nan t = absurd t
add-operands f (inf s) (inf r) t = absurd (either (beq s r) s t)
add-operands f (inf s) (fin r n d) t = absurd t
add-operands f (fin s m e) nan t = absurd t
add-operands f (fin s m e) (inf r) t = absurd t
add-operands f (fin s m e) (fin r n d) t = (tt, tt)

turned : (x : Float) → T (finite (neg x)) → T (finite x)
unfolding neg
turned nan t = t
turned (inf s) t = t
turned (fin s m e) t = tt

pub sub-operands : (f : Format) (x y : Float) → T (finite (sub f x y)) → T (finite x) × T (finite y)
unfolding sub
sub-operands f x y t = let p = add-operands f x (neg y) t in (p.0, turned y p.1)

pub mul-operands : (f : Format) (x y : Float) → T (finite (mul f x y)) → T (finite x) × T (finite y)
unfolding mul
mul-operands f nan y t = absurd t
mul-operands f (inf s) nan t = absurd t
mul-operands f (inf s) (inf r) t = absurd t
mul-operands f (inf s) (fin r n d) t = absurd (either' (eqb n 0) (unlike s r) t)
mul-operands f (fin s m e) nan t = absurd t
mul-operands f (fin s m e) (inf r) t = absurd (either' (eqb m 0) (unlike s r) t)
mul-operands f (fin s m e) (fin r n d) t = (tt, tt)

no_part : (s : Bool) → eq (fin s 0 (pos 0)) (fin false 0 (pos 0)) ≡ true
unfolding eq
no_part true = refl
no_part false = refl

-- a quotient that is not 0
pub div-operands : (f : Format) (x y : Float) → T (finite (div f x y)) → eq (div f x y) (fin false 0 (pos 0)) ≡ false → T (finite x) × T (finite y)
unfolding div
div-operands f nan y t e = absurd t
div-operands f (inf s) nan t e = absurd t
div-operands f (inf s) (inf r) t e = absurd t
div-operands f (inf s) (fin r n d) t e = absurd t
div-operands f (fin s m x) nan t e = absurd t
div-operands f (fin s m x) (inf r) t e = absurd (subst T (sym (no_part (unlike s r)) ∙ e) tt)
div-operands f (fin s m x) (fin r n d) t e = (tt, tt)
