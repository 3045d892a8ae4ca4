-- What a program's test `x != x` says: only a NaN differs from itself, since any other value is as large as itself. And 0 / 0 makes one. Assumes
-- nothing.
use Rattle.std.specs.Prelude.{◌≡◌, refl, ◌*◌, Bool, true, false, not, T, Float}
use Rattle.std.proofs.Common.{sym, ◌∙◌, subst, eq-eqb}
use Rattle.std.specs.Float.{nan, inf, fin, Format, binary32, binary64}
use Rattle.std.specs.Float.Ieee.{up, down, eq, ne, div, is_nan, of_bits}
use Rattle.std.specs.Float.Ieee.Compare.{differs_from_itself}

pub nan-test : (x : Float) → is_nan x ≡ ne x x
unfolding is_nan ne eq
nan-test nan = refl
nan-test (inf true) = refl
nan-test (inf false) = refl
nan-test (fin true m e) = rw (eq-eqb (m * up e * down e) (m * up e * down e) refl)
nan-test (fin false m e) = rw (eq-eqb (m * up e * down e) (m * up e * down e) refl)

pub no_nan : (x : Float) → ne x x ≡ false → T (not (is_nan x))
no_nan x e = subst (λ (b : Bool). T (not b)) (sym (nan-test x ∙ e)) tt

pub a_nan : (x : Float) → ne x x ≡ true → x ≡ nan
a_nan x e = differs_from_itself x (subst T (sym e) tt)

pub only_nan : (x : Float) → is_nan x ≡ true → x ≡ nan
only_nan x e = a_nan x (sym (nan-test x) ∙ e)

pub zero_by_zero : (f : Format) → div f (of_bits f 0) (of_bits f 0) ≡ nan
unfolding div of_bits
zero_by_zero binary32 = refl
zero_by_zero binary64 = refl
