-- The slots of the nominal colours that were seen: a slot in use holds a colour with what is known of it. None is in use at first, and what is kept is known of the colour it is
-- kept with. So where a slot holds a colour, float for float, what is known of it is there. Assumes nothing.
use mathlib.Core.Path.{◌≡◌, refl, sym, ap, subst, ◌∙◌}
use mathlib.Core.Logic.{◌≢◌}
use mathlib.Core.Bool.{Bool, true, false, not}
use mathlib.Core.List.{List}
use Prim.Native.Nat.{ℕ, ◌+◌, ◌*◌, ◌<◌}
use native.Mathlib.Decide.{ℕ_discrete}
use native.Mathlib.Omega.{arith}
use borrow.Author.Tests.{eqb-true}
use lib.Dec.{T, eqb}
use lib.ListN.{length, get_or, replicate, length-set, length-replicate, get_or-replicate}
use lib.Ieee.{Float, nan, inf, fin, binary32, is_nan, eq, fits, of_bits, to_bits}
use lib.Ieee.Bits.{of_bits-to_bits}
use Rattle.color.specs.declared.Linear.{Linear}
use Rattle.measure.specs.declared.Known.{Known}
use Rattle.measure.specs.Columns.{known_of, Same, colour_in, known_in, Held, Remembered, kept}
use Rattle.measure.proofs.Noting.{three, at_other, at_x, at_y, at_z}

pub never : false ≡ true → ⊥
never e = let z : ◌≡◌ {A = ℕ} 0 1 = cc in omega arith

-- ---- floats that are equal are no NaN, and by their patterns they are one

pub first_real : (a b : Float) → eq a b ≡ true → is_nan a ≡ false
unfolding eq is_nan
first_real nan b e = sym e
first_real (inf s) b e = refl
first_real (fin s m x) b e = refl

pub second-real : (a b : Float) → eq a b ≡ true → is_nan b ≡ false
unfolding eq is_nan
second-real nan nan e = sym e
second-real (inf s) nan e = sym e
second-real (fin s m x) nan e = sym e
second-real a (inf s) e = refl
second-real a (fin s m x) e = refl

pub has-pattern : (x : Float) → is_nan x ≡ false → T (not (is_nan x))
has-pattern x e = subst (λ (b : Bool). T (not b)) (sym e) tt

pub one_pattern : (a b : Float) → T (fits binary32 a) → T (fits binary32 b) → eq a b ≡ true → eqb (to_bits binary32 a) (to_bits binary32 b) ≡ true → Same a b
one_pattern a b Fa Fb e p =
    record {
      one = sym (of_bits-to_bits binary32 a Fa) ∙ ap (of_bits binary32) (eqb-true (to_bits binary32 a) (to_bits binary32 b) p) ∙ of_bits-to_bits binary32 b Fb;
      real = first_real a b e;
    }

-- ---- a slot

pub held : (memo : List Float) (j : ℕ) (c : Linear) → Same (get_or memo (6 * j) nan) c.r → Same (get_or memo (6 * j + 1) nan) c.g → Same (get_or memo (6 * j + 2) nan) c.b
    → Held j c memo
unfolding colour_in
held memo j c r g b = record { used = r.real; colour = rw (r.one, g.one, b.one) }

-- no slot is in use
pub none_seen : (palette : List Float) (v : Float) → v ≡ nan → Remembered palette (replicate 1536 v)
unfolding is_nan
none_seen palette v e =
    record {
      long = length-replicate 1536 v;
      slot = λ j h u. absurd (never (sym u ∙ ap is_nan (get_or-replicate 1536 (6 * j) v nan (omega arith) ∙ e)));
    }

module _ {palette memo : List Float} (inv : Remembered palette memo) {j : ℕ} (h : j < 256) (c : Linear) where
  pub recalled : Held j c memo → known_in j memo ≡ known_of palette c
  recalled q = inv.slot j h q.used ∙ ap (known_of palette) q.colour

  module _ (k : Known) where
    abbrev colour : List Float
    colour = three memo (6 * j) (6 * j + 1) (6 * j + 2) c.r c.g c.b

    abbrev after : List Float
    after = kept j c k memo

    colour-long : length colour ≡ 1536
    colour-long = simp length-set inv.long

    -- another slot is as it was
    other : (i x q : ℕ) → i ≢ j → x < 6 → q ≡ 6 * i + x → get_or after q nan ≡ get_or memo q nan
    other i x q n l e =
        at_other colour (6 * j + 3) (6 * j + 4) (6 * j + 5) k.a k.b k.mark q (λ z. n (omega arith)) (λ z. n (omega arith)) (λ z. n (omega arith))
        ∙ at_other memo (6 * j) (6 * j + 1) (6 * j + 2) c.r c.g c.b q (λ z. n (omega arith)) (λ z. n (omega arith)) (λ z. n (omega arith))

    first : (q : ℕ) → q < 6 * j + 3 → get_or after q nan ≡ get_or colour q nan
    first q l = at_other colour (6 * j + 3) (6 * j + 4) (6 * j + 5) k.a k.b k.mark q (λ z. omega arith) (λ z. omega arith) (λ z. omega arith)

    room : 6 * j + 2 < length memo
    room = omega (arith, inv.long)

    room_2 : 6 * j + 5 < length colour
    room_2 = omega (arith, colour-long)

    colour-kept : colour_in j after ≡ c
    unfolding colour_in
    colour-kept =
        rw (
          first (6 * j) (omega arith) ∙ at_x memo (6 * j) (6 * j + 1) (6 * j + 2) c.r c.g c.b (omega arith) (omega arith) room,
          first (6 * j + 1) (omega arith) ∙ at_y memo (6 * j) (6 * j + 1) (6 * j + 2) c.r c.g c.b (omega arith) (omega arith) room,
          first (6 * j + 2) (omega arith) ∙ at_z memo (6 * j) (6 * j + 1) (6 * j + 2) c.r c.g c.b (omega arith) (omega arith) room,
        )

    known_kept : known_in j after ≡ k
    unfolding known_in
    known_kept =
        rw (
          at_x colour (6 * j + 3) (6 * j + 4) (6 * j + 5) k.a k.b k.mark (omega arith) (omega arith) room_2,
          at_y colour (6 * j + 3) (6 * j + 4) (6 * j + 5) k.a k.b k.mark (omega arith) (omega arith) room_2,
          at_z colour (6 * j + 3) (6 * j + 4) (6 * j + 5) k.a k.b k.mark (omega arith) (omega arith) room_2,
        )

    colour-other : (i : ℕ) → i ≢ j → colour_in i after ≡ colour_in i memo
    unfolding colour_in
    colour-other i n = rw (other i 0 (6 * i) n (omega arith) (omega arith), other i 1 (6 * i + 1) n (omega arith) refl, other i 2 (6 * i + 2) n (omega arith) refl)

    known-other : (i : ℕ) → i ≢ j → known_in i after ≡ known_in i memo
    unfolding known_in
    known-other i n = rw (other i 3 (6 * i + 3) n (omega arith) refl, other i 4 (6 * i + 4) n (omega arith) refl, other i 5 (6 * i + 5) n (omega arith) refl)

    pub remembered : {memo' : List Float} → memo' ≡ after → k ≡ known_of palette c → Remembered palette memo'
    remembered e ek = rw e (record { long = simp length-set inv.long; slot = λ i l u. at i (ℕ_discrete i j) l u })
      where
        at : (i : ℕ) → Dec (i ≡ j) → i < 256 → is_nan (get_or after (6 * i) nan) ≡ false → known_in i after ≡ known_of palette (colour_in i after)
        at i (yes q) l u = rw q (known_kept ∙ ek ∙ ap (known_of palette) (sym colour-kept))
        at i (no q) l u =
            known-other i q
            ∙ inv.slot i l (sym (ap is_nan (other i 0 (6 * i) q (omega arith) (omega arith))) ∙ u)
            ∙ ap (known_of palette) (sym (colour-other i q))
