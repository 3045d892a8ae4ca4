-- The call: what is known where no sentence holds, and what each of its two ways out answers. A number of 32 bits that is given on is read
-- back from its bits, `to_z w32 (of_z w32 x)`. Assumes nothing.
use mathlib.Core.Path.{◌≡◌, refl, ap, ap₂, ◌∙◌, subst}
use mathlib.Core.Bool.{Bool, false, not, ◌||◌}
use mathlib.Core.List.{List}
use Prim.Native.Nat.{ℕ, ◌*◌, ◌/◌, ◌%◌, ◌≤◌}
use native.Mathlib.Omega.{arith}
use borrow.Author.Tests.{ltb-false}
use lib.Dec.{T, ltb, eqb}
use lib.IntN.{ℤ}
use lib.ListN.{length, get_or}
use lib.Ieee.{Float, nan, binary32, fits}
use mir.Syntax.{w32}
use mir.Val.{SFits, to_z, of_z}
use mir.Facts.{to_z-of_z}
use Rattle.sentences.specs.Sentences.{refusal, at, sound, fresh}
use Rattle.sentences.proofs.Laws.{neither, none-holds, refuses, accepts}
use Rattle.limits.specs.Limits.{bad_side}
use Rattle.limits.proofs.Laws.{side_in}
use Rattle.places.specs.Places.{outside}
use Rattle.references.specs.References.{too_many}
use Rattle.references.proofs.Laws.{few_in}
use Rattle.std.specs.Prelude.{Result}
use Rattle.std.specs.Result.{IsErr, IsErrAnd}
use Rattle.answers.specs.declared.refusal.Refusal.{Refusal}
use Rattle.answers.specs.Answers.{number_of, refused_by, gives, said}
use Rattle.answers.proofs.Answers.{numbered, passed_on}
use Rattle.near.specs.declared.Query.{Query}
use Rattle.near.specs.declared.Query.TheVariants as query
use Rattle.near.specs.Order.{Strict}
use Rattle.near.specs.Near.{centre, before, chosen, IsPromised, SameList, Rest, IsRadiusSquared, short, bad_positions, bad_module, bad_places, bad_radius}
use Rattle.near.specs.Near.{Request, request, references, sentences_of, before_of, chosen_of, list_of, final, written, near_of, Found}
use Rattle.near.proofs.Numbers.{number, strict}
use Rattle.near.proofs.Radius.{radius-exact}
use Rattle.near.proofs.Unique.{only_one}
use Rattle.near.proofs.Listed.{queried-promised, written_is}

lengths_in : (floats marks places : ℕ) → short floats marks places ≡ false → (floats / 2 ≤ marks) × (floats / 2 ≤ places)
unfolding short
lengths_in floats marks places h =
    let p = neither (not (eqb (floats % 2) 0)) (ltb marks (floats / 2) || ltb places (floats / 2)) h in
    let q = neither (ltb marks (floats / 2)) (ltb places (floats / 2)) p.1 in
    (ltb-false marks (floats / 2) q.0, ltb-false places (floats / 2) q.1)

module _ (q : Request) (e : 0 ≡ refusal (sentences_of q)) where
  ok_side : bad_side q.side ≡ false
  unfolding at sound fresh sentences_of
  ok_side = none-holds (sentences_of q) refl 2 e

  ok_lengths : short (length q.xy) (length q.kept) (length q.out) ≡ false
  unfolding at sound fresh sentences_of
  ok_lengths = none-holds (sentences_of q) refl 5 e

  ok_count : too_many (references q) ≡ false
  unfolding at sound fresh sentences_of
  ok_count = none-holds (sentences_of q) refl 6 e

  ok_places : bad_places q.side q.xy (references q) q.x q.y q.query ≡ false
  unfolding at sound fresh sentences_of
  ok_places = none-holds (sentences_of q) refl 7 e

  ok_radius : bad_radius q.query ≡ false
  unfolding at sound fresh sentences_of
  ok_radius = none-holds (sentences_of q) refl 15 e

  enough : (references q ≤ length q.kept) × (references q ≤ length q.out)
  enough = lengths_in (length q.xy) (length q.kept) (length q.out) ok_lengths

  in_order : ((i : ℕ) → T (fits binary32 (get_or q.xy i nan))) → Strict (before q.xy (centre q.x) (centre q.y)) (references q)
  unfolding bad_places bad_module
  in_order good =
      let p = neither (bad_positions q.side q.xy (references q)) (bad_module q.side q.x q.y q.query) ok_places in
      let m = neither (outside q.side 6 q.x) _ p.1 in
      strict q.xy (centre q.x) (centre q.y) (references q)
      (number q.xy q.side (references q) q.x q.y good (side_in q.side ok_side).1 p.0 m.0 (neither (outside q.side 6 q.y) _ m.1).0)

  radius_in : ((r : Float) → q.query ≡ query.Within r → T (fits binary32 r)) → IsRadiusSquared q.query
  radius_in good = radius-exact q.query good ok_radius

  -- a room whose first m places are what is promised, and whose rest stayed: it is the list that is defined, and no other is promised
  module _ (good : (i : ℕ) → T (fits binary32 (get_or q.xy i nan))) (m : ℕ) (after : List ℕ)
      (list : IsPromised q.query (before_of q) (chosen_of q) (references q) m after) (rest : Rest m q.out after) where
    same : SameList m after (length (list_of q)) (list_of q)
    same =
        only_one (before_of q) (chosen_of q) (references q) m (length (list_of q)) after (list_of q) (in_order good) q.query list
        (queried-promised (before_of q) (chosen_of q) (references q) (in_order good) q.query)

    pub as_defined : m ≤ length q.out → after ≡ written (list_of q) q.out
    as_defined h = written_is m q.out after (list_of q) h same rest

    pub count_defined : m ≡ length (list_of q)
    count_defined = same.count

    pub as_promised : ((r : Float) → q.query ≡ query.Within r → T (fits binary32 r)) → Found q after
    as_promised wide =
        let p = subst (λ (k : ℕ). IsPromised q.query (before_of q) (chosen_of q) (references q) k after) same.count list in
        record {
          list = p;
          order = in_order good;
          only = λ l other w. only_one (before_of q) (chosen_of q) (references q) (length (list_of q)) l after other (in_order good) q.query p w;
          radius = radius_in wide;
        }

-- a refusal that is passed on is no answer
pub not_given : (a : Result ℕ Refusal) (r : Refusal) → IsErr a × IsErrAnd a (λ b. b ≡ r) → (said a).number ≡ 0 → ⊥
not_given a r p = rw (passed_on a r p) (numbered r)

module _ (xy : List Float) (kept : List ℕ) (side : ℕ) (x y : ℤ) (q : Query) (out : List ℕ) (fx : SFits w32 x) (fy : SFits w32 y) where
  -- sentence 7, of a module that is given on
  pub given_on : (n : ℕ) (r : Bool) → r ≡ bad_places side xy n (to_z w32 (of_z w32 x)) (to_z w32 (of_z w32 y)) q → r ≡ bad_places side xy n x y q
  given_on n r e = cc (to_z-of_z fx, to_z-of_z fy)

  own : (n : ℕ) → n ≡ refusal (sentences_of (request xy kept side (to_z w32 (of_z w32 x)) (to_z w32 (of_z w32 y)) q out))
      → n ≡ refusal (sentences_of (request xy kept side x y q out))
  own n e = e ∙ ap₂ (λ (a b : ℤ). refusal (sentences_of (request xy kept side a b q out))) (to_z-of_z fx) (to_z-of_z fy)

  -- a refusal that is passed on
  module _ (a : Result ℕ Refusal) (r : Refusal) (p : IsErr a × IsErrAnd a (λ b. b ≡ r)) where
    pub refused-answer : number_of r ≡ refusal (sentences_of (request xy kept side (to_z w32 (of_z w32 x)) (to_z w32 (of_z w32 y)) q out))
        → final (said a) out ≡ near_of (request xy kept side x y q out)
    unfolding near_of
    refused-answer e =
        rw (passed_on a r p)
        (refuses (λ (k : ℕ). final (refused_by k) out) _ (number_of r) (refusal (sentences_of (request xy kept side x y q out))) (numbered r) (own (number_of r) e))

  module _ (e : 0 ≡ refusal (sentences_of (request xy kept side (to_z w32 (of_z w32 x)) (to_z w32 (of_z w32 y)) q out))) where
    module _ (cx cy : Float) (ex : cx ≡ centre (to_z w32 (of_z w32 x))) (ey : cy ≡ centre (to_z w32 (of_z w32 y))) where
      at_x : cx ≡ centre x
      at_x = ex ∙ ap centre (to_z-of_z fx)

      at_y : cy ≡ centre y
      at_y = ey ∙ ap centre (to_z-of_z fy)

      pub ready : ((i : ℕ) → T (fits binary32 (get_or xy i nan)))
          → (2 * (length xy / 2) ≤ length xy) × (length xy / 2 ≤ length kept) × (length xy / 2 ≤ length out) × (length xy / 2 ≤ 16384) × Strict (before xy cx cy) (length xy / 2)
      ready good =
          let q = request xy kept side x y q out in
          let w = own 0 e in
          (omega arith, (enough q w).0, (enough q w).1, few_in (length xy / 2) (ok_count q w), rw (at_x, at_y) (in_order q w good))

      pub found-answer : (m : ℕ) (after : List ℕ) → ((i : ℕ) → T (fits binary32 (get_or xy i nan))) → ((r : Float) → q ≡ query.Within r → T (fits binary32 r))
          → IsPromised q (before xy cx cy) (chosen q xy kept cx cy) (length xy / 2) m after × ((m ≤ length xy / 2) × Rest m out after)
          → (final (gives m) after ≡ near_of (request xy kept side x y q out)) × (◌≡◌ {A = ℕ} 0 0 → Found (request xy kept side x y q out) after)
      unfolding near_of
      found-answer m after good wide h =
          let w = request xy kept side x y q out in
          let f : 0 ≡ refusal (sentences_of w) = own 0 e in
          let list : IsPromised q (before_of w) (chosen_of w) (length xy / 2) m after = rw (at_x, at_y) at h.0 in
          let l : m ≤ length out = omega (arith, h.1.0, (enough w f).1) in (
            ap₂ (λ (k : ℕ) (o : List ℕ). final (gives k) o) (count_defined w f good m after list h.1.1) (as_defined w f good m after list h.1.1 l)
                ∙ accepts (λ (k : ℕ). final (refused_by k) out) (final (gives (length (list_of w))) (written (list_of w) out)) 0 (refusal (sentences_of w)) refl f,
            λ d. as_promised w f good m after list h.1.1 wide,
          )
