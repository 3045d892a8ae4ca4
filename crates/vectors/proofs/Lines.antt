-- Lines and names end where `find` finds their last byte, and nothing is found past the end of the text. Assumes nothing.
use Rattle.std.proofs.Common.{◌≡◌, ℕ, suc, ◌+◌, ◌-◌, ◌<◌, ◌≤◌, Bool, true, false, cond, not, eqb, ltb, List, [], ◌∷◌, length, take, drop, sym, refl, ap, ◌∙◌, add-zero, arith, length-drop, drop_of_length-le, length-take, length-take-le, ltb-false, ltb-true, le-ltb, lt-ltb}
use Rattle.std.proofs.lemmas.List.{drop-take}
use Rattle.std.proofs.lemmas.List.Sums.{prefix_len-le-length}
use Rattle.std.specs.List.{take_while, prefix_len}
use lib.Seq.{take-nil}
use Rattle.vectors.specs.Bytes.{slice, index_of, index_after}
use Rattle.vectors.specs.Lines.{line_end, next_line, name_end, name_of}

-- ---- what is found stands in the part that was looked at

one_more : (t : Bool) (k n : ℕ) → k ≤ n → index_after t k ≤ suc n
unfolding index_after
one_more true k n h = omega arith
one_more false k n h = omega arith

found_within : (b : ℕ) (l : List ℕ) → index_of b l ≤ length l
unfolding index_of
found_within b [] = omega arith
found_within b (x ∷ l) = one_more (eqb x b) (index_of b l) (length l) (found_within b l)

found_below : (text : List ℕ) (b at to : ℕ) → at ≤ to → to ≤ length text → at + index_of b (slice at to text) ≤ to
unfolding slice
found_below text b at to h l = omega (arith, found_within b (drop at (take to text)), length-drop at (take to text), length-take-le to text l)

-- ---- the search for a byte

-- what is sought stands behind as many others as there are in front
before : (b : ℕ) (l : List ℕ) → prefix_len (λ x. not (eqb x b)) l ≡ index_of b l
unfolding index_of index_after
before b [] = refl
before b (x ∷ l) = here (eqb x b) (before b l)
  where
    here : (t : Bool) {m n : ℕ} → m ≡ n → cond (not t) (1 + m) 0 ≡ index_after t n
    here true e = refl
    here false e = omega (arith, e)

pub finds : (text : List ℕ) (at to b : ℕ) {r : ℕ} → at ≤ to → r ≡ length (take_while (λ x. not (eqb x b)) (take (to - at) (drop at text))) → r ≡ index_of b (slice at to text)
unfolding slice
finds text at to b {r} h e =
    let part : take (to - at) (drop at text) ≡ drop at (take to text) = sym (drop-take at (to - at) text) ∙ ap (λ (n : ℕ). drop at (take n text)) (omega arith) in
    let l : List ℕ = take (to - at) (drop at text) in
    e
    ∙ length-take-le (prefix_len (λ x. not (eqb x b)) l) l (prefix_len-le-length (λ x. not (eqb x b)) l)
    ∙ before b l
    ∙ ap (index_of b) part

-- ---- lines and names

module _ (text : List ℕ) (at : ℕ) where
  nothing-past : (to : ℕ) → to ≤ at → slice at to text ≡ []
  unfolding slice
  nothing-past to h =
      let l : length (take to text) ≤ at = omega (arith, length-take to text) in
      drop_of_length-le (take to text) l

  not_found : (b to : ℕ) → to ≤ at → at + index_of b (slice at to text) ≡ at
  unfolding index_of
  not_found b to h = ap (λ (l : List ℕ). at + index_of b l) (nothing-past to h) ∙ add-zero at

  pub line-past : length text ≤ at → at ≡ line_end text at
  unfolding line_end
  line-past h = sym (not_found 10 (length text) h)

  pub line-found : (r : ℕ) → r ≡ at + index_of 10 (slice at (length text) text) → r ≡ line_end text at
  unfolding line_end
  line-found r e = e

  pub next_past : length text ≤ at → at ≡ next_line text at
  unfolding next_line
  next_past h = cc (le-ltb at (length text) h)

  pub next-found : (r : ℕ) → r ≡ line_end text at → at < length text → r + 1 ≡ next_line text at
  unfolding next_line
  next-found r e h = cc (lt-ltb at (length text) h)

  pub name_past : length text ≤ at → at ≡ name_end text at
  unfolding name_end
  name_past h = sym (ap (λ (e : ℕ). at + index_of 32 (slice at e text)) (sym (line-past h)) ∙ not_found 32 at (omega arith))

  pub name_found : (r e : ℕ) → e ≡ line_end text at → r ≡ at + index_of 32 (slice at e text) → r ≡ name_end text at
  unfolding name_end
  name_found r e h k = cc

  pub line_low : {r : ℕ} → r ≡ line_end text at → at ≤ r
  unfolding line_end
  line_low e = omega arith

  pub line-high : {r : ℕ} → r ≡ line_end text at → at < length text → r ≤ length text
  unfolding line_end
  line-high e h = omega (arith, found_below text 10 at (length text) (omega arith) (omega arith))

  pub name_low : {r : ℕ} → r ≡ name_end text at → at ≤ r
  unfolding name_end
  name_low e = omega arith

  pub name_high : {r : ℕ} → r ≡ name_end text at → at ≤ length text → r ≤ length text
  unfolding name_end
  name_high {r} e h = go (ltb at (length text)) refl
    where
      go : (t : Bool) → ltb at (length text) ≡ t → r ≤ length text
      go true q =
          let l = line-high refl (ltb-true at (length text) q) in
          omega (arith, e, found_below text 32 at (line_end text at) (line_low refl) l, l)
      go false q = omega (arith, e, h, name_past (ltb-false at (length text) q))

  -- each line leaves less of a list: why a loop over its lines ends
  pub line-less : {r : ℕ} → r ≡ next_line text at → at < length text → length text - r < length text - at
  line-less e h = omega (arith, next-found (line_end text at) refl h, line_low refl)

  -- and a number that counts lines stays within the place
  pub line-more : {r n : ℕ} → r ≡ next_line text at → at < length text → n ≤ at → n + 1 ≤ r
  line-more e h l = omega (arith, next-found (line_end text at) refl h, line_low refl)

-- past the end of the text there is no name
no_name : (text : List ℕ) (at : ℕ) → length text ≤ at → name_of text at ≡ []
unfolding name_of
no_name text at h = ap (take (name_end text at - at)) (drop_of_length-le text h) ∙ take-nil (name_end text at - at)

pub no_name_there : (text : List ℕ) (at : ℕ) → length text < at → [] ≡ name_of text at
no_name_there text at h = sym (no_name text at (omega arith))

pub name_part : (text : List ℕ) (at e : ℕ) → e ≡ name_end text at → take (e - at) (drop at text) ≡ name_of text at
unfolding name_of
name_part text at e h = ap (λ (n : ℕ). take (n - at) (drop at text)) h
