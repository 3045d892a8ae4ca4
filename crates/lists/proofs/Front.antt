-- A slice whose first n entries are written through `[..n]`: what stands there, and behind it the rest as it was, is the list whose first n entries are replaced. Assumes nothing.
use mathlib.Core.Path.{◌≡◌, ap, ◌∙◌}
use mathlib.Core.List.{List, ◌++◌}
use Prim.Native.Nat.{ℕ, ◌+◌, ◌-◌, ◌≤◌, ◌<◌}
use native.Mathlib.Omega.{arith}
use lib.ListN.{length, get_or, take, drop, length-append, get_or-append}
use lib.Seq.{length-take-le, get_or-append_right, get_or-drop}
use Rattle.std.proofs.Common.{length-drop}
use Rattle.std.proofs.lemmas.List.{get_or-take}
use Rattle.lists.specs.Lists.{replaced}
use Rattle.lists.proofs.Laws.{is_replaced}

-- an entry of the first n is one of the list
pub front-below : {A : Type 0} (n i : ℕ) (l : List A) → n ≤ length l → i < length (take n l) → i < n
front-below n i l h p = let e = length-take-le n l h in omega arith

module _ {A : Type 0} (d : A) (n : ℕ) (f : ℕ → A → A) (l s : List A) (h : n ≤ length l) (e : length s ≡ length (take n l)) where
  long : length s ≡ n
  long = e ∙ length-take-le n l h

  whole : length (s ++ drop n l) ≡ length l
  whole = let p = length-append s (drop n l) in let q = length-drop n l in let r = long in omega arith

  behind : (j : ℕ) → n ≤ j → get_or (s ++ drop n l) j d ≡ get_or l j d
  behind j q =
      let r = long in
      let past : length s ≤ j = omega arith in
      let there : n + (j - length s) ≡ j = omega arith in
      get_or-append_right s (drop n l) j d past ∙ get_or-drop n l (j - length s) d ∙ ap (λ (k : ℕ). get_or l k d) there

  -- each of the first n entries is written
  pub front_replaced : ((j : ℕ) → j < n → get_or s j d ≡ f j (get_or l j d)) → s ++ drop n l ≡ replaced d n f l
  front_replaced done =
      is_replaced d n f l (s ++ drop n l) h whole
      (λ j q. get_or-append s (drop n l) d j (let r = long in omega arith) ∙ done j q) behind

  -- the loop came to their end, and wrote each of them
  pub front_written : (i : ℕ) → length (take n l) ≤ i → ((j : ℕ) → j < i → get_or s j d ≡ f j (get_or (take n l) j d)) → s ++ drop n l ≡ replaced d n f l
  front_written i past done = front_replaced (λ j q. done j (omega (arith, length-take-le n l h)) ∙ ap (f j) (get_or-take n l j d q))
