-- What an `any` of the first numbers of a list comes to, whatever test is passed. Assumes nothing.
use Rattle.std.proofs.Common.{◌≡◌, ℕ, ◌<◌, ◌≤◌, Bool, true, false, List, length, take, refl, sym, ap, ◌∙◌, T, subst, arith}
use Rattle.std.specs.Bool.{MatchBool}
use Rattle.std.specs.List.{HoldsAt, AllWithin}
use lib.Ieee.{Float, nan}
use lib.Seq.{get_or-take, length-take-le}
use Rattle.loops.proofs.Laws.{any_from}
use Rattle.illum.specs.Tests.{passes_at, any_first, Answers}

module _ (Gives : Float → Bool → Type 0) (p : Float → Bool) (h : Answers Gives p) (l : List Float) (n : ℕ) (few : n ≤ length l) where
  long : length (take n l) ≡ n
  long = length-take-le n l few

  told : (b : Bool) (k : ℕ) → k < n → HoldsAt (λ x. Gives x b) (take n l) k → b ≡ passes_at p l k
  told b k s g = h _ b (g nan) ∙ ap p (get_or-take n l k nan s)

  pub found : (r : Bool) → MatchBool r ((k : ℕ) × (k < length (take n l)) × HoldsAt (λ x. Gives x true) (take n l) k) (AllWithin (λ x. Gives x false) (take n l) 0 (length (take n l)))
      → r ≡ any_first p n l
  found true m =
      let s : m.0 < n = omega (arith, long, m.1) in
      any_from (passes_at p l) n true (λ t. (m.0, s, sym (told true m.0 s m.2)), λ t. refl)
  found false m =
      any_from (passes_at p l) n false (λ t. absurd (apart t), λ q. told false q.0 q.1 (λ d. m q.0 d (omega arith) (omega (arith, long, q.1))) ∙ q.2)
    where
      apart : false ≡ true → ⊥
      apart t = subst T (sym t) tt
