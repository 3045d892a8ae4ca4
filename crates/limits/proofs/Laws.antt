-- What each sentence says where it does not hold; a hue count that sentence 3 lets pass is the power of two of its logarithm, since halving it down to 1 loses nothing. Assumes nothing.
use mathlib.Core.Path.{◌≡◌, refl, sym, ap, ◌∙◌}
use mathlib.Core.Logic.{◌⊎◌, inl, inr, ⊎_elim}
use mathlib.Core.Bool.{Bool, true, false, cond, ◌||◌}
use mathlib.Core.List.{List}
use Prim.Native.Nat.{ℕ, zero, suc, ◌*◌, ◌/◌, ◌^◌, ◌≤◌, ◌<◌}
use native.Mathlib.Nat.{pow-suc, mul-div_cancel}
use native.Mathlib.Omega.{arith}
use lib.Pow.{pow_pos}
use borrow.Author.Tests.{ltb-true, ltb-false, eqb-true, not-false, lt-ltb, le-ltb}
use lib.Dec.{ltb, eqb}
use lib.ListN.{length}
use Rattle.loops.proofs.Laws.{any_up-false}
use Rattle.sentences.proofs.Laws.{neither}
use Rattle.limits.specs.Limits.{bad_side, bad_hues, bad_cell_size, bad_modules, bad_counts, bad_cell, bad_cell_at, bad_cells}
use Rattle.limits.specs.Chroma.{halvings, log2, chroma_on, symbol_bits}

-- ---- sentences that are passed

pub side_in : (side : ℕ) → bad_side side ≡ false → (1 ≤ side) × (side ≤ 1024)
unfolding bad_side
side_in side h = let p = neither (ltb side 1) (ltb 1024 side) h in (ltb-false side 1 p.0, ltb-false 1024 side p.1)

pub cell-size_in : (size : ℕ) → bad_cell_size size ≡ false → (1 ≤ size) × (size ≤ 16)
unfolding bad_cell_size
cell-size_in size h = let p = neither (ltb size 1) (ltb 16 size) h in (ltb-false size 1 p.0, ltb-false 16 size p.1)

pub modules_in : (m g : ℕ) → bad_modules m g ≡ false → (m ≤ 1048576) × (g ≤ m)
unfolding bad_modules
modules_in m g h = let p = neither (ltb 1048576 m) (ltb m g) h in (ltb-false 1048576 m p.0, ltb-false m g p.1)

pub counts_in : (m g c : ℕ) → bad_counts m g c ≡ false → (m ≤ 1048576) × (g ≤ m) × (c ≤ 1048576)
unfolding bad_counts
counts_in m g c h =
    let p = neither (bad_modules m g) (ltb 1048576 c) h in
    let q = modules_in m g p.0 in
    (q.0, q.1, ltb-false 1048576 c p.1)

pub cell_in : (cx cy : ℕ) → bad_cell cx cy ≡ false → (cx ≤ 1023) × (cy ≤ 1023)
unfolding bad_cell
cell_in cx cy h = let p = neither (ltb 1023 cx) (ltb 1023 cy) h in (ltb-false 1023 cx p.0, ltb-false 1023 cy p.1)

pub cells_in : (cxs cys : List ℕ) → bad_cells cxs cys ≡ false → (i : ℕ) → i < length cxs → bad_cell_at cxs cys i ≡ false
cells_in cxs cys h = any_up-false (bad_cell_at cxs cys) (length cxs) h

-- ---- the logarithm

-- any number of halvings that is enough gives the same
half-below : (n k : ℕ) → 1 < n → n ≤ suc k → n / 2 ≤ k
half-below n k l h = omega arith

same_where : {t : Bool} {x y : ℕ} (b : Bool) → t ≡ b → (t ≡ true → x ≡ y) → cond b (suc x) 0 ≡ cond b (suc y) 0
same_where true e h = ap suc (h e)
same_where false e h = refl

enough : (k j n : ℕ) → n ≤ k → n ≤ j → halvings k n ≡ halvings j n
unfolding halvings
enough zero zero n hk hj = refl
enough zero (suc j) n hk hj = rw (le-ltb 1 n (omega arith))
enough (suc k) zero n hk hj = rw (le-ltb 1 n (omega arith))
enough (suc k) (suc j) n hk hj = same_where (ltb 1 n) refl (λ e. enough k j (n / 2) (half-below n k (ltb-true 1 n e) hk) (half-below n j (ltb-true 1 n e) hj))

pub log2-small : (n : ℕ) → n ≤ 1 → log2 n ≡ 0
unfolding log2 halvings
log2-small zero h = refl
log2-small (suc n) h = rw (le-ltb 1 (suc n) h)

pub log2_step : (n : ℕ) → 1 < n → log2 n ≡ suc (log2 (n / 2))
unfolding log2 halvings
log2_step zero h = absurd (omega arith)
log2_step (suc n) h = rw (lt-ltb 1 (suc n) h) (ap suc (enough n (suc n / 2) (suc n / 2) (half-below (suc n) n h (omega arith)) (omega arith)))

pub log2_pow : (q : ℕ) → log2 (2 ^ q) ≡ q
log2_pow zero = log2-small 1 (omega arith)
log2_pow (suc q) =
    let e : 2 ^ suc q / 2 ≡ 2 ^ q = ap (λ (x : ℕ). x / 2) (pow-suc 2 q) ∙ mul-div_cancel (2 ^ q) (omega arith) in
    log2_step (2 ^ suc q) (omega (arith, pow-suc 2 q, pow_pos q)) ∙ ap suc (ap log2 e ∙ log2_pow q)

-- it is the only k for which n is at least 2 ^ k and below twice that
pub log2_between : (k n : ℕ) → 2 ^ k ≤ n → n < 2 * 2 ^ k → log2 n ≡ k
log2_between zero n h g = log2-small n (omega arith)
log2_between (suc k) n h g =
    let e : 2 ^ suc k ≡ 2 ^ k * 2 = pow-suc 2 k in
    let p : 1 ≤ 2 ^ k = pow_pos k in
    log2_step n (omega arith) ∙ ap suc (log2_between k (n / 2) (omega arith) (omega arith))

-- ---- hue counts

-- k is a power of two, at most 2 ^ 4
pub record Hues (k : ℕ) : Type 0 where
  pub power : 2 ^ log2 k ≡ k
  pub bits : log2 k ≤ 4
  pub least : 1 ≤ k
  pub most : k ≤ 16

of_power : (k q : ℕ) → q ≤ 4 → k ≡ 2 ^ q → 2 ^ q ≤ 16 → Hues k
of_power k q h e m =
    let l : log2 k ≡ q = ap log2 e ∙ log2_pow q in
    record { power = ap (λ (x : ℕ). 2 ^ x) l ∙ sym e; bits = omega arith; least = omega (arith, pow_pos q); most = omega arith }

one_or : (k n : ℕ) (r : Bool) → eqb k n || r ≡ true → (k ≡ n) ⊎ (r ≡ true)
one_or k n r h = by (eqb k n) refl h
  where
    by : (b : Bool) → eqb k n ≡ b → b || r ≡ true → (k ≡ n) ⊎ (r ≡ true)
    by true e h = inl (eqb-true k n e)
    by false e h = inr h

pub hues_in : (k : ℕ) → bad_hues k ≡ false → Hues k
unfolding bad_hues
hues_in k h =
    ⊎_elim (λ (e : k ≡ 1). of_power k 0 (omega arith) e (omega arith))
    (λ r. ⊎_elim (λ (e : k ≡ 2). of_power k 1 (omega arith) e (omega arith))
    (λ r. ⊎_elim (λ (e : k ≡ 4). of_power k 2 (omega arith) e (omega arith))
    (λ r. ⊎_elim (λ (e : k ≡ 8). of_power k 3 (omega arith) e (omega arith))
    (λ r. of_power k 4 (omega arith) (eqb-true k 16 r) (omega arith))
    (one_or k 8 _ r)) (one_or k 4 _ r)) (one_or k 2 _ r)) (one_or k 1 _ (not-false _ h))

-- a symbol's bits, too, are at most 4
few_where : (b : Bool) (n : ℕ) → n ≤ 4 → cond b n 0 ≤ 4
few_where true n h = h
few_where false n h = omega arith

pub symbol_bits_few : (k : ℕ) → bad_hues k ≡ false → symbol_bits k ≤ 4
unfolding symbol_bits
symbol_bits_few k h = few_where (chroma_on k) (log2 k) (hues_in k h).bits

-- with chroma on, a symbol has the logarithm's bits
pub symbol_bits_on : (k : ℕ) → chroma_on k ≡ true → symbol_bits k ≡ log2 k
unfolding symbol_bits
symbol_bits_on k h = rw h
