-- Lists in lent slices: one that a loop filled with f(i) is the list of f(i), and the first of arrays are as long as they are asked for. Assumes nothing.
use mathlib.Core.Path.{◌≡◌, refl, sym, ap, ◌∙◌}
use mathlib.Core.List.{List, [], ◌∷◌, ◌++◌}
use Prim.Native.Nat.{ℕ, zero, suc, ◌+◌, ◌*◌, ◌/◌, ◌≤◌, ◌<◌}
use native.Mathlib.Omega.{arith}
use lib.ListN.{length, get_or, take, replicate}
use lib.Seq.{ext_get_or, take-append_seam}
use lib.Ieee.{Float, binary32, of_bits}
use Rattle.loops.specs.Loops.{turns, for_up}
use Rattle.card.specs.Sections.{filled}
use Rattle.card.proofs.Filled.{filled_is}
use Rattle.readout.proofs.Lists.{first_same, same_long}
use Rattle.reader.specs.File.{list_from, list_of}
use Rattle.reader.specs.Fitting.{scratch_of, marks_of}

-- ---- the list of f(i)

from-length : {A : Type 0} (f : ℕ → A) (k i : ℕ) → length (list_from f k i) ≡ k
unfolding list_from
from-length f zero i = refl
from-length f (suc k) i = ap suc (from-length f k (suc i))

from_at : {A : Type 0} (d : A) (f : ℕ → A) (k i j : ℕ) → j < k → get_or (list_from f k i) j d ≡ f (i + j)
unfolding list_from
from_at d f zero i j h = absurd (omega arith)
from_at d f (suc k) i zero h = ap f (sum i)
  where
    sum : (i : ℕ) → i ≡ i + 0
    sum i = omega arith
from_at d f (suc k) i (suc j) h = from_at d f k (suc i) j (omega arith) ∙ ap f (sum i j)
  where
    sum : (i j : ℕ) → suc i + j ≡ i + suc j
    sum i j = omega arith

pub list_length : {A : Type 0} (f : ℕ → A) (n : ℕ) → length (list_of f n) ≡ n
unfolding list_of
list_length f n = from-length f n 0

pub list_at : {A : Type 0} (d : A) (f : ℕ → A) (n i : ℕ) → i < n → get_or (list_of f n) i d ≡ f i
unfolding list_of
list_at d f n i h = from_at d f n 0 i h ∙ ap f (sum i)
  where
    sum : (i : ℕ) → 0 + i ≡ i
    sum i = omega arith

-- what holds of the default and of every f(i) holds of the number at every place
from-every : {A : Type 0} (P : A → Type 0) (d : A) (f : ℕ → A) → P d → ((i : ℕ) → P (f i)) → (k i j : ℕ) → P (get_or (list_from f k i) j d)
unfolding list_from
from-every P d f z h zero i j = z
from-every P d f z h (suc k) i zero = h i
from-every P d f z h (suc k) i (suc j) = from-every P d f z h k (suc i) j

pub list-every : {A : Type 0} (P : A → Type 0) (d : A) (f : ℕ → A) → P d → ((i : ℕ) → P (f i)) → (n i : ℕ) → P (get_or (list_of f n) i d)
unfolding list_of
list-every P d f z h n i = from-every P d f z h n 0 i

-- what a loop over all places left
fill_none : {A : Type 0} (f : ℕ → A) → filled f 0 [] ≡ list_of f 0
unfolding for_up turns list_of list_from
fill_none f = refl

filled_all : {A : Type 0} (f : ℕ → A) (n : ℕ) (out l : List A) → l ≡ filled f n out → length out ≡ n → l ≡ list_of f n
filled_all f n [] l e h = e ∙ ap (λ (k : ℕ). filled f k []) (sym h) ∙ fill_none f ∙ ap (list_of f) h
filled_all f n (d ∷ out) l e h =
    let r = filled_is d f (d ∷ out) n in
    e ∙
    ext_get_or d (filled f n (d ∷ out)) (list_of f n) (r.same_length ∙ h ∙ sym (list_length f n))
    (λ i q. let g : i < length (d ∷ out) = omega (arith, r.same_length) in r.written i (omega arith) g ∙ sym (list_at d f n i (omega arith)))

pub all_filled : {A : Type 0} (f : ℕ → A) (n : ℕ) (out l : List A) → l ≡ filled f (length out) out → length out ≡ n → l ≡ list_of f n
all_filled f n out l e h = filled_all f n out l (e ∙ ap (λ (k : ℕ). filled f k out) h) h

-- the same of the front of a list, of which nothing else is written
pub front_filled : {A : Type 0} (f : ℕ → A) (n : ℕ) (out l rest : List A) → l ≡ filled f (length out) out → length out ≡ n → take n (l ++ rest) ≡ list_of f n
front_filled f n out l rest e h =
    let g = all_filled f n out l e h in
    ap (λ (k : ℕ). take k (l ++ rest)) (sym (ap length g ∙ list_length f n)) ∙ take-append_seam l rest ∙ g

-- ---- arrays

pub taken_long : {A : Type 0} (n m : ℕ) (a : A) → n ≤ m → length (take n (replicate m a)) ≡ n
taken_long n m a h = sym (same_long n m a h)

-- the scratch of the fit and of the measurement, of at most 510 references
pub scratch_first : (references : List Float) → length references ≤ 4080 → take (4 * (length references / 8)) (replicate 2040 (of_bits binary32 0)) ≡ scratch_of references
scratch_first references h = first_same (4 * (length references / 8)) 2040 (of_bits binary32 0) (omega arith)

-- the marks of the fit
pub marks_first : (references : List Float) → length references ≤ 4080 → take (length references / 8) (replicate 510 0) ≡ marks_of references
marks_first references h = first_same (length references / 8) 510 0 (omega arith)
