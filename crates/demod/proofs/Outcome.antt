-- What a caller of `score` may use, from its contract alone: the answer says which sentence was the first to hold, that a refused call changed nothing, and that an accepted one wrote each module's score
-- and colour and each entry's chroma scores, and nothing else. Assumes nothing.
use mathlib.Core.Path.{◌≡◌, refl, sym, ap, ◌∙◌}
use mathlib.Core.Bool.{Bool, true, false, cond}
use mathlib.Core.List.{List}
use Prim.Native.Nat.{ℕ, ◌+◌, ◌-◌, ◌*◌, ◌≤◌, ◌<◌, zero-le}
use native.Mathlib.Nat.{mul_comm, suc-mul, mul-le-mul_right, le_trans, le_of_eq}
use native.Mathlib.Omega.{arith}
use borrow.Author.Tests.{eq-eqb}
use lib.Dec.{eqb}
use lib.ListN.{length, get_or}
use lib.Ieee.{Float, nan}
use Rattle.sentences.specs.Sentences.{refusal, at, before}
use Rattle.limits.specs.Chroma.{chroma_on, symbol_bits, ring_modules, chroma_entries, chroma_length}
use Rattle.modulate.specs.declared.Cell.TheVariants.{Unmasked, At}
use Rattle.answers.specs.Answers.{gives}
use Rattle.scores.specs.Score.{write_cells, write_rings, ring_chroma, chroma_written}
use Rattle.demod.specs.Call.{Request, module_colours, cell_colours, sentences_of, report_of, turned_away, done, written_modules, written_chroma, scored_of}
use Rattle.demod.proofs.Accepted.{Accepted, accepted, number, answer-number, given, first, turned-away, taken}
use Rattle.scores.proofs.Written.{Modules, modules_are, Entries, entry_score, place, cells_are, cell_of, rings_are, ring-has, ring_long, ring-below, ring-past}

-- the chroma list of an accepted call, with chroma on
pub record Listed (q : Request) : Type 0 where
  pub long : length (written_chroma q) ≡ length q.chroma
  pub cell : (i b : ℕ) → i < length q.cxs → b < symbol_bits q.layout.hues →
      get_or (written_chroma q) (place q.layout.hues i b) nan ≡ entry_score q.noise q.palette q.layout.hues (At (get_or q.cxs i 0) (get_or q.cys i 0)) (cell_colours q i) b
  pub ring : q.layout.size ≡ 1 → (i b : ℕ) → q.layout.grid ≤ i → i < length q.xs → b < symbol_bits q.layout.hues →
      get_or (written_chroma q) (place q.layout.hues (length q.cxs + (i - q.layout.grid)) b) nan ≡ entry_score q.noise q.palette q.layout.hues Unmasked (module_colours q i) b
  pub kept : (j : ℕ) → chroma_length q.layout.hues (length q.cxs) (ring_modules (length q.xs) q.layout.grid) q.layout.size ≤ j → get_or (written_chroma q) j nan ≡ get_or q.chroma j nan

-- the length by the cell size
module _ (hues cells ring size : ℕ) where
  length_is : (b : Bool) → eqb size 1 ≡ b → chroma_length hues cells ring size ≡ (cells + cond b ring 0) * symbol_bits hues
  unfolding chroma_length chroma_entries
  length_is b e = ap (λ (t : Bool). symbol_bits hues * (cells + cond t ring 0)) e ∙ mul_comm (symbol_bits hues) (cells + cond b ring 0)

module _ (q : Request) (a : Accepted q) (o : chroma_on q.layout.hues ≡ true) where
  abbrev k : ℕ
  k = symbol_bits q.layout.hues

  abbrev c : ℕ
  c = length q.cxs

  abbrev m : ℕ
  m = length q.xs

  abbrev mid : List Float
  mid = write_cells q.noise q.palette q.layout.hues q.cxs q.cys (cell_colours q) c q.chroma

  whole : (b : Bool) → eqb q.layout.size 1 ≡ b → (c + cond b (m - q.layout.grid) 0) * k ≤ length q.chroma
  whole b e = le_trans (le_of_eq (sym (length_is q.layout.hues c (m - q.layout.grid) q.layout.size b e))) a.lengths.chroma-long

  more : (x y : ℕ) → x ≤ x + y
  more x y = omega arith

  past : (b : Bool) → eqb q.layout.size 1 ≡ b → (j : ℕ) → chroma_length q.layout.hues c (ring_modules m q.layout.grid) q.layout.size ≤ j → (c + cond b (m - q.layout.grid) 0) * k ≤ j
  past b e j h = le_trans (le_of_eq (sym (length_is q.layout.hues c (m - q.layout.grid) q.layout.size b e))) h

  first_places : (i b : ℕ) → i < c → b < k → place q.layout.hues i b < c * k
  first_places i b h f = omega (arith, suc-mul i k, mul-le-mul_right k h)

  cells-long : (b : Bool) → eqb q.layout.size 1 ≡ b → c * k ≤ length q.chroma
  cells-long b e = le_trans (mul-le-mul_right k (more c (cond b (m - q.layout.grid) 0))) (whole b e)

  module _ (b : Bool) (e : eqb q.layout.size 1 ≡ b) where
    celled : Entries q.noise q.palette q.layout.hues (cell_of q.noise q.palette q.layout.hues q.cxs q.cys (cell_colours q) q.chroma) (cell_colours q) 0 q.chroma c mid
    celled = cells_are q.noise q.palette q.layout.hues q.cxs q.cys (cell_colours q) q.chroma c (cells-long b e)

    written : written_chroma q ≡ cond b (write_rings q.noise q.palette q.layout.hues c q.layout.grid (module_colours q) m mid) mid
    unfolding chroma_written ring_chroma
    written = rw (o, e)

  -- at cell size 1 the ring modules follow
  with_ring : eqb q.layout.size 1 ≡ true → Listed q
  with_ring e =
      let p = celled true e in
      let w = written true e in
      let l : (c + (m - q.layout.grid)) * k ≤ length mid = le_trans (whole true e) (le_of_eq (sym p.long)) in
      let r = rings_are q.noise q.palette q.layout.hues c q.layout.grid (module_colours q) mid m a.placed.grid-most l in
      let out = write_rings q.noise q.palette q.layout.hues c q.layout.grid (module_colours q) m mid in
      record {
        long = ap length w ∙ ring_long q.noise q.palette q.layout.hues c q.layout.grid (module_colours q) mid m out r ∙ p.long;
        cell = λ i b h f. ap (λ (s : List Float). get_or s (place q.layout.hues i b) nan) w ∙
            ring-below q.noise q.palette q.layout.hues c q.layout.grid (module_colours q) mid m out r (place q.layout.hues i b) (first_places i b h f) ∙ p.has i b zero-le h f;
        ring = λ z i b g h f. ap (λ (s : List Float). get_or s (place q.layout.hues (c + (i - q.layout.grid)) b) nan) w ∙
            ring-has q.noise q.palette q.layout.hues c q.layout.grid (module_colours q) mid m out r i b g h f;
        kept = λ j h. ap (λ (s : List Float). get_or s j nan) w ∙
            ring-past q.noise q.palette q.layout.hues c q.layout.grid (module_colours q) mid m out r j (past true e j h) ∙ p.past j (le_trans (mul-le-mul_right k (more c (m - q.layout.grid))) (past true e j h));
      }

  without_ring : eqb q.layout.size 1 ≡ false → Listed q
  without_ring e =
      let p = celled false e in
      let w = written false e in
      record {
        long = ap length w ∙ p.long;
        cell = λ i b h f. ap (λ (s : List Float). get_or s (place q.layout.hues i b) nan) w ∙ p.has i b zero-le h f;
        ring = λ z i b g h f. let d = eq-eqb q.layout.size 1 z in let y : ◌≡◌ {A = ℕ} 0 1 = cc in absurd (omega arith);
        kept = λ j h. ap (λ (s : List Float). get_or s j nan) w ∙ p.past j (le_trans (mul-le-mul_right k (more c 0)) (past false e j h));
      }

  pub listed : Listed q
  listed = by_size (eqb q.layout.size 1) refl
    where
      by_size : (b : Bool) → eqb q.layout.size 1 ≡ b → Listed q
      by_size true e = with_ring e
      by_size false e = without_ring e

-- ---- the two answers

pub chroma-off : (q : Request) → chroma_on q.layout.hues ≡ false → written_chroma q ≡ q.chroma
unfolding chroma_written
chroma-off q o = rw o

module _ (q : Request) where
  pub record IsDone : Type 0 where
    pub fit : Accepted q
    pub left : scored_of q ≡ done q
    pub wrote : Modules q.noise q.palette q.layout.hues (module_colours q) q.luma q.colours (length q.xs) (written_modules q)
    pub chroma : chroma_on q.layout.hues ≡ true → Listed q
    pub no_chroma : chroma_on q.layout.hues ≡ false → written_chroma q ≡ q.chroma

  pub at_done : (scored_of q).answer ≡ gives (report_of q) → IsDone
  at_done h =
      let e : 0 ≡ refusal (sentences_of q) = sym (ap (λ a. a.number) h) ∙ (answer-number q ∙ number q) in
      let a = accepted q e in
      record {
        fit = a;
        left = sym (taken q e);
        wrote = modules_are q.noise q.palette q.layout.hues (module_colours q) q.luma q.colours (length q.xs) a.lengths.scores a.lengths.places;
        chroma = listed q a;
        no_chroma = chroma-off q;
      }

  pub record IsRefused (n : ℕ) : Type 0 where
    pub left : scored_of q ≡ turned_away q n
    pub holds : at n (sentences_of q) ≡ true
    pub earlier : (m : ℕ) → at m (before n (sentences_of q)) ≡ false

  pub at_refused : (n : ℕ) → (n ≡ 0 → ⊥) → (scored_of q).number ≡ n → IsRefused n
  at_refused n z h =
      let e : n ≡ refusal (sentences_of q) = sym h ∙ number q in
      record { left = sym (turned-away q n e z); holds = given q n e z; earlier = first q n e }
