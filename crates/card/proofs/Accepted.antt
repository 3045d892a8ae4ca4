-- What an accepted file is: its sections lie one after the other between the directory and its end, so each lies inside it and all of them
-- together fill it. And a file is refused exactly where it is malformed. Assumes nothing.
use mathlib.Core.Path.{◌≡◌, refl, ap, ◌∙◌}
use mathlib.Core.Logic.{⊎_elim}
use mathlib.Core.Bool.{Bool, true, false, not}
use mathlib.Core.List.{List}
use mathlib.Core.Option.{some-injective}
use Prim.Native.Nat.{ℕ, zero, suc, ◌+◌, ◌*◌, ◌%◌, ◌≤◌, ◌<◌}
use native.Mathlib.Omega.{arith}
use native.Mathlib.Nat.{eq-or-lt_of_le, le_refl}
use borrow.Author.Tests.{ltb-false, eqb-true}
use lib.Dec.{ltb, eqb}
use lib.ListN.{length, get_or}
use Rattle.loops.specs.Loops.{any_up}
use Rattle.loops.proofs.Laws.{any_up-false}
use Rattle.sentences.specs.Sentences.{refusal, decided}
use Rattle.sentences.proofs.Laws.{neither}
use Rattle.answers.specs.Answers.{Said, refused_by, gives}
use Rattle.card.specs.Number.{u16_at}
use Rattle.card.specs.File.{offset_of, length_of, start_of, misplaced_at, bad_directory, bad_palette, bad_lengths, large_side, malformed, settings_at, section_of, card_of, opened}
use Rattle.card.specs.declared.Card.{Card}

same : (a b : ℕ) → not (eqb a b) ≡ false → a ≡ b
same a b e = by (eqb a b) refl e
  where
    by : (r : Bool) → eqb a b ≡ r → not r ≡ false → a ≡ b
    by true h e = eqb-true a b h
    by false h e = let z : ◌≡◌ {A = ℕ} 0 1 = cc in absurd (omega arith)

-- where a section starts, the later ones do not start before
start-next : (pairs : ℕ) (s : List ℕ) (k : ℕ) → start_of pairs s (suc k) ≡ start_of pairs s k + length_of s k
unfolding start_of
start-next pairs s k = refl

pub start_first : (pairs : ℕ) (s : List ℕ) → start_of pairs s 0 ≡ 8 * pairs
unfolding start_of
start_first pairs s = refl

later : (pairs : ℕ) (s : List ℕ) (k j : ℕ) → k ≤ j → start_of pairs s k ≤ start_of pairs s j
later pairs s zero zero h = le_refl (start_of pairs s zero)
later pairs s (suc k) zero h = absurd (omega arith)
later pairs s k (suc j) h =
    ⊎_elim (λ (e : k ≡ suc j). rw e (le_refl (start_of pairs s (suc j))))
    (λ (l : k < suc j). omega (arith, later pairs s k j (omega arith), start-next pairs s j)) (eq-or-lt_of_le h)

-- ---- over the number of pairs
module _ (pairs : ℕ) (s : List ℕ) (good : malformed pairs s ≡ false) where
  pub record Tests : Type 0 where
    pub small : length s ≤ 16384
    pub directory : bad_directory pairs s ≡ false
    pub lengths : bad_lengths pairs s ≡ false
    pub side : u16_at s (8 * pairs) ≤ 64

  pub tests : Tests
  unfolding malformed large_side
  tests =
      let p = neither (ltb 16384 (length s)) _ good in
      let q = neither (ltb (length s) (8 * pairs)) _ p.1 in
      let r = neither (bad_directory pairs s) _ q.1 in
      let t = neither (bad_lengths pairs s) _ r.1 in
      record { small = ltb-false 16384 (length s) p.0; directory = r.0; lengths = t.0; side = ltb-false 64 (u16_at s (8 * pairs)) t.1 }

  laid : (any_up 0 pairs (misplaced_at pairs s) ≡ false) × (not (eqb (start_of pairs s pairs) (length s)) ≡ false)
  unfolding bad_directory
  laid = neither (any_up 0 pairs (misplaced_at pairs s)) _ tests.directory

  -- each section starts where the last ended, and the last ends the file
  pub starts : (k : ℕ) → k < pairs → offset_of s k ≡ start_of pairs s k
  starts k h = same (offset_of s k) (start_of pairs s k) (any_up-false (misplaced_at pairs s) pairs laid.0 k h)

  pub ends : start_of pairs s pairs ≡ length s
  ends = same (start_of pairs s pairs) (length s) laid.1

  -- so every section lies inside the file
  pub inside : (k : ℕ) → k < pairs → offset_of s k + length_of s k ≤ length s
  inside k h = omega (arith, starts k h, ends, start-next pairs s k, later pairs s (suc k) pairs h)

  -- the lengths
  pub record Lengths : Type 0 where
    pub settings : length_of s 0 ≡ 8
    pub palette : length_of s 1 ≡ 8 + 32 * get_or s (8 * pairs + 3) 0
    pub references : length_of s 2 % 32 ≡ 0
    pub modules : length_of s 3 % 16 ≡ 0
    pub cells : length_of s 4 % 16 ≡ 0

  pub lengths_are : Lengths
  unfolding bad_lengths bad_palette
  lengths_are =
      let p = neither (not (eqb (length_of s 0) 8)) _ tests.lengths in
      let q = neither (bad_palette pairs s) _ p.1 in
      let r = neither (not (eqb (length_of s 2 % 32) 0)) _ q.1 in
      let t = neither (not (eqb (length_of s 3 % 16) 0)) _ r.1 in
      record {
        settings = same (length_of s 0) 8 p.0;
        palette = same (length_of s 1) (8 + 32 * get_or s (8 * pairs + 3) 0) q.0;
        references = same (length_of s 2 % 32) 0 r.0;
        modules = same (length_of s 3 % 16) 0 t.0;
        cells = same (length_of s 4 % 16) 0 t.1;
      }

-- ---- a file of five pairs that is accepted
pub record Held (s : List ℕ) (c : Card) : Type 0 where
  pub well_formed : malformed 5 s ≡ false
  pub is : c ≡ card_of 5 s
  pub side : c.settings.side ≤ 64
  pub palette : c.palette + (8 + 32 * c.settings.hues) ≤ length s
  pub references : c.references.at + 32 * c.references.count ≤ length s
  pub modules : c.modules.at + 16 * c.modules.count ≤ length s
  pub cells : c.cells.at + 16 * c.cells.count ≤ length s
  pub whole : 56 + 32 * c.settings.hues + 32 * c.references.count + 16 * c.modules.count + 16 * c.cells.count ≡ length s
  pub small : length s ≤ 16384

holds : (s : List ℕ) → malformed 5 s ≡ false → Held s (card_of 5 s)
unfolding card_of settings_at section_of
holds s good =
    let t = tests 5 s good in
    let l = lengths_are 5 s good in
    let a = inside 5 s good 1 (omega arith) in
    let b = inside 5 s good 2 (omega arith) in
    let d = inside 5 s good 3 (omega arith) in
    let e = inside 5 s good 4 (omega arith) in
    record {
      well_formed = good;
      is = refl;
      side = t.side;
      palette = omega arith;
      references = omega arith;
      modules = omega arith;
      cells = omega arith;
      whole = omega (arith, ends 5 s good, start-next 5 s 0, start-next 5 s 1, start-next 5 s 2, start-next 5 s 3, start-next 5 s 4, start_first 5 s);
      small = t.small;
    }

-- what the definition accepts is not refused, and what it does not accept is
pub not-refused : (pairs : ℕ) (s : List ℕ) → malformed pairs s ≡ false → opened pairs s ≡ gives (card_of pairs s)
unfolding opened refusal decided
not-refused pairs s h = rw h

pub refused : (pairs : ℕ) (s : List ℕ) → malformed pairs s ≡ true → opened pairs s ≡ refused_by 1
unfolding opened refusal decided
refused pairs s h = rw h

by_test : (s : List ℕ) (c : Card) (b : Bool) → malformed 5 s ≡ b → gives c ≡ opened 5 s → Held s c
by_test s c true e h =
    let z : ◌≡◌ {A = ℕ} 0 1 = ap (λ (a : Said Card). a.number) (h ∙ refused 5 s e) in absurd (omega arith)
by_test s c false e h =
    let p : c ≡ card_of 5 s = some-injective c (card_of 5 s) (ap (λ (a : Said Card). a.value) (h ∙ not-refused 5 s e)) in
    rw p (holds s e)

-- what a caller of `open` may use of the card that it gave
pub accepted : (s : List ℕ) (c : Card) → gives c ≡ opened 5 s → Held s c
accepted s c h = by_test s c (malformed 5 s) refl h
