-- What holds where the number of the call's sentences is 0: each sentence's opposite. Assumes nothing.
use mathlib.Core.Path.{◌≡◌, refl, sym, ◌∙◌}
use mathlib.Core.Bool.{true, false}
use mathlib.Core.List.{◌++◌}
use Prim.Native.Nat.{ℕ, ◌≤◌, ◌<◌}
use native.Mathlib.Omega.{arith}
use borrow.Author.Tests.{ltb-false}
use lib.ListN.{length}
use Rattle.loops.proofs.Laws.{any_up-false}
use Rattle.sentences.specs.Sentences.{refusal, at, sound, fresh}
use Rattle.sentences.proofs.Laws.{split}
use Rattle.limits.proofs.Laws.{side_in}
use Rattle.places.specs.Places.{misplaced_at}
use Rattle.layout.specs.Groups.{module_placement, ModulesPlaced, Positions}
use Rattle.layout.proofs.Laws.{modules-sound, modules-placed}
use Rattle.answers.proofs.Answers.{none_of}
use Rattle.illum.specs.Refusals.{bad_terms}
use Rattle.page.specs.Lines.{columns}
use Rattle.page.specs.Calls.{Request, widest, ahead_of, behind_of, sentences_of}
use Rattle.page.proofs.Passed.{Lengths, lengths, tally_in}

-- no sentence holds
pub record Accepted (q : Request) : Type 0 where
  pub narrow : q.side ≤ columns
  pub positions : Positions q.side q.grid q.xs q.ys
  pub counted : (q.grid ≤ length q.xs) × (length q.xs ≤ 1048576)
  pub long : Lengths q.side (length q.xs) (length q.ys) (length q.luma) (length q.page)
  pub tally : (q.kept ≤ 16384) × (q.rejected ≤ 16384) × (q.held ≤ 1048576)
  pub terms-good : bad_terms q.terms ≡ false

module _ (q : Request) (n : ℕ) (e : n ≡ refusal (sentences_of q)) (z : n ≡ 0) where
  ahead-sound : sound (ahead_of q) ≡ true
  unfolding sound fresh
  ahead-sound = refl

  behind-sound : sound (behind_of q) ≡ true
  unfolding sound fresh
  behind-sound = refl

  parted : (0 ≡ refusal (ahead_of q)) × (0 ≡ refusal (module_placement q.side q.grid q.xs q.ys ++ behind_of q))
  unfolding sentences_of
  parted = split (ahead_of q) (module_placement q.side q.grid q.xs q.ys ++ behind_of q) ahead-sound (sym z ∙ e)

  placed-and-behind : (0 ≡ refusal (module_placement q.side q.grid q.xs q.ys)) × (0 ≡ refusal (behind_of q))
  placed-and-behind = split (module_placement q.side q.grid q.xs q.ys) (behind_of q) (modules-sound q.side q.grid q.xs q.ys) parted.1

  first : (m : ℕ) → at m (ahead_of q) ≡ false
  first = none_of (ahead_of q) ahead-sound 0 parted.0 refl

  last : (m : ℕ) → at m (behind_of q) ≡ false
  last = none_of (behind_of q) behind-sound 0 placed-and-behind.1 refl

  placed : ModulesPlaced q.side q.grid q.xs q.ys
  placed = modules-placed q.side q.grid q.xs q.ys 0 placed-and-behind.0 refl

  long : Lengths q.side (length q.xs) (length q.ys) (length q.luma) (length q.page)
  unfolding at
  long = lengths q.side (length q.xs) (length q.ys) (length q.luma) (length q.page) (first 5)

  pub accepted : Accepted q
  unfolding at
  accepted =
      record {
        narrow = omega (arith, ltb-false widest q.side (last 14));
        positions = record { side-most = (side_in q.side (first 2)).1; pairs = long.pairs; places-good = placed.places-good };
        counted = (placed.grid-most, placed.modules-most);
        long = long;
        tally = tally_in q.kept q.rejected q.held (first 6);
        terms-good = last 10;
      }

pub each_placed : (q : Request) → Accepted q → (i : ℕ) → i < length q.xs → misplaced_at q.side q.grid q.xs q.ys i ≡ false
each_placed q a i h = any_up-false (misplaced_at q.side q.grid q.xs q.ys) (length q.xs) a.positions.places-good i h
