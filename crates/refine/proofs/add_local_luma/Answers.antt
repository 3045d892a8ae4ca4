-- `refine::add_local_luma` meets its contract: the number of the first sentence that holds with nothing written, or every score refined. Assumes nothing.
use mathlib.Core.Bool.{false}
use mathlib.Core.List.{List}
use mathlib.Core.Path.{◌≡◌, ap, ◌∙◌}
use Prim.Native.Nat.{ℕ, ◌*◌, ◌≤◌}
use lib.Ieee.{Float}
use lib.IntN.{ℤ}
use lib.ListN.{length}
use Rattle.sentences.specs.Sentences.{refusal}
use Rattle.places.specs.Places.{bad_places}
use Rattle.color.specs.Palette.{palette_len}
use Rattle.std.specs.Prelude.{Result, Ok, ⊤}
use Rattle.std.specs.Result.{IsErr, IsErrAnd}
use Rattle.answers.specs.declared.refusal.Refusal.{Refusal}
use Rattle.answers.specs.Answers.{number_of}
use Rattle.answers.proofs.Answers.{numbered, passed_on}
use Rattle.stats.specs.declared.ChannelStats.{ChannelStats}
use Rattle.refine.specs.Refine.{lent, refined}
use Rattle.refine.specs.Ready.{FullGrid}
use Rattle.refine.specs.Calls.{Request, request, sentences_of, final, refined_of, final_of, refine_of}
use Rattle.refine.proofs.Accepted.{Accepted, at_refused, at_done, accepted}
use Rattle.refine.proofs.add_local_luma.Goals as goal

module _ (luma : List Float) (side hues : ℕ) (xs ys : List ℤ) (grid : ℕ) (colours palette : List Float) (noise : ChannelStats) (scratch : List Float) where
  abbrev q : Request
  q = request luma side hues xs ys grid colours palette noise scratch

  away : (x : Result ⊤ Refusal) (r : Refusal) (l s : List Float) → IsErr x × IsErrAnd x (λ y. y ≡ r) → number_of r ≡ refusal (sentences_of q) → l ≡ luma → s ≡ scratch → final x l s ≡ refine_of q
  away x r l s p e el es = rw (passed_on x r p, el, es) (at_refused q (number_of r) e (numbered r))

  module _ (e : 0 ≡ refusal (sentences_of q)) where
    wrote : (l s : List Float) → lent l s ≡ refined noise palette hues side xs ys colours luma scratch → final (Ok tt) l s ≡ refine_of q
    unfolding refined_of
    wrote l s h = ap final_of h ∙ at_done q e

    known : Accepted q
    known = accepted q e

    small-side : side ≤ 1024
    small-side = known.side_in.1

    in_pairs : length xs ≡ length ys
    in_pairs = known.long.pairs

    stand : bad_places side grid xs ys ≡ false
    stand = known.placed.places-good

    few-modules : length xs ≤ 1048576
    few-modules = known.placed.modules-most

    few-grid : grid ≤ length xs
    few-grid = known.placed.grid-most

    enough-colours : 3 * length xs ≤ length colours
    enough-colours = known.long.listed.colours-long

    enough-scores : length xs ≤ length luma
    enough-scores = known.long.listed.luma-long

    enough-palette : palette_len hues ≤ length palette
    enough-palette = known.long.listed.palette-long

    room : FullGrid side scratch
    room = record { side-most = small-side; long = known.long.scratch-long }

pub returns-in_err-check : goal.returns-in_err-check
returns-in_err-check c = search (away, c.in_err-check.ensures)

pub invariant_of-card : goal.invariant_of-card
invariant_of-card c =
    let e = c.in_ok-check.ensures in
    record {
      placed = record { side-most = search (small-side, e); pairs = search (in_pairs, e); places-good = search (stand, e) };
      counted = (search (few-grid, e), search (few-modules, e));
    }

pub invariant_of-channel : goal.invariant_of-channel
invariant_of-channel c = let e = c.in_ok-check.ensures in record { long = search (enough-palette, e) }

pub invariant_of-card-2 : goal.invariant_of-card-2
invariant_of-card-2 c = let e = c.in_ok-check.ensures in record { each = search (enough-colours, e) }

pub refine-requires : goal.refine-requires
refine-requires c = let e = c.in_ok-check.ensures in (search (enough-scores, e), search (room, e))

pub returns : goal.returns
returns c = search (wrote, c.in_ok-check.ensures)
