-- `order::mad_sigma` meets its contract: refused by its one sentence, and else what `mad_sigma_core` gives. Assumes nothing.
use mathlib.Core.Path.{◌≡◌, ap, ◌∙◌}
use mathlib.Core.List.{List}
use Prim.Native.Nat.{◌*◌, ◌≤◌, ◌<◌}
use borrow.Author.Tests.{lt-ltb, le-ltb}
use lib.ListN.{length}
use lib.Ieee.{Float}
use Rattle.sentences.specs.Sentences.{refusal, decided}
use Rattle.answers.specs.Answers.{refused_by, gives}
use Rattle.order.specs.Deviation.{spread, mad_sigma, final, final_of, mad_sigma_of}
use Rattle.order.proofs.mad_sigma.Goals as goal

module _ (values scratch : List Float) where
  away : length scratch < 2 * length values → final (refused_by 5) scratch ≡ mad_sigma_of values scratch
  unfolding mad_sigma_of refusal decided
  away h = rw (lt-ltb (length scratch) (2 * length values) h)

  done : (v : Float) (s : List Float) → 2 * length values ≤ length scratch → spread v s ≡ mad_sigma values scratch → final (gives v) s ≡ mad_sigma_of values scratch
  unfolding mad_sigma_of refusal decided
  done v s h e = ap final_of e ∙ rw (le-ltb (length scratch) (2 * length values) h)

pub returns-then-scratch-values : goal.returns-then-scratch-values
returns-then-scratch-values c = search (away)

pub returns : goal.returns
returns c = search (done)
