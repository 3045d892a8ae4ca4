-- `vectors::hex` meets its contract: a loop of the definition's steps. Assumes nothing.
use Rattle.std.proofs.Common.{◌≡◌, ℕ, ◌-◌, ◌*◌, ◌/◌, ◌%◌, ◌^◌, List, set, ap, rules}
use Rattle.loops.proofs.Laws.{begin, loops}
use Rattle.vectors.specs.Answers.{glyph_of, hex_at}
use Rattle.vectors.proofs.hex.Goals as goal

step : (word k g : ℕ) (out : List ℕ) → g ≡ glyph_of (word / 2 ^ (60 - 4 * k) % 16) → set out k g ≡ hex_at word k out
unfolding hex_at
step word k g out e = ap (set out k) e

pub loop-k-init : goal.loop-k-init
loop-k-init c = (search rules, begin)

pub loop-k-preserved : goal.loop-k-preserved
loop-k-preserved c = search (step, loops, rules)

pub returns : goal.returns
returns c = search (loops, rules)
