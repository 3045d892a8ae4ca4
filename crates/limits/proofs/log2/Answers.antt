-- `limits::log2` meets its contract: the library's logarithm of n is the only k for which n is at least 2 ^ k and below twice that, and there is none of 0. Assumes nothing.
use Rattle.std.specs.Prelude.{◌≡◌, ℕ, ◌*◌, ◌^◌, ◌≤◌, ◌<◌, Option, None, Some, IfNone, IfSome}
use Rattle.std.specs.Option.{unwrap_or}
use Rattle.std.proofs.Common.{sym, ap, ◌∙◌, arith}
use Rattle.limits.specs.Chroma.{log2}
use Rattle.limits.proofs.Laws.{log2-small, log2_between}
use Rattle.limits.proofs.log2.Goals as goal

unwrapped : (n : ℕ) (o : Option ℕ) → IfNone o (n ≡ 0) → IfSome o (λ k. 2 ^ k ≤ n) → IfSome o (λ k. n < 2 * 2 ^ k) → unwrap_or o 0 ≡ log2 n
unwrapped n None z h g = sym (log2-small n (omega arith))
unwrapped n (Some k) z h g = sym (log2_between k n h g)

pub returns : goal.returns
returns c = c.unwrap_or.ensures ∙ unwrapped _ _ c.checked_ilog2.ensures.none c.checked_ilog2.ensures.power_le c.checked_ilog2.ensures.next_power_gt
