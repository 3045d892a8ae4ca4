-- `float::round_shift` meets its contract: the shifted one is half of 2 ^ k, and the sum carries as `closest` does. Assumes nothing.
use Rattle.std.proofs.Common.{◌≡◌, ℕ, ◌+◌, ◌-◌, ◌*◌, ◌/◌, ◌%◌, ◌^◌, ◌<◌, ◌≤◌, ap, ◌∙◌, one-mul, arith, lit<, pow_pos, pow_mono, shl_exact}
use Rattle.floatlaws.specs.Whole.{closest_is}
use Rattle.float.proofs.round_shift.Goals as goal

half : (k : ℕ) → k < 63 → 1 * 2 ^ (k - 1) % 0x1_0000_0000_0000_0000 ≡ 2 ^ (k - 1)
half k h = shl_exact 1 (k - 1) 64 (lit< tt) (omega arith) ∙ one-mul (2 ^ (k - 1))

half_le : (k : ℕ) → k < 63 → 2 ^ (k - 1) ≤ 2 ^ 61
half_le k h = pow_mono {j = 61} (omega arith)

pub overflow_sub-result : goal.overflow_sub-result
overflow_sub-result c = omega (arith, half c.args.k (omega arith), pow_pos (c.args.k - 1))

pub overflow_add-result : goal.overflow_add-result
overflow_add-result c = omega (arith, half c.args.k (omega arith), half_le c.args.k (omega arith))

pub overflow_add-result-2 : goal.overflow_add-result-2
overflow_add-result-2 c = omega (arith, half c.args.k (omega arith), half_le c.args.k (omega arith))

pub returns : goal.returns
returns c =
    let n = c.args.n in
    let k = c.args.k in
    ap (λ (h : ℕ). (n + (h - 1) + n / 2 ^ k % 2) / 2 ^ k) (half k (omega arith)) ∙ closest_is n k (omega arith)
