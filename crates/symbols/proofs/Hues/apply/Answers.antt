-- `symbols::Hues::apply` meets its contract: the hue counts as its remainder. Assumes nothing.
use Rattle.std.proofs.Common.{◌≡◌, ℕ, ◌+◌, ◌%◌, ◌<◌, ◌∙◌, rules}
use Rattle.symbols.specs.Mask.{chroma_rotation, chroma_mask_apply}
use Rattle.symbols.proofs.Rotations.{apply_remainder}
use Rattle.symbols.proofs.Hues.apply.Goals as goal

steps : (h k q r cx cy out : ℕ) → q ≡ h % k → r ≡ chroma_rotation cx cy k → out ≡ (q + r) % k → 0 < k → out ≡ chroma_mask_apply h cx cy k
unfolding chroma_mask_apply
steps h k q r cx cy out e f g p = g ∙ rw (e, f) (apply_remainder k p h cx cy)

pub returns : goal.returns
returns c = search (steps, rules)
