-- `symbols::Hues::remove` meets its contract: the hue counts as its remainder. Assumes nothing.
use Rattle.std.proofs.Common.{◌≡◌, ℕ, ◌+◌, ◌-◌, ◌%◌, ◌<◌, ◌∙◌, rules}
use Rattle.symbols.specs.Mask.{chroma_rotation, chroma_mask_remove}
use Rattle.symbols.proofs.Rotations.{remove_remainder}
use Rattle.symbols.proofs.Hues.remove.Goals as goal

steps : (h k q r cx cy out : ℕ) → q ≡ h % k → r ≡ chroma_rotation cx cy k → out ≡ (q + k - r) % k → 0 < k → out ≡ chroma_mask_remove h cx cy k
unfolding chroma_mask_remove
steps h k q r cx cy out e f g p = g ∙ rw (e, f) (remove_remainder k p h cx cy)

pub returns : goal.returns
returns c = search (steps, rules)
