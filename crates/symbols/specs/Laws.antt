-- What a maker who shifts cards relies on (document 02, P14): how the rotations of cells act on hues. Definitions only.
use Rattle.std.specs.Prelude.{◌≡◌, ℕ, ◌+◌, ◌%◌, ◌<◌}
use Rattle.answers.specs.Answers.{gives, answered, hues_and_cell}
use Rattle.symbols.specs.Mask.{chroma_rotation, chroma_mask_apply, chroma_mask_remove}

-- hue h, of k, turned by r
abbrev pub rotated : ℕ → ℕ → ℕ → ℕ
rotated r h k = (h + r) % k

-- of k hues, at any cells and for any hue, save where "Hues below the count are meant"
pub record RotationsAdd (k : ℕ) : Type 0 where
  -- "applying two cells' rotations in turn equals one rotation by their sum", which is that of the cell at the sums of their coordinates
  pub sum : (h cx cy dx dy : ℕ) → chroma_mask_apply (chroma_mask_apply h cx cy k) dx dy k ≡ rotated (chroma_rotation cx cy k + chroma_rotation dx dy k) h k
  pub shift : (h cx cy dx dy : ℕ) → chroma_mask_apply (chroma_mask_apply h cx cy k) dx dy k ≡ chroma_mask_apply h (cx + dx) (cy + dy) k
  -- "order is indifferent"
  pub order : (h cx cy dx dy : ℕ) → chroma_mask_apply (chroma_mask_apply h cx cy k) dx dy k ≡ chroma_mask_apply (chroma_mask_apply h dx dy k) cx cy k
  -- "removing undoes applying both ways round"
  pub undone : (h cx cy : ℕ) → h < k → chroma_mask_remove (chroma_mask_apply h cx cy k) cx cy k ≡ h
  pub redone : (h cx cy : ℕ) → h < k → chroma_mask_apply (chroma_mask_remove h cx cy k) cx cy k ≡ h
  -- removing two cells' rotations in turn, and applying one and removing another
  pub back : (h cx cy dx dy : ℕ) → chroma_mask_remove (chroma_mask_remove h cx cy k) dx dy k ≡ chroma_mask_remove h (cx + dx) (cy + dy) k
  pub across : (h cx cy dx dy : ℕ) → chroma_mask_remove (chroma_mask_apply h cx cy k) dx dy k ≡ chroma_mask_apply (chroma_mask_remove h dx dy k) cx cy k
  -- what is given is a hue below the count, and any hue counts as its remainder
  pub rotation_below : (cx cy : ℕ) → chroma_rotation cx cy k < k
  pub apply_below : (h cx cy : ℕ) → chroma_mask_apply h cx cy k < k
  pub remove_below : (h cx cy : ℕ) → chroma_mask_remove h cx cy k < k
  pub apply_remainder : (h cx cy : ℕ) → chroma_mask_apply (h % k) cx cy k ≡ chroma_mask_apply h cx cy k
  pub remove_remainder : (h cx cy : ℕ) → chroma_mask_remove (h % k) cx cy k ≡ chroma_mask_remove h cx cy k

-- of the calls `chroma_mask_apply` and `chroma_mask_remove`, at one cell: where the first gives a hue, the second, handed that hue, gives back the first's
pub record CallsUndo (k : ℕ) : Type 0 where
  pub undone : (h cx cy v : ℕ) → h < k → gives v ≡ answered (hues_and_cell k cx cy) (chroma_mask_apply h cx cy k) → gives h ≡ answered (hues_and_cell k cx cy) (chroma_mask_remove v cx cy k)
  pub redone : (h cx cy v : ℕ) → h < k → gives v ≡ answered (hues_and_cell k cx cy) (chroma_mask_remove h cx cy k) → gives h ≡ answered (hues_and_cell k cx cy) (chroma_mask_apply v cx cy k)
