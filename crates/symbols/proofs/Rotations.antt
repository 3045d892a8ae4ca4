-- Rotations are sums by remainder: removing undoes applying both ways round, two rotations in turn are one by their sum, in either order. Over any hue count above 0. Assumes nothing.
use mathlib.Core.Path.{◌≡◌, sym, ap, ◌∙◌}
use Prim.Native.Nat.{ℕ, ◌+◌, ◌-◌, ◌%◌, ◌<◌, ◌≤◌}
use native.Mathlib.Nat.{mod-lt, mod-eq_of_lt, mod-add-mod, add-mod-mod, add-mod_right, add_comm, add_assoc}
use native.Mathlib.Omega.{arith}
use Rattle.symbols.specs.Mask.{chroma_rotation, chroma_mask_apply, chroma_mask_remove}

pub rotation_lt : (cx cy k : ℕ) → 0 < k → chroma_rotation cx cy k < k
unfolding chroma_rotation
rotation_lt cx cy k p = mod-lt _ p

-- adding r and then what is missing to k, or the other way round, leaves the remainder
around : (h k r : ℕ) → h < k → r ≤ k → ((h + r) % k + k - r) % k ≡ h
around h k r l p =
    let e : (h + r) % k + k - r ≡ (h + r) % k + (k - r) = omega arith in
    let f : h + r + (k - r) ≡ h + k = omega arith in
    ap (λ (x : ℕ). x % k) e ∙ mod-add-mod (h + r) k (k - r) ∙ ap (λ (x : ℕ). x % k) f ∙ add-mod_right h k ∙ mod-eq_of_lt l

back : (h k r : ℕ) → h < k → r ≤ k → ((h + k - r) % k + r) % k ≡ h
back h k r l p =
    let f : h + k - r + r ≡ h + k = omega arith in
    mod-add-mod (h + k - r) k r ∙ ap (λ (x : ℕ). x % k) f ∙ add-mod_right h k ∙ mod-eq_of_lt l

module _ (k : ℕ) (p : 0 < k) where
  rot_le : (cx cy : ℕ) → chroma_rotation cx cy k ≤ k
  rot_le cx cy = omega (arith, rotation_lt cx cy k p)

  pub apply_lt : (h cx cy : ℕ) → chroma_mask_apply h cx cy k < k
  unfolding chroma_mask_apply
  apply_lt h cx cy = mod-lt (h + chroma_rotation cx cy k) p

  pub remove_lt : (h cx cy : ℕ) → chroma_mask_remove h cx cy k < k
  unfolding chroma_mask_remove
  remove_lt h cx cy = mod-lt (h + k - chroma_rotation cx cy k) p

  -- any hue answers as its remainder does
  pub apply_remainder : (h cx cy : ℕ) → chroma_mask_apply (h % k) cx cy k ≡ chroma_mask_apply h cx cy k
  unfolding chroma_mask_apply
  apply_remainder h cx cy = mod-add-mod h k (chroma_rotation cx cy k)

  pub remove_remainder : (h cx cy : ℕ) → chroma_mask_remove (h % k) cx cy k ≡ chroma_mask_remove h cx cy k
  unfolding chroma_mask_remove
  remove_remainder h cx cy =
      let r = chroma_rotation cx cy k in
      let e : h % k + k - r ≡ h % k + (k - r) = omega (arith, rot_le cx cy) in
      let f : h + (k - r) ≡ h + k - r = omega (arith, rot_le cx cy) in
      ap (λ (x : ℕ). x % k) e ∙ mod-add-mod h k (k - r) ∙ ap (λ (x : ℕ). x % k) f

  -- removing undoes applying, both ways round
  pub remove_apply : (h cx cy : ℕ) → h < k → chroma_mask_remove (chroma_mask_apply h cx cy k) cx cy k ≡ h
  unfolding chroma_mask_apply chroma_mask_remove
  remove_apply h cx cy l = around h k (chroma_rotation cx cy k) l (rot_le cx cy)

  pub apply_remove : (h cx cy : ℕ) → h < k → chroma_mask_apply (chroma_mask_remove h cx cy k) cx cy k ≡ h
  unfolding chroma_mask_apply chroma_mask_remove
  apply_remove h cx cy l = back h k (chroma_rotation cx cy k) l (rot_le cx cy)

-- two cells' rotations in turn are one, by their sum
module _ (k h cx cy dx dy : ℕ) where
  pub apply_sum : chroma_mask_apply (chroma_mask_apply h cx cy k) dx dy k ≡ (h + (chroma_rotation cx cy k + chroma_rotation dx dy k)) % k
  unfolding chroma_mask_apply
  apply_sum =
      mod-add-mod (h + chroma_rotation cx cy k) k (chroma_rotation dx dy k) ∙
      ap (λ (x : ℕ). x % k) (add_assoc h (chroma_rotation cx cy k) (chroma_rotation dx dy k))

  -- which is that of the cell whose coordinates are the sums of theirs
  pub apply_twice : chroma_mask_apply (chroma_mask_apply h cx cy k) dx dy k ≡ chroma_mask_apply h (cx + dx) (cy + dy) k
  unfolding chroma_mask_apply chroma_rotation
  apply_twice =
      let r = (cx + cy) % k in
      let e : h + r + (dx + dy) ≡ h + (dx + dy) + r = omega arith in
      let f : h + (dx + dy) + (cx + cy) ≡ h + (cx + dx + (cy + dy)) = omega arith in
      mod-add-mod (h + r) k ((dx + dy) % k) ∙ add-mod-mod (h + r) (dx + dy) k ∙ ap (λ (x : ℕ). x % k) e ∙ add-mod-mod (h + (dx + dy)) (cx + cy) k ∙
      ap (λ (x : ℕ). x % k) f ∙ sym (add-mod-mod h (cx + dx + (cy + dy)) k)

-- in either order
pub apply_commutes : (k h cx cy dx dy : ℕ) →
    chroma_mask_apply (chroma_mask_apply h cx cy k) dx dy k ≡ chroma_mask_apply (chroma_mask_apply h dx dy k) cx cy k
apply_commutes k h cx cy dx dy =
    apply_sum k h cx cy dx dy ∙ ap (λ (x : ℕ). (h + x) % k) (add_comm (chroma_rotation cx cy k) (chroma_rotation dx dy k)) ∙
    sym (apply_sum k h dx dy cx cy)
