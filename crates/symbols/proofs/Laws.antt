-- Rotations add up: applying a rotation adds it by remainder, so sums and their order follow from those of whole numbers. Below the count removing is the inverse of applying at the same cell, so what is
-- removed is found by applying it again: two removals, and a removal beside an application, are decided by what undoes them. Over any hue count above 0. Assumes nothing.
use mathlib.Core.Path.{◌≡◌, sym, ap, ◌∙◌}
use Prim.Native.Nat.{ℕ, ◌+◌, ◌%◌, ◌<◌}
use native.Mathlib.Nat.{mod-lt}
use Rattle.answers.specs.Answers.{gives, answered, hues_and_cell}
use Rattle.answers.proofs.Answers.{says-given, given-none-holds, given_is}
use Rattle.symbols.specs.Mask.{chroma_mask_apply, chroma_mask_remove}
use Rattle.symbols.specs.Laws.{RotationsAdd, CallsUndo}
use Rattle.symbols.proofs.Rotations.{rotation_lt, apply_lt, remove_lt, apply_remainder, remove_remainder, remove_apply, apply_remove, apply_sum, apply_twice, apply_commutes}

module _ (k : ℕ) (p : 0 < k) where
  -- applying what was removed gives the hue's remainder
  applied_again : (h cx cy : ℕ) → chroma_mask_apply (chroma_mask_remove h cx cy k) cx cy k ≡ h % k
  applied_again h cx cy = ap (λ (v : ℕ). chroma_mask_apply v cx cy k) (sym (remove_remainder k p h cx cy)) ∙ apply_remove k p (h % k) cx cy (mod-lt h p)

  -- two hues below the count that one cell draws alike are one
  same_drawn : (u v cx cy : ℕ) → u < k → v < k → chroma_mask_apply u cx cy k ≡ chroma_mask_apply v cx cy k → u ≡ v
  same_drawn u v cx cy hu hv e = sym (remove_apply k p u cx cy hu) ∙ ap (λ (x : ℕ). chroma_mask_remove x cx cy k) e ∙ remove_apply k p v cx cy hv

  back : (h cx cy dx dy : ℕ) → chroma_mask_remove (chroma_mask_remove h cx cy k) dx dy k ≡ chroma_mask_remove h (cx + dx) (cy + dy) k
  back h cx cy dx dy =
      let one = chroma_mask_remove h cx cy k in
      let two = chroma_mask_remove one dx dy k in
      let drawn : chroma_mask_apply two (cx + dx) (cy + dy) k ≡ h % k =
      sym (apply_twice k two cx cy dx dy) ∙ apply_commutes k two cx cy dx dy ∙
      ap (λ (v : ℕ). chroma_mask_apply v cx cy k) (apply_remove k p one dx dy (remove_lt k p h cx cy)) ∙ applied_again h cx cy in
      same_drawn two (chroma_mask_remove h (cx + dx) (cy + dy) k) (cx + dx) (cy + dy) (remove_lt k p one dx dy) (remove_lt k p h (cx + dx) (cy + dy))
      (drawn ∙ sym (applied_again h (cx + dx) (cy + dy)))

  across : (h cx cy dx dy : ℕ) → chroma_mask_remove (chroma_mask_apply h cx cy k) dx dy k ≡ chroma_mask_apply (chroma_mask_remove h dx dy k) cx cy k
  across h cx cy dx dy =
      let applied = chroma_mask_apply h cx cy k in
      let removed = chroma_mask_remove h dx dy k in
      same_drawn (chroma_mask_remove applied dx dy k) (chroma_mask_apply removed cx cy k) dx dy (remove_lt k p applied dx dy) (apply_lt k p removed cx cy)
      (apply_remove k p applied dx dy (apply_lt k p h cx cy) ∙ sym (apply_remainder k p h cx cy) ∙
      ap (λ (v : ℕ). chroma_mask_apply v cx cy k) (sym (applied_again h dx dy)) ∙ apply_commutes k removed dx dy cx cy)

  pub rotations_add : RotationsAdd k
  rotations_add =
      record {
        sum = apply_sum k;
        shift = apply_twice k;
        order = apply_commutes k;
        undone = remove_apply k p;
        redone = apply_remove k p;
        back = back;
        across = across;
        rotation_below = λ cx cy. rotation_lt cx cy k p;
        apply_below = apply_lt k p;
        remove_below = remove_lt k p;
        apply_remainder = apply_remainder k p;
        remove_remainder = remove_remainder k p;
      }

  -- a call at the same cell meets the same sentences, and none of them held
  again : (cx cy v x y : ℕ) → gives v ≡ answered (hues_and_cell k cx cy) x → (h : ℕ) → (v ≡ x → y ≡ h) → gives h ≡ answered (hues_and_cell k cx cy) y
  again cx cy v x y e h f =
      says-given (hues_and_cell k cx cy) y h (sym (given-none-holds (hues_and_cell k cx cy) x v e)) (sym (f (given_is (hues_and_cell k cx cy) x v e)))

  pub calls_undo : CallsUndo k
  calls_undo =
      record {
        undone = λ h cx cy v l e. again cx cy v (chroma_mask_apply h cx cy k) (chroma_mask_remove v cx cy k) e h
            (λ q. ap (λ (x : ℕ). chroma_mask_remove x cx cy k) q ∙ remove_apply k p h cx cy l);
        redone = λ h cx cy v l e. again cx cy v (chroma_mask_remove h cx cy k) (chroma_mask_apply v cx cy k) e h
            (λ q. ap (λ (x : ℕ). chroma_mask_apply x cx cy k) q ∙ apply_remove k p h cx cy l);
      }
