-- The groups within a call's own list of sentences: no sentence of a group is numbered 0, so a list that is joined from groups is refused as its first group that refuses (`sentences`, joined lists); and what
-- holds where a group is passed is each of its sentences' opposite. Assumes nothing.
use mathlib.Core.Path.{◌≡◌, refl, sym, ◌∙◌}
use mathlib.Core.Bool.{true, false}
use mathlib.Core.List.{List}
use Prim.Native.Nat.{ℕ, ◌<◌}
use lib.IntN.{ℤ}
use lib.ListN.{length}
use Rattle.loops.proofs.Laws.{any_up-false}
use Rattle.sentences.specs.Sentences.{refusal, at, fresh, sound}
use Rattle.sentences.proofs.Laws.{ahead, behind, none-holds, neither}
use Rattle.places.specs.Places.{misplaced_at, bad_places}
use Rattle.limits.specs.Limits.{bad_modules, bad_cells, bad_counts}
use Rattle.limits.proofs.Laws.{side_in, cell-size_in, modules_in, counts_in}
use Rattle.layout.specs.declared.Layout.{Layout}
use Rattle.layout.specs.Groups.{shape, Shaped, module_placement, ModulesPlaced, Positions, PositionAt, placement, bad_positions, Placed}

-- ---- the layout by itself

module _ (l : Layout) where
  pub shape-sound : sound (shape l) ≡ true
  unfolding shape sound fresh
  shape-sound = refl

  pub shaped : (n : ℕ) → n ≡ refusal (shape l) → n ≡ 0 → Shaped l
  unfolding shape at
  shaped n e z =
      record { side-good = no 2; side-most = (side_in l.side (no 2)).1; hues-good = no 3; size-most = (cell-size_in l.size (no 4)).1 }
    where
      no : (m : ℕ) → at m (shape l) ≡ false
      no m = none-holds (shape l) shape-sound m (sym z ∙ e)

-- ---- modules alone

module _ (side grid : ℕ) (xs ys : List ℤ) where
  pub modules-sound : sound (module_placement side grid xs ys) ≡ true
  unfolding module_placement sound fresh
  modules-sound = refl

  pub modules-placed : (n : ℕ) → n ≡ refusal (module_placement side grid xs ys) → n ≡ 0 → ModulesPlaced side grid xs ys
  unfolding module_placement at
  modules-placed n e z =
      let c = modules_in (length xs) grid (no 6) in
      record { modules-most = c.0; grid-most = c.1; places-good = no 7 }
    where
      no : (m : ℕ) → at m (module_placement side grid xs ys) ≡ false
      no m = none-holds (module_placement side grid xs ys) modules-sound m (sym z ∙ e)

  pub position_at : (i : ℕ) → Positions side grid xs ys → i < length xs → PositionAt side grid xs ys i
  position_at i p h =
      record { side-most = p.side-most; pairs = p.pairs; in_list = h; place-good = any_up-false (misplaced_at side grid xs ys) (length xs) p.places-good i h }

-- ---- modules and cells

module _ (l : Layout) (xs ys : List ℤ) (cxs cys : List ℕ) where
  pub placement-sound : sound (placement l xs ys cxs cys) ≡ true
  unfolding placement sound fresh
  placement-sound = refl

  pub placed : (n : ℕ) → n ≡ refusal (placement l xs ys cxs cys) → n ≡ 0 → Placed l xs ys cxs cys
  unfolding placement module_placement bad_positions bad_counts at refusal
  placed n e z =
      let c = counts_in (length xs) l.grid (length cxs) (no 6) in
      let m = neither (bad_modules (length xs) l.grid) _ (no 6) in
      let p = neither (bad_places l.side l.grid xs ys) (bad_cells cxs cys) (no 7) in
      record { modules-most = c.0; grid-most = c.1; cells-most = c.2; places-good = p.0; cells-good = p.1; modules-pass = rw (m.0, p.0) }
    where
      no : (m : ℕ) → at m (placement l xs ys cxs cys) ≡ false
      no m = none-holds (placement l xs ys cxs cys) placement-sound m (sym z ∙ e)

-- a call's `refused` over groups: one refuses, or it is passed
pub ruleset layouts = (ahead, behind, shape-sound, modules-sound, placement-sound)
