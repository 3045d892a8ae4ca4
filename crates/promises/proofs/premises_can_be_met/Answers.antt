-- `promises::premises_can_be_met` meets its contract: the cards are those of `guarantee`, which are read as they were drawn, and antt computes what they are at the edge of. Assumes nothing.
use mathlib.Core.Path.{◌≡◌, refl, sym, ◌∙◌}
use mathlib.Core.Bool.{true, false}
use mathlib.Core.List.{List, [], ◌∷◌}
use Prim.Native.Nat.{ℕ, ◌<◌}
use native.Mathlib.Omega.{arith}
use lib.Ieee.{Float}
use Rattle.color.specs.Color.{whole}
use Rattle.guarantee.specs.Card.{Setting, Card, bits_drawn, carries_chroma}
use Rattle.guarantee.specs.Guarantee.{Singles, InMargin, Readable}
use Rattle.guarantee.proofs.Guarantee.{read_as_drawn, read_as_drawn_at_nine}
use Rattle.guarantee.proofs.Satisfiable as cards
use Rattle.guarantee.proofs.Satisfiable.{computed, first_one, first_two, first_three, edge, edge-singles, edge-margin}
use Rattle.promises.specs.Card.{Meets, MetBy, half_off, OffHuePoint, AtMargin, AtCorners, AtEdges, MetAtNine}
use Rattle.promises.proofs.premises_can_be_met.Goals as goal

-- a card that meets the premises is read as it was drawn
abbrev meets : (s : Setting) (c : Card) {l : List ℕ} → Singles s → InMargin s → Readable s c → bits_drawn s c ≡ l → Meets s l
meets s c S M R e = record { card = c; singles = S; margin = M; readable = R; drawn = e; read = (read_as_drawn s c S M R).same ∙ e }

plain-met : MetBy false (1 ∷ 1 ∷ [])
unfolding computed
plain-met =
    record { setting = cards.plain; on = refl; meets = meets cards.plain cards.plain_card cards.plain-singles cards.plain-margin cards.plain-readable cards.plain-drawn }

coloured-met : MetBy true (1 ∷ 0 ∷ 1 ∷ 0 ∷ [])
unfolding computed
coloured-met =
    record {
      setting = cards.coloured;
      on = refl;
      meets = meets cards.coloured cards.coloured_card cards.coloured-singles cards.coloured-margin cards.coloured-readable cards.coloured-drawn;
    }

lone-met : MetBy false (0 ∷ 0 ∷ [])
unfolding computed
lone-met =
    record { setting = cards.lone; on = refl; meets = meets cards.lone cards.lone_card cards.lone-singles cards.lone-margin cards.lone-readable cards.lone-drawn }

-- ---- the cards at the edges

-- two floats that both compute to v
both : {x y : Float} (v : Float) → x ≡ v → y ≡ v → x ≡ y
both v e f = e ∙ sym f

margin-met : (size h : ℕ) → h < 2 → AtMargin (edge size) h
unfolding computed
margin-met size =
    first_two (AtMargin (edge size))
    (record {
      dark = refl;
      light = refl;
      off =
          first_two (OffHuePoint (edge size) 0)
          (record { a = both (whole 6) refl refl; b = both (whole 6) refl refl })
          (record { a = both (whole 18) refl refl; b = both (whole 18) refl refl });
    })
    (record {
      dark = refl;
      light = refl;
      off =
          first_two (OffHuePoint (edge size) 1)
          (record { a = both (whole 6) refl refl; b = both (whole 6) refl refl })
          (record { a = both (whole 18) refl refl; b = both (whole 18) refl refl });
    })

wide_card_corners : AtCorners (edge 2) cards.wide_card
unfolding computed half_off
wide_card_corners =
    record {
      level = 0;
      modules_at = first_three _ (record { l = refl; a = refl; b = refl }) (record { l = refl; a = refl; b = refl }) (record { l = refl; a = refl; b = refl });
      cells_at = first_one _ (record { l = refl; a = refl; b = refl });
    }

wide_other_corners : AtCorners (edge 2) cards.wide_other
unfolding computed half_off
wide_other_corners =
    record {
      level = 1;
      modules_at = first_three _ (record { l = refl; a = refl; b = refl }) (record { l = refl; a = refl; b = refl }) (record { l = refl; a = refl; b = refl });
      cells_at = first_one _ (record { l = refl; a = refl; b = refl });
    }

narrow_card_corners : AtCorners (edge 1) cards.narrow_card
unfolding computed half_off
narrow_card_corners =
    record {
      level = 0;
      modules_at = first_three _ (record { l = refl; a = refl; b = refl }) (record { l = refl; a = refl; b = refl }) (record { l = refl; a = refl; b = refl });
      cells_at = first_one _ (record { l = refl; a = refl; b = refl });
    }

narrow_other_corners : AtCorners (edge 1) cards.narrow_other
unfolding computed half_off
narrow_other_corners =
    record {
      level = 1;
      modules_at = first_three _ (record { l = refl; a = refl; b = refl }) (record { l = refl; a = refl; b = refl }) (record { l = refl; a = refl; b = refl });
      cells_at = first_one _ (record { l = refl; a = refl; b = refl });
    }

wide : AtEdges 2 (1 ∷ 0 ∷ 1 ∷ 0 ∷ []) (0 ∷ 1 ∷ 0 ∷ 0 ∷ [])
wide =
    record {
      setting = edge 2;
      sized = refl;
      margin-met = margin-met 2;
      one = meets (edge 2) cards.wide_card (edge-singles 2) (edge-margin 2) cards.wide-readable cards.wide-drawn;
      other = meets (edge 2) cards.wide_other (edge-singles 2) (edge-margin 2) cards.wide-other-readable cards.wide-other-drawn;
      one_corners = wide_card_corners;
      other_corners = wide_other_corners;
    }

narrow : AtEdges 1 (1 ∷ 0 ∷ 1 ∷ 0 ∷ 1 ∷ []) (0 ∷ 1 ∷ 0 ∷ 0 ∷ 1 ∷ [])
narrow =
    record {
      setting = edge 1;
      sized = refl;
      margin-met = margin-met 1;
      one = meets (edge 1) cards.narrow_card (edge-singles 1) (edge-margin 1) cards.narrow-readable cards.narrow-drawn;
      other = meets (edge 1) cards.narrow_other (edge-singles 1) (edge-margin 1) cards.narrow-other-readable cards.narrow-other-drawn;
      one_corners = narrow_card_corners;
      other_corners = narrow_other_corners;
    }

wide-cell : Meets (edge 2) (1 ∷ 0 ∷ 1 ∷ 1 ∷ [])
wide-cell = meets (edge 2) cards.wide_cell (edge-singles 2) (edge-margin 2) cards.wide-cell-readable cards.wide-cell-drawn

narrow-hue : Meets (edge 1) (1 ∷ 0 ∷ 1 ∷ 0 ∷ 0 ∷ [])
narrow-hue = meets (edge 1) cards.narrow_ring (edge-singles 1) (edge-margin 1) cards.narrow-ring-readable cards.narrow-ring-drawn

-- ---- at 9

nine-met : MetAtNine (1 ∷ 0 ∷ 1 ∷ 0 ∷ 1 ∷ [])
unfolding computed
nine-met =
    record {
      setting = cards.nine;
      card = cards.narrow_card;
      singles = cards.nine-singles;
      margin = cards.nine-margin;
      outside = cards.nine-outside;
      dark = first_two _ refl refl;
      light = first_two _ refl refl;
      readable = cards.nine-readable;
      no_nan = cards.nine_no_nan;
      drawn = cards.nine-drawn;
      read = (read_as_drawn_at_nine cards.nine cards.narrow_card cards.nine-singles cards.nine-margin cards.nine-readable cards.nine_no_nan).same ∙ cards.nine-drawn;
    }

pub returns : goal.returns
unfolding computed plain-met coloured-met lone-met wide narrow nine-met
returns c =
    record {
      plain = plain-met;
      coloured = coloured-met;
      has-cell = omega arith;
      has-ring = refl;
      lone = lone-met;
      lone-cell = omega arith;
      lone-ring = omega arith;
      wide = wide;
      wide-ring = omega arith;
      wide-free = first_three (λ i. carries_chroma (edge 2) i ≡ false) refl refl refl;
      narrow = narrow;
      narrow-ring = refl;
      wide-cell = wide-cell;
      narrow-hue = narrow-hue;
      nine = nine-met;
      nine-ring = refl;
    }
