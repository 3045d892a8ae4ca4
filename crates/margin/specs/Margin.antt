-- The margin check, document 01's sentence clause by clause. Definitions only.
use Rattle.std.specs.Prelude.{Bool, not, ◌||◌, ◌&&◌, List, ℕ, ◌+◌, ◌*◌, eqb, Float}
use Rattle.std.specs.Float.Ieee.{neg, lt, le}
use Rattle.loops.specs.Loops.{any_up}
use Rattle.float.specs.Select.{abs}
use Rattle.limits.specs.Chroma.{chroma_on}
use Rattle.color.specs.declared.Lab.{Lab}
use Rattle.color.specs.Color.{whole}
use Rattle.color.specs.Palette.{hue_ab, palette_lab}
use Rattle.stats.specs.declared.ChannelStats.{ChannelStats}
use Rattle.stats.specs.Arithmetic.{◌⊕◌, ◌⊖◌, ◌⊗◌, ◌⊘◌}
use Rattle.stats.specs.Noise.{sigma_ab_at, luma_llr}

-- p holds at every number from `from` on and below `to`
abbrev pub fails_at : (ℕ → Bool) → ℕ → Bool
fails_at p i = not (p i)

abbrev pub every : ℕ → ℕ → (ℕ → Bool) → Bool
every from to p = not (any_up from to (fails_at p))

-- "at most 256 in magnitude"
unfoldable pub level_fits : Float → Bool
level_fits v = le (abs v) (whole 256)

-- of a palette colour's L
unfoldable pub colour_fits : List Float → ℕ → ℕ → Bool
colour_fits palette hues i = level_fits (palette_lab palette hues i).l

abbrev pub colours_fit : List Float → ℕ → Bool
colours_fit palette hues = every 0 (2 * hues) (colour_fits palette hues)

-- "l0, l1 and every palette colour's L are at most 256 in magnitude"
unfoldable pub levels_fit : ChannelStats → List Float → ℕ → Bool
levels_fit n palette hues =
    level_fits n.l0 && (level_fits n.l1 && colours_fit palette hues)

-- "all sigmas are at most 1,000"
unfoldable pub sigmas_fit : ChannelStats → Bool
sigmas_fit n =
    le n.sigma_l (whole 1000) && (le n.sigma_ab (whole 1000) && (le n.sigma_ab_dark (whole 1000) && le n.sigma_ab_light (whole 1000)))

-- the dark colour of hue h "at L + sigma_l/2 has a `luma_llr` of at least" the threshold
unfoldable pub dark_clear : Float → ChannelStats → List Float → ℕ → ℕ → Bool
dark_clear threshold n palette hues h =
    le threshold (luma_llr n ((palette_lab palette hues h).l ⊕ n.sigma_l ⊘ whole 2))

abbrev pub darks_clear : Float → ChannelStats → List Float → ℕ → Bool
darks_clear threshold n palette hues = every 0 hues (dark_clear threshold n palette hues)

-- the light colour of hue h "at L - sigma_l/2 at most" minus the threshold
unfoldable pub light_clear : Float → ChannelStats → List Float → ℕ → ℕ → Bool
light_clear threshold n palette hues h =
    le (luma_llr n ((palette_lab palette hues (hues + h)).l ⊖ n.sigma_l ⊘ whole 2)) (neg threshold)

abbrev pub lights_clear : Float → ChannelStats → List Float → ℕ → Bool
lights_clear threshold n palette hues = every 0 hues (light_clear threshold n palette hues)

-- the colour c's "a and b differ from" the point of hue h "by at most s"
unfoldable pub near : List Float → Lab → Float → ℕ → Bool
near palette c s h = le (abs (c.a ⊖ (hue_ab palette h).a)) s && le (abs (c.b ⊖ (hue_ab palette h).b)) s

-- and by "more than 4 × s in a or b"
unfoldable pub far : List Float → Lab → Float → ℕ → Bool
far palette c s h = lt (whole 4 ⊗ s) (abs (c.a ⊖ (hue_ab palette h).a)) || lt (whole 4 ⊗ s) (abs (c.b ⊖ (hue_ab palette h).b))

-- "from every other hue point": h is c's own hue, or c is far from it
unfoldable pub other_far : List Float → Lab → Float → ℕ → ℕ → Bool
other_far palette c s own h = eqb h own || far palette c s h

abbrev pub others_far : List Float → ℕ → Lab → Float → ℕ → Bool
others_far palette hues c s own = every 0 hues (other_far palette c s own)

-- palette colour i, of the hue `own`: s is `sigma_ab_at` of its L
unfoldable pub apart : ChannelStats → List Float → ℕ → ℕ → ℕ → Bool
apart n palette hues i own =
    let c = palette_lab palette hues i in
    let s = sigma_ab_at n c.l in
    near palette c s own && others_far palette hues c s own

-- both colours of hue h
unfoldable pub hue_clear : ChannelStats → List Float → ℕ → ℕ → Bool
hue_clear n palette hues h = apart n palette hues h h && apart n palette hues (hues + h) h

abbrev pub hues_clear : ChannelStats → List Float → ℕ → Bool
hues_clear n palette hues = every 0 hues (hue_clear n palette hues)

-- "with chroma on, each colour's a and b .."
unfoldable pub chroma_clear : ChannelStats → List Float → ℕ → Bool
chroma_clear n palette hues = not (chroma_on hues) || hues_clear n palette hues

-- the whole sentence, with its threshold
unfoldable pub in_margin : Float → ChannelStats → List Float → ℕ → Bool
in_margin threshold n palette hues =
    lt n.l0 n.l1
    && (levels_fit n palette hues
    && (sigmas_fit n
    && (darks_clear threshold n palette hues
    && (lights_clear threshold n palette hues
    && chroma_clear n palette hues))))
