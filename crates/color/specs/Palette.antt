-- The palette: one list of 2 + 8k numbers for k hues, in the card file's order. Also sentence 8 of document 01 for numbers. Definitions only.
use Rattle.std.specs.Prelude.{ℕ, ◌+◌, ◌*◌, ◌%◌, Bool, false, not, cond, ◌&&◌, ◌||◌, List, get_or, Float}
use Rattle.std.specs.Float.{nan}
use Rattle.std.specs.Float.Ieee.{neg, le}
use Rattle.loops.specs.Loops.{any_up}
use Rattle.answers.specs.Answers.{Said, answered, hues_only}
use Rattle.color.specs.declared.Linear.{Linear}
use Rattle.color.specs.declared.Lab.{Lab}
use Rattle.color.specs.declared.palette.Ab.{Ab}
use Rattle.color.specs.Color.{linear, lab, whole}

-- ---- where the numbers stand

-- the two levels, a and b of each hue, Lab of each colour
abbrev pub palette_len : ℕ → ℕ
palette_len hues = 2 + 8 * hues

unfoldable pub level_l : List Float → ℕ → Float
level_l palette level = get_or palette level nan

abbrev pub ab : Float → Float → Ab
ab a b = record { a = a; b = b }

unfoldable pub hue_ab : List Float → ℕ → Ab
hue_ab palette h = ab (get_or palette (2 + 2 * h) nan) (get_or palette (3 + 2 * h) nan)

unfoldable pub palette_lab : List Float → ℕ → ℕ → Lab
palette_lab palette hues i =
    let at = 2 + 2 * hues + 3 * i in
    lab (get_or palette at nan) (get_or palette (at + 1) nan) (get_or palette (at + 2) nan)

-- colour i of a list of three numbers a colour
unfoldable pub linear_at : List Float → ℕ → Linear
linear_at colours i = linear (get_or colours (3 * i) nan) (get_or colours (3 * i + 1) nan) (get_or colours (3 * i + 2) nan)

-- ---- answers

-- dark by hue, then light by hue: level l * k + h mod k
unfoldable pub index_of : Bool → ℕ → ℕ → ℕ
index_of l h hues = cond l hues 0 + h % hues

abbrev pub index : Bool → ℕ → ℕ → Said ℕ
index l h hues = answered (hues_only hues) (index_of l h hues)

abbrev pub len : ℕ → Said ℕ
len hues = answered (hues_only hues) (2 * hues)

abbrev pub is_empty : ℕ → Said Bool
is_empty hues = answered (hues_only hues) false

-- ---- sentence 8, of numbers

-- v is not finite, or its magnitude is above the limit
unfoldable pub beyond : Float → Float → Bool
beyond limit v = not (le v limit && le (neg limit) v)

-- v is not finite, or its magnitude is above 1,048,576
unfoldable pub wild : Float → Bool
wild v = not (le v (whole 1048576) && le (neg (whole 1048576)) v)

unfoldable pub wild_linear : Linear → Bool
wild_linear c = wild c.r || (wild c.g || wild c.b)

abbrev pub wild_at : List Float → ℕ → Bool
wild_at values i = wild (get_or values i nan)

-- one of the first n numbers is
abbrev pub wild_in : List Float → ℕ → Bool
wild_in values n = any_up 0 n (wild_at values)

-- one of a palette's is
abbrev pub wild_palette : List Float → ℕ → Bool
wild_palette palette hues = wild_in palette (palette_len hues)
