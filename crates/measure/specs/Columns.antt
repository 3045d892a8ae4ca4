-- How the lists stand in the scratch, four columns of n: room for one list, the corrected lightness, the chroma error and the mark of each
-- reference. Definitions only; `Measure` says what is right.
use Rattle.std.specs.Prelude.{◌≡◌, Bool, true, false, cond, ◌&&◌, List, map, ℕ, ◌+◌, ◌*◌, ◌≤◌, ◌<◌, ltb, length, get_or, set, Float, Option, None, Some}
use Rattle.std.specs.Float.{nan, binary32}
use Rattle.std.specs.Float.Ieee.{add, sub, mul, of_bits, le, eq, is_nan}
use Rattle.float.specs.Root.{sqrt_of}
use Rattle.color.specs.declared.Linear.{Linear}
use Rattle.color.specs.declared.Lab.{Lab}
use Rattle.color.specs.Color.{linear_to_lab}
use Rattle.order.specs.Median.{median_of}
use Rattle.order.specs.Deviation.{deviation}
use Rattle.order.specs.Law.{Numbers}
use Rattle.illum.specs.declared.IlluminationModel.{IlluminationModel}
use Rattle.measure.specs.declared.Known.{Known}
use Rattle.measure.specs.declared.Form.{Form}
use Rattle.measure.specs.declared.Form.TheVariants.{Plain, Less}
use Rattle.stats.specs.declared.ChannelStats.{ChannelStats}
use Rattle.measure.specs.Measure.{figures_of, record_of, less, spread_about, is_light, at_level, colourful, corrected_at, corrected_lab, nominal_lab, lightness_at, picked}

-- ---- marks: which lists a reference counts for. From 1 to 2 dark lightness, 5 to 6 light lightness, 2 to 5 chroma, 2 to 3 dark chroma, 4 to 5 light chroma.

-- the marks are the code's 0.0 to 6.0
abbrev pub m0 : Float
m0 = of_bits binary32 0

abbrev pub m1 : Float
m1 = of_bits binary32 0x3f80_0000

abbrev pub m2 : Float
m2 = of_bits binary32 0x4000_0000

abbrev pub m3 : Float
m3 = of_bits binary32 0x4040_0000

abbrev pub m4 : Float
m4 = of_bits binary32 0x4080_0000

abbrev pub m5 : Float
m5 = of_bits binary32 0x40a0_0000

abbrev pub m6 : Float
m6 = of_bits binary32 0x40c0_0000

unfoldable pub mark_of : Bool → Bool → Bool → Float
mark_of true false false = m1
mark_of true false true = m2
mark_of false false true = m3
mark_of false true true = m4
mark_of true true true = m5
mark_of true true false = m6
mark_of false true false = m0
mark_of false false false = m0

unfoldable pub mark_for : List Float → Lab → Float
mark_for palette nominal = mark_of (at_level palette nominal) (is_light palette nominal) (colourful nominal)

abbrev pub mark_at : List Float → List Float → ℕ → Float
mark_at palette flat i = mark_for palette (nominal_lab flat i)

-- a mark from lo to hi
unfoldable pub marked : Float → Float → Float → Bool
marked lo hi mark = le lo mark && le mark hi

-- ---- what is known of a nominal colour, and the slots of six numbers in which it is remembered

unfoldable pub known_of : List Float → Linear → Known
known_of palette c = let nominal = linear_to_lab c in record { a = nominal.a; b = nominal.b; mark = mark_for palette nominal }

-- one float, and no NaN
pub record Same (a b : Float) : Type 0 where
  pub one : a ≡ b
  pub real : is_nan a ≡ false

-- the colour in slot j, and what is known of it
unfoldable pub colour_in : ℕ → List Float → Linear
colour_in j memo = record { r = get_or memo (6 * j) nan; g = get_or memo (6 * j + 1) nan; b = get_or memo (6 * j + 2) nan }

unfoldable pub known_in : ℕ → List Float → Known
known_in j memo = record { a = get_or memo (6 * j + 3) nan; b = get_or memo (6 * j + 4) nan; mark = get_or memo (6 * j + 5) nan }

-- slot j is in use, by colour c
pub record Held (j : ℕ) (c : Linear) (memo : List Float) : Type 0 where
  pub used : is_nan (get_or memo (6 * j) nan) ≡ false
  pub colour : colour_in j memo ≡ c

-- every slot in use holds a colour with what is known of it
pub record Remembered (palette memo : List Float) : Type 0 where
  pub long : length memo ≡ 1536
  pub slot : (j : ℕ) → j < 256 → is_nan (get_or memo (6 * j) nan) ≡ false → known_in j memo ≡ known_of palette (colour_in j memo)

-- a colour, and what is known of it, written into slot j
abbrev pub kept : ℕ → Linear → Known → List Float → List Float
kept j c k memo =
    let colour = set (set (set memo (6 * j) c.r) (6 * j + 1) c.g) (6 * j + 2) c.b in
    set (set (set colour (6 * j + 3) k.a) (6 * j + 4) k.b) (6 * j + 5) k.mark

-- ---- what is written of reference i of n

-- a number of a reference with this mark: 0 where the mark is 0, since it counts for no list
unfoldable pub counted : Float → Float → Float
counted mark v = cond (eq mark m0) m0 v

-- the square of the chroma error: the distance in the plane of a and b is its root
unfoldable pub square_of : Lab → Lab → Float
square_of c d =
    let da = sub binary32 c.a d.a in
    let db = sub binary32 c.b d.b in
    add binary32 (mul binary32 da da) (mul binary32 db db)

unfoldable pub square_at : IlluminationModel → List Float → ℕ → Float
square_at m flat i = square_of (corrected_lab m flat i) (nominal_lab flat i)

-- three numbers, each written into its column
abbrev pub placed : ℕ → ℕ → Float → Float → Float → List Float → List Float
placed n i a b c s = set (set (set s (n + i) a) (2 * n + i) b) (3 * n + i) c

-- those of a reference whose corrected Lab is c
unfoldable pub noted : Lab → List Float → List Float → ℕ → ℕ → List Float → List Float
noted c palette flat n i s =
    let mark = mark_at palette flat i in
    placed n i (counted mark c.l) (counted mark (square_of c (nominal_lab flat i))) mark s

unfoldable pub noted_at : IlluminationModel → List Float → List Float → ℕ → ℕ → List Float → List Float
noted_at m palette flat n i s = noted (corrected_lab m flat i) palette flat n i s

-- the columns of k references are written; e of each is in the second
pub record Noted (m : IlluminationModel) (palette flat : List Float) (n k : ℕ) (e : ℕ → Float) (s : List Float) : Type 0 where
  pub l : (j : ℕ) → j < k → get_or s (n + j) nan ≡ counted (mark_at palette flat j) (lightness_at m flat j)
  pub second : (j : ℕ) → j < k → get_or s (2 * n + j) nan ≡ counted (mark_at palette flat j) (e j)
  pub mark : (j : ℕ) → j < k → get_or s (3 * n + j) nan ≡ mark_at palette flat j

-- t is s with the roots of the second column's first k
pub record Rooted (n k : ℕ) (s t : List Float) : Type 0 where
  pub root : (j : ℕ) → j < k → get_or t (2 * n + j) nan ≡ sqrt_of (get_or s (2 * n + j) nan)
  pub before : (j : ℕ) → j < 2 * n → get_or t j nan ≡ get_or s j nan
  pub after : (j : ℕ) → 2 * n + k ≤ j → get_or t j nan ≡ get_or s j nan

-- ---- the corrected colours, which stand in the columns until these are written

-- the colour whose components stand at reference i
unfoldable pub colour_at : ℕ → ℕ → List Float → Linear
colour_at n i s = record { r = get_or s (n + i) nan; g = get_or s (2 * n + i) nan; b = get_or s (3 * n + i) nan }

-- the columns hold the corrected colours of the references from a on and before b
pub record Corrected (m : IlluminationModel) (flat : List Float) (n a b : ℕ) (s : List Float) : Type 0 where
  pub colour : (j : ℕ) → a ≤ j → j < b → colour_at n j s ≡ corrected_at m flat j

-- where t holds the corrected colours of all n, by whichever model, s has those of k references replaced by their numbers
pub record Converted (palette flat : List Float) (n k : ℕ) (t s : List Float) : Type 0 where
  pub done : (m : IlluminationModel) → Corrected m flat n 0 n t → Noted m palette flat n k (square_at m flat) s
  pub left : (m : IlluminationModel) → Corrected m flat n 0 n t → Corrected m flat n k n s

-- ---- the list of a column's elements whose mark is from lo to hi. t has the three columns after the first, and `column` is where one starts.

abbrev pub picked_in : ℕ → ℕ → Float → Float → List Float → List Float
picked_in n column lo hi t = picked n 0 (λ i. marked lo hi (get_or t (2 * n + i) nan)) (λ i. get_or t (column + i) nan)

abbrev pub level_within : Bool → ℕ → List Float → List Float
level_within true n t = picked_in n 0 m5 m6 t
level_within false n t = picked_in n 0 m1 m2 t

-- the record of the columns' lists
unfoldable pub figures_in : ℕ → Float → Float → List Float → ChannelStats
figures_in n l0 l1 t =
    figures_of n l0 l1 (level_within false n t) (level_within true n t) (picked_in n n m2 m5 t) (picked_in n n m2 m3 t) (picked_in n n m4 m5 t)

unfoldable pub record_in : List Float → ℕ → List Float → ChannelStats
record_in palette n t =
    record_of palette n (level_within false n t) (level_within true n t) (picked_in n n m2 m5 t) (picked_in n n m2 m3 t) (picked_in n n m4 m5 t)

-- the lightnesses about their level's median, the dark ones first
abbrev pub spread_in : ℕ → Float → Float → List Float → List Float
spread_in n l0 l1 t = spread_about l0 l1 (level_within false n t) (level_within true n t)

-- no distance from the median is a NaN: then the median of the distances does not depend on their order
abbrev pub RealDistances : List Float → Type 0
RealDistances xs = Numbers (map (deviation (median_of xs)) xs)

-- so of each list whose deviation is in the record
pub record RealSpreads (n : ℕ) (l0 l1 : Float) (t : List Float) : Type 0 where
  pub luma : RealDistances (spread_in n l0 l1 t)
  pub chroma : RealDistances (picked_in n n m2 m5 t)
  pub dark : RealDistances (picked_in n n m2 m3 t)
  pub light : RealDistances (picked_in n n m4 m5 t)

-- the median of a level's list; none of fewer than 3
abbrev pub levelled : List Float → Option Float
levelled xs = cond (ltb (length xs) 3) None (Some (median_of xs))

-- ---- the form in which an element is listed

unfoldable pub formed : Form → Float → Float
formed Plain v = v
formed (Less l) v = less l v

-- ---- one element listed, k being listed before

pub record Listed : Type 0 where
  pub s : List Float
  pub k : ℕ

abbrev pub listed : List Float → ℕ → Listed
listed s k = record { s = s; k = k }

-- that of reference i in the columns t is written at place k of the room s, which has n, and counted where its mark is from lo to hi
unfoldable pub list_entry : ℕ → ℕ → Float → Float → Form → List Float → ℕ → ℕ → List Float → Listed
list_entry n column lo hi form t i k s =
    cond (ltb k n)
    (listed (set s k (formed form (get_or t (column + i) nan))) (cond (marked lo hi (get_or t (2 * n + i) nan)) (k + 1) k))
    (listed s k)
