-- Marks (crates `illum`, `measure` and `demod`): which channels of a corrected colour have one, and how many colours. Definitions only.
use Rattle.std.specs.Prelude.{◌≡◌, Bool, true, false, cond, ◌||◌, ℕ, ◌≤◌, ◌<◌, length, Float}
use Rattle.std.specs.Float.{nan, inf, binary64}
use Rattle.std.specs.Float.Ieee.{sub, div, neg, lt, of_bits}
use Rattle.limits.specs.Chroma.{chroma_on}
use Rattle.answers.specs.Answers.{gives}
use Rattle.float.specs.Select.{abs}
use Rattle.color.specs.declared.Linear.{Linear}
use Rattle.illum.specs.declared.IlluminationModel.{IlluminationModel}
use Rattle.illum.specs.Surface.{zero64, least_gain, basis_at, surface_at, is_held}
use Rattle.illum.specs.Correct.{unshaded, corrected, gain_before, held_at}
use Rattle.measure.specs.declared.Measurement.{Measurement}
use Rattle.measure.specs.Measure as measuring
use Rattle.observed.specs.Colours.{held_module, held_cell}
use Rattle.demod.specs.declared.ScoreReport.{ScoreReport}
use Rattle.demod.specs.Call as scoring

-- ---- one colour

-- a channel, by its gain and its flare at the position, what was observed, what came out of the division, and the mark. least_gain is the f64 nearest to 0.05
pub record Channel (gain flare observed value : Float) (mark : Bool) : Type 0 where
  -- the mark is set exactly where the gain's magnitude is under 0.05
  pub set : mark ≡ lt (abs gain) least_gain
  -- without it the gain itself divides, with it 0.05 of the gain's sign
  pub divides : value ≡ div binary64 (sub binary64 observed flare) (cond mark (cond (lt gain zero64) (neg least_gain) least_gain) gain)

-- of every model, position and colour
pub record Marks (m : IlluminationModel) (x y : Float) (c : Linear) : Type 0 where
  pub red : Channel (gain_before m m.gain_r x y) (surface_at m.terms m.flare_r (basis_at m.terms m.side x y)) c.r (unshaded m x y c).r.value (corrected m x y c).held_r
  pub green : Channel (gain_before m m.gain_g x y) (surface_at m.terms m.flare_g (basis_at m.terms m.side x y)) c.g (unshaded m x y c).g.value (corrected m x y c).held_g
  pub blue : Channel (gain_before m m.gain_b x y) (surface_at m.terms m.flare_b (basis_at m.terms m.side x y)) c.b (unshaded m x y c).b.value (corrected m x y c).held_b
  -- whether one of them is set depends on the position alone
  pub any : ((corrected m x y c).held_r || (corrected m x y c).held_g || (corrected m x y c).held_b) ≡ held_at m x y

-- gains by their bits: either zero, the numbers next to 0.05 and -0.05 from below in magnitude and these themselves, 1, and what is no number
pub record Gains : Type 0 where
  pub zero : is_held (of_bits binary64 0) ≡ true
  pub minus-zero : is_held (of_bits binary64 0x8000_0000_0000_0000) ≡ true
  pub under : is_held (of_bits binary64 0x3fa9_9999_9999_9999) ≡ true
  pub limit : is_held (of_bits binary64 0x3fa9_9999_9999_999a) ≡ false
  pub minus-under : is_held (of_bits binary64 0xbfa9_9999_9999_9999) ≡ true
  pub minus-limit : is_held (of_bits binary64 0xbfa9_9999_9999_999a) ≡ false
  pub one : is_held (of_bits binary64 0x3ff0_0000_0000_0000) ≡ false
  pub infinite : (s : Bool) → is_held (inf s) ≡ false
  pub no_number : is_held nan ≡ false

pub record MarksByTheGain : Type 0 where
  pub marks : (m : IlluminationModel) (x y : Float) (c : Linear) → Marks m x y c
  pub gains : Gains

-- ---- counts

-- k of n colours, p saying which have a mark: no more than there are, and 0 exactly where none has one
pub record Count (p : ℕ → Bool) (n k : ℕ) : Type 0 where
  pub most : k ≤ n
  pub zero : k ≡ 0 → (i : ℕ) → i < n → p i ≡ false
  pub none : ((i : ℕ) → i < n → p i ≡ false) → k ≡ 0

-- what an accepted measurement counts: of 8 references on all, and under 8, where none is corrected, none
pub record References (q : measuring.Request) (r : Measurement) : Type 0 where
  pub count : 8 ≤ q.n → Count (measuring.held_reference q.model q.flat) q.n r.held
  pub few : q.n < 8 → r.held ≡ 0

-- what an accepted scoring reports: of all modules, and of the cells with chroma on
pub record Reported (q : scoring.Request) (r : ScoreReport) : Type 0 where
  pub modules : Count (held_module q.model q.xs q.ys) (length q.xs) r.held_modules
  pub cells : chroma_on q.layout.hues ≡ true → Count (held_cell q.model q.layout.size q.cxs q.cys) (length q.cxs) r.held_cells
  pub off : chroma_on q.layout.hues ≡ false → r.held_cells ≡ 0

pub record HeldCounts : Type 0 where
  pub measured : (q : measuring.Request) (r : Measurement) → (measuring.measure_of q).said ≡ gives r → References q r
  pub scored : (q : scoring.Request) (r : ScoreReport) → (scoring.scored_of q).answer ≡ gives r → Reported q r
