-- `score`: which sentences of document 01 it can meet, in checking order, and what it leaves. Definitions only.
use Rattle.std.specs.Prelude.{Bool, false, not, cond, ◌||◌, List, [], ◌∷◌, ◌++◌, ℕ, ◌*◌, ltb, eqb, ℤ, length, Float, Result}
use Rattle.sentences.specs.Sentences.{Sentence, ◌when◌, refusal, decided}
use Rattle.layout.specs.declared.Layout.{Layout}
use Rattle.layout.specs.Groups.{shape, placement}
use Rattle.limits.specs.Chroma.{chroma_on, ring_modules, chroma_length}
use Rattle.color.specs.declared.Linear.{Linear}
use Rattle.color.specs.Palette.{wild_in}
use Rattle.answers.specs.declared.refusal.Refusal.{Refusal}
use Rattle.answers.specs.Answers.{Said, refused_by, gives, said}
use Rattle.illum.specs.declared.IlluminationModel.{IlluminationModel}
use Rattle.illum.specs.Refusals.{bad_model}
use Rattle.stats.specs.declared.ChannelStats.{ChannelStats}
use Rattle.stats.specs.Calls.{short_palette, bad_numbers, bad_sigmas}
use Rattle.observed.specs.Colours.{module_colour, cell_colour, wild_colours, held_module_count}
use Rattle.scores.specs.Score.{Sheet, sheet, write_modules, chroma_written, chroma_held}
use Rattle.demod.specs.declared.ScoreReport.{ScoreReport}

-- ---- the sentences that `score` puts together

-- 5, of m modules: positions run in pairs, three raw numbers, one score and three corrected numbers a module
unfoldable pub bad_module_lengths : ℕ → ℕ → ℕ → ℕ → ℕ → Bool
bad_module_lengths xs ys raw luma colours = not (eqb xs ys) || (ltb raw (3 * xs) || (ltb luma xs || ltb colours (3 * xs)))

-- 5, of the cells: coordinates run in pairs, three raw numbers a cell
unfoldable pub bad_cell_lengths : ℕ → ℕ → ℕ → Bool
bad_cell_lengths cxs cys raw = not (eqb cxs cys) || ltb raw (3 * cxs)

-- 5, of the chroma scores
unfoldable pub short_chroma : Layout → ℕ → ℕ → ℕ → Bool
short_chroma l chroma modules cells = ltb chroma (chroma_length l.hues cells (ring_modules modules l.grid) l.size)

-- 5
unfoldable pub bad_lengths : Layout → List ℤ → List ℤ → List Float → List ℕ → List ℕ → List Float → List Float → List Float → List Float → List Float → Bool
bad_lengths l xs ys raw cxs cys craw palette luma colours chroma =
    bad_module_lengths (length xs) (length ys) (length raw) (length luma) (length colours)
    || (bad_cell_lengths (length cxs) (length cys) (length craw)
    || (short_palette palette l.hues || short_chroma l (length chroma) (length xs) (length cxs)))

-- 8, of the colours of m modules and c cells, of the palette and of the noise record
unfoldable pub bad_inputs : List Float → ℕ → List Float → ℕ → ChannelStats → List Float → ℕ → Bool
bad_inputs raw m craw c n palette hues = wild_in raw (3 * m) || (wild_in craw (3 * c) || bad_numbers n palette hues)

-- 12, of modules and, with chroma on, of cells: "With chroma off, cells are neither corrected nor scored."
unfoldable pub bad_corrected : ℕ → (ℕ → Linear) → ℕ → (ℕ → Linear) → ℕ → Bool
bad_corrected hues modules m cells c = wild_colours modules m || cond (chroma_on hues) (wild_colours cells c) false

-- ---- the call

-- what it is handed
pub record Request : Type 0 where
  pub layout : Layout
  pub xs : List ℤ
  pub ys : List ℤ
  pub raw : List Float
  pub cxs : List ℕ
  pub cys : List ℕ
  pub craw : List Float
  pub palette : List Float
  pub model : IlluminationModel
  pub noise : ChannelStats
  pub luma : List Float
  pub colours : List Float
  pub chroma : List Float

abbrev pub request : Layout → List ℤ → List ℤ → List Float → List ℕ → List ℕ → List Float → List Float → IlluminationModel → ChannelStats → List Float → List Float → List Float → Request
request layout xs ys raw cxs cys craw palette model noise luma colours chroma =
    record { layout = layout; xs = xs; ys = ys; raw = raw; cxs = cxs; cys = cys; craw = craw; palette = palette; model = model; noise = noise; luma = luma; colours = colours; chroma = chroma }

-- the corrected colours of its modules, and of its cells
abbrev pub module_colours : Request → ℕ → Linear
module_colours q = module_colour q.model q.xs q.ys q.raw

abbrev pub cell_colours : Request → ℕ → Linear
cell_colours q = cell_colour q.model q.layout.size q.cxs q.cys q.craw

-- in checking order
unfoldable pub sentences_of : Request → List Sentence
sentences_of q =
    shape q.layout ++
    ((5 when bad_lengths q.layout q.xs q.ys q.raw q.cxs q.cys q.craw q.palette q.luma q.colours q.chroma) ∷
    (placement q.layout q.xs q.ys q.cxs q.cys ++
    ((8 when bad_inputs q.raw (length q.xs) q.craw (length q.cxs) q.noise q.palette q.layout.hues) ∷
    (9 when bad_sigmas q.noise) ∷
    (10 when bad_model q.model) ∷
    (12 when bad_corrected q.layout.hues (module_colours q) (length q.xs) (cell_colours q) (length q.cxs)) ∷
    [])))

-- what an accepted call writes: for the modules, and for chroma
abbrev pub written_modules : Request → Sheet
written_modules q = write_modules q.noise q.palette q.layout.hues (module_colours q) (length q.xs) (sheet q.luma q.colours)

abbrev pub written_chroma : Request → List Float
written_chroma q = chroma_written q.layout q.noise q.palette (module_colours q) (length q.xs) q.cxs q.cys (cell_colours q) q.chroma

-- what it counts: the modules that have a mark, a ring module that carries chroma being one of them, and the cells; two entries at one place are two
unfoldable pub report_of : Request → ScoreReport
report_of q =
    record {
      held_modules = held_module_count q.model q.xs q.ys (length q.xs);
      held_cells = chroma_held q.layout q.model q.cxs q.cys;
    }

-- what it gives back: document 01's number, its answer, and the three lent slices
pub record Final : Type 0 where
  pub number : ℕ
  pub answer : Said ScoreReport
  pub luma : List Float
  pub colours : List Float
  pub chroma : List Float

abbrev pub answering : Said ScoreReport → List Float → List Float → List Float → Final
answering a luma colours chroma = record { number = a.number; answer = a; luma = luma; colours = colours; chroma = chroma }

abbrev pub final : Result ScoreReport Refusal → List Float → List Float → List Float → Final
final r luma colours chroma = answering (said r) luma colours chroma

-- refused by sentence n: nothing changes
abbrev pub turned_away : Request → ℕ → Final
turned_away q n = answering (refused_by n) q.luma q.colours q.chroma

abbrev pub done : Request → Final
done q = answering (gives (report_of q)) (written_modules q).luma (written_modules q).colours (written_chroma q)

unfoldable pub scored_of : Request → Final
scored_of q = decided (refusal (sentences_of q)) (turned_away q) (done q)
