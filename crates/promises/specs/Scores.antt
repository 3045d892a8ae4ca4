-- Scoring (crate `demod`): what an accepted call leaves, number by number, and in what range; what a refused one leaves. Definitions only.
use Rattle.std.specs.Prelude.{◌≡◌, true, false, ℕ, ◌+◌, ◌-◌, ◌*◌, ◌≤◌, ◌<◌, length, get_or, Float}
use Rattle.std.specs.Float.{nan, binary32}
use Rattle.std.specs.Float.Ieee.{neg}
use Rattle.floatlaws.specs.Interval.{In}
use Rattle.sentences.specs.Sentences.{refusal, at, before}
use Rattle.limits.specs.Chroma.{chroma_on, symbol_bits, ring_modules, chroma_length}
use Rattle.color.specs.declared.Linear.{Linear}
use Rattle.color.specs.Color.{whole, linear_to_lab}
use Rattle.color.specs.Palette.{linear_at, wild_linear}
use Rattle.modulate.specs.declared.Cell.{Cell}
use Rattle.modulate.specs.declared.Cell.TheVariants.{Unmasked, At}
use Rattle.stats.specs.Noise.{reliability}
use Rattle.scores.specs.Score.{bit_scores, chroma_score, luma_score}
use Rattle.answers.specs.Answers.{gives}
use Rattle.demod.specs.Call.{Request, module_colours, cell_colours, sentences_of, report_of, turned_away, scored_of}
use Rattle.promises.specs.Noise.{HeldAsSingles}

-- the luma scores are within ±20, and the corrected colours that are handed on finite and at most 1,048,576 in magnitude
pub record Ranges (q : Request) : Type 0 where
  pub luma : HeldAsSingles q.noise → (i : ℕ) → i < length q.xs → In binary32 (neg (whole 20)) (whole 20) (get_or (scored_of q).luma i nan)
  pub colours : (i : ℕ) → i < length q.xs → wild_linear (linear_at (scored_of q).colours i) ≡ false

abbrev pub ScoresInRange : Type 0
ScoresInRange = (q : Request) → (scored_of q).number ≡ 0 → Ranges q

-- the score of bit b of a colour, in a cell or a ring module
abbrev pub bit_score : Request → Cell → Linear → ℕ → Float
bit_score q cell c b =
    chroma_score (get_or (bit_scores q.noise q.palette q.layout.hues cell (linear_to_lab c)) b nan) (reliability q.noise (linear_to_lab c) q.palette q.layout.hues)

-- the place of bit b of entry e
abbrev pub place : Request → ℕ → ℕ → ℕ
place q e b = e * symbol_bits q.layout.hues + b

-- accepted: no sentence holds, each number that belongs to a module, a cell or a ring module is written, and what comes after them stays
pub record Scored (q : Request) : Type 0 where
  pub no_sentence : refusal (sentences_of q) ≡ 0
  pub reports : (scored_of q).answer ≡ gives (report_of q)
  pub luma-long : length (scored_of q).luma ≡ length q.luma
  pub luma : (i : ℕ) → i < length q.xs → get_or (scored_of q).luma i nan ≡ luma_score q.noise q.palette q.layout.hues (module_colours q i)
  pub luma-kept : (i : ℕ) → length q.xs ≤ i → get_or (scored_of q).luma i nan ≡ get_or q.luma i nan
  pub colours-long : length (scored_of q).colours ≡ length q.colours
  pub colours : (i : ℕ) → i < length q.xs → linear_at (scored_of q).colours i ≡ module_colours q i
  pub colours-kept : (i : ℕ) → 3 * length q.xs ≤ i → get_or (scored_of q).colours i nan ≡ get_or q.colours i nan
  pub chroma-long : length (scored_of q).chroma ≡ length q.chroma
  pub cell : chroma_on q.layout.hues ≡ true → (i b : ℕ) → i < length q.cxs → b < symbol_bits q.layout.hues →
      get_or (scored_of q).chroma (place q i b) nan ≡ bit_score q (At (get_or q.cxs i 0) (get_or q.cys i 0)) (cell_colours q i) b
  pub ring : chroma_on q.layout.hues ≡ true → q.layout.size ≡ 1 → (i b : ℕ) → q.layout.grid ≤ i → i < length q.xs → b < symbol_bits q.layout.hues →
      get_or (scored_of q).chroma (place q (length q.cxs + (i - q.layout.grid)) b) nan ≡ bit_score q Unmasked (module_colours q i) b
  pub chroma-kept : chroma_on q.layout.hues ≡ true → (j : ℕ) → chroma_length q.layout.hues (length q.cxs) (ring_modules (length q.xs) q.layout.grid) q.layout.size ≤ j →
      get_or (scored_of q).chroma j nan ≡ get_or q.chroma j nan
  pub chroma-off : chroma_on q.layout.hues ≡ false → (scored_of q).chroma ≡ q.chroma

-- refused by n: nothing is written, sentence n holds, and none before it
pub record TurnedAway (q : Request) (n : ℕ) : Type 0 where
  pub left : scored_of q ≡ turned_away q n
  pub holds : at n (sentences_of q) ≡ true
  pub earlier : (m : ℕ) → at m (before n (sentences_of q)) ≡ false

pub record ScoringAnswers : Type 0 where
  pub done : (q : Request) → (scored_of q).number ≡ 0 → Scored q
  pub refused : (q : Request) (n : ℕ) → (n ≡ 0 → ⊥) → (scored_of q).number ≡ n → TurnedAway q n
