-- The call: the sentences that it can meet, in checking order, and what it gives back. Definitions only.
use Rattle.std.specs.Prelude.{Bool, not, ◌||◌, List, [], ◌∷◌, ◌++◌, ℕ, ltb, eqb, ℤ, length, Float}
use Rattle.sentences.specs.Sentences.{Sentence, ◌when◌}
use Rattle.limits.specs.Limits.{bad_side}
use Rattle.layout.specs.Groups.{module_placement}
use Rattle.answers.specs.Answers.{Ended, written_or}
use Rattle.illum.specs.Refusals.{bad_terms}
use Rattle.page.specs.declared.Sheet.{Sheet}
use Rattle.page.specs.Lines.{page_length, Modules, modules, page_text, overlaid}

-- what the call takes
pub record Request : Type 0 where
  pub side : ℕ
  pub terms : ℕ
  pub kept : ℕ
  pub rejected : ℕ
  pub held : ℕ
  pub xs : List ℤ
  pub ys : List ℤ
  pub grid : ℕ
  pub luma : List Float
  pub page : List ℕ

abbrev pub request : ℕ → ℕ → ℕ → ℕ → ℕ → List ℤ → List ℤ → ℕ → List Float → List ℕ → Request
request side terms kept rejected held xs ys grid luma page =
    record { side = side; terms = terms; kept = kept; rejected = rejected; held = held; xs = xs; ys = ys; grid = grid; luma = luma; page = page }

-- the same of a sheet and of the slice that it is laid out on
abbrev pub request_on : Sheet → List ℕ → Request
request_on s page = request s.side s.terms s.kept s.rejected s.held s.xs.now s.ys.now s.grid s.luma.now page

abbrev pub numbers_on : Sheet → List ℕ
numbers_on s = s.side ∷ s.terms ∷ s.kept ∷ s.rejected ∷ s.held ∷ []

-- ---- the sentences

-- 5, by the lengths: x and y run in pairs, one score a module, and side + 1 lines of page
unfoldable pub short_slices : ℕ → ℕ → ℕ → ℕ → ℕ → Bool
short_slices side xs ys luma page = not (eqb xs ys) || (ltb luma xs || ltb page (page_length side))

-- 6, of the counts that are shown: "6 where either count is above 16,384", of the references kept and rejected, and "6 where above 1,048,576", of the modules
-- that have a mark
unfoldable pub bad_tally : ℕ → ℕ → ℕ → Bool
bad_tally kept rejected held = ltb 16384 kept || (ltb 16384 rejected || ltb 1048576 held)

-- 14: "where the side is above 40"
abbrev pub widest : ℕ
widest = 40

abbrev pub wide_side : ℕ → Bool
wide_side side = ltb widest side

-- the call's own sentences, before those on the positions and behind them
abbrev pub ahead_of : Request → List Sentence
ahead_of q =
    (2 when bad_side q.side) ∷
    (5 when short_slices q.side (length q.xs) (length q.ys) (length q.luma) (length q.page)) ∷
    (6 when bad_tally q.kept q.rejected q.held) ∷
    []

abbrev pub behind_of : Request → List Sentence
behind_of q = (10 when bad_terms q.terms) ∷ (14 when wide_side q.side) ∷ []

-- in checking order; those on the positions are a group of the crate `layout`, whose first has the number 6 too
unfoldable pub sentences_of : Request → List Sentence
sentences_of q = ahead_of q ++ (module_placement q.side q.grid q.xs q.ys ++ behind_of q)

-- ---- what the call gives back

-- the numbers of line one
abbrev pub numbers_of : Request → List ℕ
numbers_of q = q.side ∷ q.terms ∷ q.kept ∷ q.rejected ∷ q.held ∷ []

abbrev pub modules_of : Request → Modules
modules_of q = modules q.side q.xs q.ys q.luma

abbrev pub text_of : Request → List ℕ
text_of q = page_text (numbers_of q) (modules_of q)

abbrev pub laid_out_bytes : Request → List ℕ
laid_out_bytes q = overlaid (text_of q) q.page

unfoldable pub page_of : Request → Ended ℕ
page_of q = written_or (sentences_of q) q.page (laid_out_bytes q)
