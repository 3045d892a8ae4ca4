-- `ChromaCard::put_entries` meets its contract: what is left from j on gives the same. Assumes nothing.
use mathlib.Core.Path.{◌≡◌, refl}
use mathlib.Core.List.{List}
use Prim.Native.Nat.{ℕ, ◌+◌, ◌*◌, ◌≤◌, ◌<◌}
use native.Mathlib.Omega.{arith}
use borrow.Author.Rules.{rules}
use lib.ListN.{length, get_or, take}
use lib.Ieee.{Float, nan}
use Rattle.loops.proofs.Laws.{turn_to, done, loops}
use Rattle.limits.specs.Chroma.{symbol_bits}
use Rattle.color.specs.declared.Lab.{Lab}
use Rattle.color.specs.Color.{lab}
use Rattle.modulate.specs.declared.Cell.{Cell}
use Rattle.stats.specs.declared.ChannelStats.{ChannelStats}
use Rattle.observed.specs.Entries.{lab_at}
use Rattle.scores.specs.Score.{write_sample, drawn_at, put_entry}
use Rattle.scores.proofs.Chroma.{entry_of}
use Rattle.scores.proofs.Parts.{front_in, front_past, front_read}
use Rattle.scores.proofs.ChromaCard.put_entries.Goals as goal

-- the list keeps its length
room_for : (hues first j n long lent : ℕ) → j < n → long ≡ lent → (first + n) * symbol_bits hues ≤ lent → (first + j) * symbol_bits hues + symbol_bits hues ≤ long
room_for hues first j n long lent h f l = entry_of hues (first + j) (first + n) long (omega arith) (rw f l)

wrote : (n : ChannelStats) (palette : List Float) (hues : ℕ) (cxs cys : List ℕ) (labs : List Lab) (weights : List Float) (first k j : ℕ) (chroma after : List Float) (cell : Cell) (s : Lab) → k ≤ length labs → j < length (take k labs) →
    cell ≡ drawn_at cxs cys (first + j) → after ≡ write_sample n palette hues cell s (get_or weights j nan) (first + j) chroma → s ≡ lab_at (take k labs) j → after ≡ put_entry n palette hues cxs cys labs weights first j chroma
unfolding put_entry
wrote n palette hues cxs cys labs weights first k j chroma after cell s h l e w es = rw (← front_read k labs j h (lab nan nan nan) l, ← es, ← e) w

pub write_entry-requires : goal.write_entry-requires
write_entry-requires c = (search rules, room_for _ _ _ c.args.samples.now.n _ _ (front_in _ c.args.samples.now.labs _ (search rules) (search rules)) (search rules) c.requires.1)

pub loop-j-init : goal.loop-j-init
loop-j-init c = search (loops, rules)

pub loop-j-preserved : goal.loop-j-preserved
loop-j-preserved c = turn_to c.loop-j.invariant (front_in _ c.args.samples.now.labs _ (search rules) (search rules)) (wrote _ _ _ _ _ _ _ _ c.args.samples.now.n _ _ _ _ _ (search rules) (search rules) c.drawn_at.ensures c.write_entry.ensures refl)

pub returns : goal.returns
returns c = done c.loop-j.invariant (front_past _ c.args.samples.now.labs _ (search rules) (search rules))
