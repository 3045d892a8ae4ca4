-- What an accepted file holds fits the arrays that it is decoded into: all its sections together are at most 16,384 bytes. Assumes nothing.
use mathlib.Core.Path.{◌≡◌, sym, ap, ◌∙◌}
use mathlib.Core.List.{List}
use Prim.Native.Nat.{ℕ}
use native.Mathlib.Omega.{arith}
use lib.ListN.{length}
use Rattle.card.specs.declared.Card.{Card}
use Rattle.std.specs.Prelude.{Result, Ok}
use Rattle.answers.specs.declared.refusal.Refusal.{Refusal}
use Rattle.answers.specs.Answers.{said}
use Rattle.card.specs.File.{opened}
use Rattle.card.specs.Sections.{position_of, coordinate_at}
use Rattle.card.proofs.Accepted.{Held, accepted}
use Rattle.readout.specs.Sheet.{Few}
use Rattle.reader.specs.File.{sheet_of, Fits}
use Rattle.reader.proofs.Lists.{list_length}

held : (s : List ℕ) (o : Result Card Refusal) (c : Card) → said o ≡ opened 5 s → o ≡ Ok c → Held s c
held s o c p e = accepted s c (ap said (sym e) ∙ p)

pub fits : (s : List ℕ) (o : Result Card Refusal) (c : Card) → said o ≡ opened 5 s → o ≡ Ok c → Fits c
fits s o c p e =
    let h = held s o c p e in
    record { side = h.side; palette = omega arith; references = omega arith; modules = omega arith; cells = omega arith; whole = omega arith }

-- the lists of a file are as long as it says
pub few : (s : List ℕ) (c : Card) → Fits c → Few c.settings (length (sheet_of s c).xs) (length (sheet_of s c).cxs)
unfolding sheet_of
few s c h =
    let x = list_length (position_of s c.modules.at) c.modules.count in
    let y = list_length (coordinate_at s c.cells.at) c.cells.count in
    record { side = h.side; hues = omega arith; both = omega arith }
