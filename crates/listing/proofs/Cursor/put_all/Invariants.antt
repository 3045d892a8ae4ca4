-- `listing::Cursor::put_all` meets its contract: the bytes before this one are written. Assumes nothing.
use Rattle.std.proofs.Common.{take}
use Rattle.listing.specs.Writes.{Writes}
use Rattle.listing.proofs.Cursor.put_all.Given as goal

abbrev pub invariant-loop-b : goal.invariant-loop-b
invariant-loop-b l = Writes (take l.b-index l.bytes) l.initial.self l.self
