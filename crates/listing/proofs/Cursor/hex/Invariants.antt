-- `listing::Cursor::hex` meets its contract: the digits of the bytes before this one are written. Assumes nothing.
use Rattle.std.proofs.Common.{◌-◌, ◌*◌, ◌/◌, ◌^◌}
use Rattle.listing.specs.Listing.{hex}
use Rattle.listing.specs.Writes.{Writes}
use Rattle.listing.proofs.Cursor.hex.Given as goal

abbrev pub invariant-loop-byte : goal.invariant-loop-byte
invariant-loop-byte l = Writes (hex (2 * l.byte-index) (l.n / 256 ^ (4 - l.byte-index))) l.initial.self l.self
