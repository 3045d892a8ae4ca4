-- `readout::Decoded::list_on` meets its contract: the line of a refusal, or the listing of what was read. Assumes nothing.
use Rattle.readout.proofs.Next.{listable, not-read, is_read}
use Rattle.readout.proofs.decoded.Decoded.list_on.Goals as goal
use Rattle.readout.proofs.decoded.Decoded.list_on.Goals.{in-Err, in-Ok}

pub list_read-requires : goal.list_read-requires
list_read-requires c =
    listable _ _ _ _ _ _ _ _ _ _ _ _ _ _ _ _ _ _ _ _ _ _ _ _ c.read_bits.ensures.0 c.in-Ok.field-0 c.in-Ok.is

pub returns : goal.returns
returns c =
    let p = rw c.layout.ensures at c.read_bits.ensures.0 in
    elim c.match-read_bits.branch [
      | in-Err w ↦ rw (w.result-is, w.out-is) (not-read _ _ _ _ _ _ _ _ _ _ _ _ _ _ _ _ _ _ _ _ _ _ _ _ p _ _ w.in-Err.refusal _ w.from.ensures w.in-Err.is w.refused_line.ensures)
      | in-Ok w ↦ rw (w.result-is, w.out-is) (is_read _ _ _ _ _ _ _ _ _ _ _ _ _ _ _ _ _ _ _ _ _ _ _ _ p _ _ w.in-Ok.field-0 w.in-Ok.is w.list_read.ensures)
    ]
