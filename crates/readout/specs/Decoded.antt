-- What a decoded card is read from, by the slices that the code holds. Definitions only.
use Rattle.readout.specs.declared.decoded.Decoded.{Decoded}
use Rattle.readout.specs.Sheet.{Sheet, sheet}

abbrev pub sheet_on : Decoded → Sheet
sheet_on d = sheet d.settings d.palette.now d.xs.now d.ys.now d.raw.now d.cxs.now d.cys.now d.craw.now
