-- `ChromaCard::write` meets its contract: the list is long enough for the cells' entries. Assumes nothing.
use Rattle.scores.proofs.Parts.{cells_long}
use Rattle.scores.proofs.ChromaCard.write.Goals as goal

pub write_cells-held-requires : goal.write_cells-held-requires
write_cells-held-requires c = cells_long _ _ _ _ _ c.requires
