-- `symbols::chroma_mask_remove` refuses by the first sentence that holds. Assumes nothing.
use Rattle.answers.proofs.Answers.{turned_away}
use Rattle.symbols.proofs.chroma_mask_remove.Goals as goal

pub returns-in_err-check_cell : goal.returns-in_err-check_cell
returns-in_err-check_cell c = search (turned_away, c.in_err-check_cell.ensures)
