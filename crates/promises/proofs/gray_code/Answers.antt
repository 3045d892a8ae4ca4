-- `promises::gray_code` meets its contract: the theorems of `modulate`. Assumes nothing.
use Rattle.symbols.proofs.GrayCode as code
use Rattle.promises.proofs.gray_code.Goals as goal

pub returns : goal.returns
returns c =
    record {
      gray_of_inverse = code.gray_of_inverse;
      inverse_of_gray = code.inverse_of_gray;
      gray-below = code.gray_lt;
      inverse-below = code.inverse_lt;
      symbol_of_hue = code.symbol_of_hue;
      hue_of_symbol = code.hue_of_symbol;
      hue-below = code.hue_lt;
      symbol-below = code.symbol_lt;
    }
