-- `promises::median_is_the_middle` meets its contract: the theorems of `order`. Assumes nothing.
use mathlib.Core.Path.{sym}
use Rattle.order.proofs.Middle as middle
use Rattle.order.proofs.Law as law
use Rattle.promises.proofs.median_is_the_middle.Goals as goal

pub returns : goal.returns
returns c =
    record {
      selection_permutes = law.selected-permutes;
      permutes = law.median-permutes;
      none = λ xs e. sym (middle.none xs e);
      odd = law.median-odd;
      even = law.median-even;
      selected_rank = law.selected_rank;
      selected-sorted = law.selected-sorted;
      rank_unique = law.rank_unique;
    }
