-- `Division::class_of` meets its contract: a return for each answer of the two tests, and what the class says. Assumes nothing.
use Rattle.counts.proofs.Levels.{dark_class, light_class, last_class, dark-says, light-says, last_says, light-fits, last_fits}
use Rattle.counts.proofs.Division.class_of.Goals as goal

pub returns-then-v : goal.returns-then-v
returns-then-v c = (search (dark_class), search (dark-says))

pub overflow_add-result : goal.overflow_add-result
overflow_add-result c = search (light-fits)

pub returns-then-v-2 : goal.returns-then-v-2
returns-then-v-2 c = (search (light_class), search (light-says))

pub overflow_mul-result : goal.overflow_mul-result
overflow_mul-result c = search (last_fits)

pub returns-else-v-2 : goal.returns-else-v-2
returns-else-v-2 c = (search (last_class), search (last_says))
