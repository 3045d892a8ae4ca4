-- `promises::fitted_models` meets its contract: the theorem of `fit`, where a fit is accepted. Assumes nothing.
use Rattle.fit.proofs.Law.{fit-sound}
use Rattle.promises.proofs.fitted_models.Goals as goal

pub returns : goal.returns
returns c = λ q e. record { passes = (fit-sound q).passes e; counts = (fit-sound q).all e }
