-- `promises::identity_returns_the_colour` meets its contract: what a gain of 1, a flare of +0 and the identity as affine part make of a colour. Assumes nothing.
use Rattle.promises.proofs.Identity.{returned, answered}
use Rattle.promises.proofs.identity_returns_the_colour.Goals as goal

pub returns : goal.returns
returns c = record { colour = returned; answer = answered }
