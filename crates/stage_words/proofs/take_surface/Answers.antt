-- `stage_words::take_surface` meets its contract: the words in front, and +0 behind. Assumes nothing.
use Rattle.std.proofs.Common.{◌≡◌, ℕ, ◌+◌, length, ◌∙◌, ap, arith, get_or, length-take-le}
use lib.Ieee.{nan, binary64, of_bits}
use Rattle.lists.proofs.Front.{front_replaced}
use Rattle.stage_words.specs.Records.{double_at, coefficient_at, surface_at}
use Rattle.stage_words.proofs.take_surface.Goals as goal

pub returns-clause-value : goal.returns-clause-value
unfolding coefficient_at surface_at of_bits
returns-clause-value c =
    let row = c.args.inputs.now.rest.now in
    let long : length c.take_all.new.out ≡ c.args.width = c.take_all.auto.out ∙ length-take-le c.args.width _ (omega arith) in
    front_replaced nan c.args.width (λ j v. double_at row 0 (0 + j)) _ c.take_all.new.out (omega arith) c.take_all.auto.out
    (λ j h. c.take_all.ensures.values j nan (omega arith) ∙ ap (λ (i : ℕ). of_bits binary64 (get_or row i 0)) (let e : j ≡ 0 + (0 + j) = omega arith in e))
