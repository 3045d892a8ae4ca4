-- `measure::measurement_of` meets its contract: `nominal` and no mark below 8, and else the record of the columns and the marks that were counted. Assumes nothing.
use mathlib.Core.Path.{ap, ◌∙◌}
use native.Mathlib.Omega.{arith}
use Rattle.measure.specs.Columns.{record_in}
use Rattle.measure.proofs.Noting.{levels-fit, spreads_real, enough, too_few}
use Rattle.measure.proofs.measurement_of.Goals as goal

pub returns-then-references-lt8 : goal.returns-then-references-lt8
returns-then-references-lt8 c = search (too_few)

pub invariant_of-columns : goal.invariant_of-columns
invariant_of-columns c =
    let e = c.split_at_mut-room.ensures.back in
    let n = c.args.references.now.n in
    record {
      three = omega (arith, c.split_at_mut-room.ensures.back_len, c.note-held.auto.s, c.requires.scratch.four);
      few = c.requires.scratch.most;
      fit = rw e (levels-fit c.note-held.ensures.0);
    }

pub record_of-noise-requires : goal.record_of-noise-requires
record_of-noise-requires c = (c.split_at_mut-room.ensures.front_len, rw c.split_at_mut-room.ensures.back (spreads_real c.note-held.ensures.0 c.if-references-lt8.false c.requires.singles c.requires.passed.0 c.requires.passed.1))

pub returns : goal.returns
returns c = enough c.note-held.ensures.0 c.if-references-lt8.false (c.record_of-noise.ensures ∙ ap (record_in c.args.palette.numbers.now c.args.references.now.n) c.split_at_mut-room.ensures.back) c.note-held.ensures.1
