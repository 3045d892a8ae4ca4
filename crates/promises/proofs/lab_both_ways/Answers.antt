-- `promises::lab_both_ways` meets its contract: the computations of `color`. Assumes nothing.
use Rattle.color.proofs.BothWays as ways
use Rattle.promises.proofs.lab_both_ways.Goals as goal

pub returns : goal.returns
returns c =
    record {
      black = ways.black-lab;
      black-back = ways.black-back;
      white = ways.white-lab;
      white-back = ways.white-back;
      white-point = ways.white-point;
      byte_0 = ways.byte_0;
      byte_255 = ways.byte_255;
      border = ways.forward;
      border-back = ways.inverse;
    }
