use Rattle.gates.specs.Gate.{gate_of}
use Rattle.record.specs.GateBytes.{gate_in}
use Rattle.record.proofs.gate_from.Goals as goal

pub returns : goal.returns
unfolding gate_of gate_in
returns c = cc
