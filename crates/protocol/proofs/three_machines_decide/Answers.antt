use Rattle.protocol.proofs.three_machines_decide.Goals as goal
use Rattle.protocol.proofs.Example.{example_run}

pub returns : goal.returns
returns c = example_run
