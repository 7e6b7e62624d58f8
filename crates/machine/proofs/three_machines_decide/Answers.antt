use Rattle.machine.proofs.three_machines_decide.Goals as goal
use Rattle.machine.proofs.Example.{example_shorter, example_by_term}

pub returns : goal.returns
returns c = record { shorter = example_shorter; by_term = example_by_term }
