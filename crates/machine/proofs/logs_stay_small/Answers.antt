use Rattle.machine.proofs.logs_stay_small.Goals as goal
use Rattle.machine.proofs.Theorems.{logs_stay_small}

pub returns : goal.returns
returns c = logs_stay_small
