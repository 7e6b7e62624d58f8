use Rattle.protocol.proofs.leaders_are_complete.Goals as goal
use Rattle.protocol.proofs.Complete.{complete_step}
use Rattle.protocol.proofs.Theorems.{leader_completeness}

pub returns : goal.returns
returns c = record { step = complete_step; whole = leader_completeness }
