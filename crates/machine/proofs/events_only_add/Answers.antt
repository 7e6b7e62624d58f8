use Rattle.machine.proofs.events_only_add.Goals as goal
use Rattle.machine.proofs.Rises.{commit_rises, terms_rise}
use Rattle.machine.proofs.Theorems.{events_extend}

pub returns : goal.returns
returns c = record { commit = commit_rises; term = terms_rise; decided = events_extend }
