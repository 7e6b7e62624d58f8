use Rattle.statements.proofs.Theorems.{later_proposals}
use Rattle.statements.proofs.later_proposals.Goals as goal

pub returns : goal.returns
returns c = later_proposals
