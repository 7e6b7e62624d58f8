use Rattle.statements.proofs.Theorems.{no_gap}
use Rattle.statements.proofs.no_gap.Goals as goal

pub returns : goal.returns
returns c = no_gap
