use Rattle.statements.proofs.Theorems.{agree}
use Rattle.statements.proofs.agree.Goals as goal

pub returns : goal.returns
returns c = agree
