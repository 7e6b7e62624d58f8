use Rattle.statements.proofs.Theorems.{two_halves}
use Rattle.statements.proofs.two_halves.Goals as goal

pub returns : goal.returns
returns c = two_halves
