use Rattle.statements.proofs.Theorems.{calm_more}
use Rattle.statements.proofs.calm_more.Goals as goal

pub returns : goal.returns
returns c = calm_more
