use Rattle.statements.proofs.Quorum.{alone}
use Rattle.statements.proofs.alone.Goals as goal

pub returns : goal.returns
returns c = alone
