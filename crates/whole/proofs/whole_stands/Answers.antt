use Rattle.whole.proofs.Main.{whole_own}
use Rattle.whole.proofs.whole_stands.Goals as goal

pub returns : goal.returns
returns c = whole_own
