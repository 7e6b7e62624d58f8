use Rattle.whole_several.proofs.Main.{whole_own}
use Rattle.whole_several.proofs.whole_stands.Goals as goal

pub returns : goal.returns
returns c = whole_own
