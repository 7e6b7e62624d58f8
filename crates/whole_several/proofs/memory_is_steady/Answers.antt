use Rattle.whole_several.proofs.Steady.{steady}
use Rattle.whole_several.proofs.memory_is_steady.Goals as goal

pub returns : goal.returns
returns c = steady
