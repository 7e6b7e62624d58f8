use Rattle.whole.proofs.Steady.{steady}
use Rattle.whole.proofs.memory_is_steady.Goals as goal

pub returns : goal.returns
returns c = steady
