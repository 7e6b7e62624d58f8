use Rattle.std.proofs.Common.{rules}
use Rattle.solo.specs.Header.{loaded}
use Rattle.solo.proofs.header.load.Goals as goal

pub returns : goal.returns
unfolding loaded
returns c = record { is = search rules; some = search rules }
