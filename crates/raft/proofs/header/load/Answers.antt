use Rattle.std.proofs.Common.{rules}
use Rattle.raft.specs.Header.{loaded}
use Rattle.raft.proofs.header.load.Goals as goal

pub returns : goal.returns
unfolding loaded
returns c = record { is = search rules; some = search rules; few = search rules; one = search rules }
