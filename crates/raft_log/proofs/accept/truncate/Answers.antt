use Rattle.std.proofs.Common.{refl}
use Rattle.raft_log.specs.Accept.{truncated}
use Rattle.raft_log.proofs.accept.truncate.Goals as goal

pub returns : goal.returns
unfolding truncated
returns c = refl
