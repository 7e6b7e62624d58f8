use Rattle.std.proofs.Common.{◌≡◌, arith, rules}
use Rattle.std.specs.Option.{unwrap_or}
use Rattle.raft_log.specs.Layout.{at_most}
use Rattle.raft.proofs.Quorum.{quorum}
use Rattle.raft.proofs.commit.quorum_index.Goals as goal

pub returns : goal.returns
returns c =
    let most = c.committed_index.result in
    let low : c.min.result.0 ≡ at_most (unwrap_or most (record { 0 = 0 })).0 c.last_index.result.0 = search rules in
    quorum c.args.memory.now c.args.size.0 c.min.result.0 c.last_index.result.0 most (omega arith) (omega arith) (omega arith) c.committed_index.ensures low c.last_index.ensures.is
