use Rattle.raft_log.proofs.BlockSeen.{seen_length, seen_few}
use Rattle.raft_log.proofs.block.Block.len.Goals as goal

pub returns : goal.returns
returns c =
    record {
      is = seen_length c.args.self.now c.self.inside.bytes.now c.self.inside.count c.self.view_is c.self.invariant;
      few = seen_few c.args.self.now c.self.inside.bytes.now c.self.inside.count c.self.view_is c.self.invariant;
    }
