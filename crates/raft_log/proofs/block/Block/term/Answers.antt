use Rattle.std.proofs.Common.{sym, ◌∙◌}
use Rattle.raft_log.proofs.BlockSeen.{seen_row, seen_term}
use Rattle.raft_log.proofs.block.Block.term.Goals as goal

pub entry_term-requires : goal.entry_term-requires
entry_term-requires c = (seen_row c.args.self.now c.self.inside.bytes.now c.self.inside.count c.self.view_is c.self.invariant c.args.i c.requires).1

pub returns : goal.returns
returns c =
    c.entry_term.ensures ∙ sym (seen_term c.args.self.now c.self.inside.bytes.now c.self.inside.count c.self.view_is c.self.invariant c.args.i c.requires)
