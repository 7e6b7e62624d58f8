use Rattle.raft_log.specs.Block.{log_content}
use Rattle.raft_log.proofs.BlockWrites.{code_none, code_some}
use Rattle.raft_log.proofs.block_writer.content_code.Goals as goal

pub returns-in-None : goal.returns-in-None
returns-in-None c = code_none (log_content c.args.memory.now c.args.index.0) c.in-None.ensures.holds

pub returns-in-Some : goal.returns-in-Some
returns-in-Some c = code_some (log_content c.args.memory.now c.args.index.0) c.args.memory.now c.in-Some.slot c.value_length.result c.in-Some.ensures.holds.0 c.value_length.ensures.is
