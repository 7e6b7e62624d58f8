use Rattle.raft_log.proofs.AcceptLaws.{valid_block}
use Rattle.raft_log.proofs.theorems.block_valid.Goals as goal

pub returns : goal.returns
returns c = λ bs n ok h. valid_block bs n ok h
