use Rattle.messages.proofs.OneToOne.{one_to_one}
use Rattle.messages.proofs.theorems.one_to_one.Goals as goal

pub returns : goal.returns
returns c = one_to_one
