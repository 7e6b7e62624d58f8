use Rattle.whole_several.proofs.Histories.{same_number}
use Rattle.whole_several.proofs.same_number_same_value.Goals as goal

pub returns : goal.returns
returns c = same_number
