use Rattle.together.proofs.Halves.{says_index, says_refused}
use Rattle.together.proofs.half.Goals as goal

pub returns-in_default : goal.returns-in_default
returns-in_default c = says_refused c.args.indices.now c.in_default.ensures

pub returns : goal.returns
returns c = says_index c.args.indices.now c.in-Some.index c.in-Some.ensures
