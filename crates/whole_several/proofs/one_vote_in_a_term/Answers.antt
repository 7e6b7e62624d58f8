use Rattle.whole_several.proofs.Histories.{one_vote_ever}
use Rattle.whole_several.proofs.one_vote_in_a_term.Goals as goal

pub returns : goal.returns
returns c = one_vote_ever
