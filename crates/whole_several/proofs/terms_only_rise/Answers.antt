use Rattle.whole_several.proofs.Histories.{terms_ever}
use Rattle.whole_several.proofs.terms_only_rise.Goals as goal

pub returns : goal.returns
returns c = terms_ever
