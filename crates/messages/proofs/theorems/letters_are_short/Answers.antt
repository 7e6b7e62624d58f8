use Rattle.messages.proofs.RoundTrip.{letters_short}
use Rattle.messages.proofs.theorems.letters_are_short.Goals as goal

pub returns : goal.returns
returns c = letters_short
