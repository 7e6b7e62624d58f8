use Rattle.protocol.proofs.letters_stay_true.Goals as goal
use Rattle.protocol.proofs.Theorems.{letters_stay_true, letters_permit}

pub returns : goal.returns
returns c = record { grow = letters_stay_true; permit = letters_permit }
