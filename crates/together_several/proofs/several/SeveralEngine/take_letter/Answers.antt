use Rattle.std.proofs.Common.{rules}
use Rattle.together_several.proofs.Seen.{letter_come_is}
use Rattle.together_several.proofs.several.SeveralEngine.take_letter.Goals as goal

pub returns : goal.returns
returns c = search (rules, letter_come_is)
