use Rattle.std.proofs.Common.{sym}
use Rattle.together_several.proofs.Lengths.{length_own}
use Rattle.together_several.proofs.memory_words.Goals as goal

pub returns : goal.returns
returns c = sym length_own
