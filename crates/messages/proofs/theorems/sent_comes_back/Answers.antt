use Rattle.messages.proofs.Sent.{sent_comes_back}
use Rattle.messages.proofs.theorems.sent_comes_back.Goals as goal

pub returns : goal.returns
returns c = sent_comes_back
