use Rattle.tracker.proofs.Ballots.{once, counted_once, won_by_more, decided_stays}
use Rattle.tracker.proofs.theorems.vote_laws.Goals as goal

pub returns : goal.returns
returns c = record { once = once; counted = counted_once; more = won_by_more; stays = decided_stays }
