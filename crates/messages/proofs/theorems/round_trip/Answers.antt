use Rattle.messages.proofs.RoundTrip.{round_trip}
use Rattle.messages.proofs.theorems.round_trip.Goals as goal

pub returns : goal.returns
returns c = round_trip
