-- What each event makes of the memory of a machine of several.
use Rattle.raft.specs.Header.{loaded}
use Rattle.raft.specs.Power.{powered}
use Rattle.raft.specs.Election.{ticked}
use Rattle.raft.specs.Proposal.{proposed}
use Rattle.raft.specs.Receive.{received_from_another}
use Rattle.together.specs.Moves.{Moves}
use Rattle.together_several.specs.Machine.{go_on, letter_come}

abbrev pub several : Moves
several =
    record {
      powered = powered;
      proposed = proposed;
      since = λ m. (loaded m).since.0;
      ticked = ticked;
      letter_taken = λ m f bs. go_on (received_from_another m f (letter_come bs));
      gone_on = go_on;
    }
