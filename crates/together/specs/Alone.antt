-- What each event makes of the memory of a machine that is alone.
use Rattle.together.specs.Promise.{done}
use Rattle.together.specs.Machine.{answer, go_on}
use Rattle.together.specs.Moves.{Moves}
use Rattle.solo.specs.Header.{loaded}
use Rattle.solo.specs.Power.{powered}
use Rattle.solo.specs.Election.{ticked}
use Rattle.solo.specs.Proposal.{proposed}

abbrev pub alone : Moves
alone =
    record {
      powered = powered;
      proposed = proposed;
      since = λ m. (loaded m).since.0;
      ticked = ticked;
      letter_taken = λ m f bs. answer m done;
      gone_on = go_on;
    }
