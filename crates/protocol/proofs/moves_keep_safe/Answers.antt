use Rattle.protocol.proofs.moves_keep_safe.Goals as goal
use Rattle.protocol.proofs.Runs.{start_safe, moves_keep_safe, others_stay_sound, moves_grow}
use Rattle.protocol.proofs.Theorems.{stop_restores, promises_last}

pub returns : goal.returns
returns c = record { start = start_safe; moves = moves_keep_safe; others = others_stay_sound; grow = moves_grow; stops = stop_restores; promises = promises_last }
