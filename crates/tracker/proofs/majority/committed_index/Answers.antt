use Rattle.std.proofs.Common.{◌≡◌, fold, Some, arith, rules}
use Rattle.tracker.specs.Majority.{better}
use Rattle.tracker.proofs.Quorums.{committed_top, best_top}
use Rattle.tracker.proofs.majority.committed_index.Goals as goal

pub returns : goal.returns
returns c =
    let indices = c.args.indices.now in
    let best : c.fold-best.result ≡ fold (better indices) 0 indices = search rules in
    let says = committed_top indices (Some (fold (better indices) 0 indices)) (omega arith) (best_top indices (grind arith)) in
    search rules
