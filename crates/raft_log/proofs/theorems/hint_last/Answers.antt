use Rattle.raft_log.proofs.MergeLaws.{hint_below, hint_within, hint_low, hint_last}
use Rattle.raft_log.proofs.theorems.hint_last.Goals as goal

pub returns : goal.returns
returns c = λ l p q. record { below = hint_below l p q; within = hint_within l p q; low = hint_low l p q; last = hint_last l p q }
