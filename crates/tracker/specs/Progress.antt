-- How far another machine is known to have the log, and how that changes. Assumes nothing: these are definitions.
use Rattle.std.specs.Prelude.{ℕ, ◌+◌, ◌-◌, ◌^◌, ◌<◌, ◌≤◌, min, max, Bool, cond, not, ◌&&◌, ◌==◌, nat_le, nat_lt}
use Rattle.raft_log.specs.declared.Index.{Index}
use Rattle.tracker.specs.declared.progress.Progress.{Progress}
use Rattle.tracker.specs.declared.progress.ProgressState.{ProgressState}
use Rattle.tracker.specs.declared.progress.ProgressState.TheVariants.{Probe, Replicate}

abbrev pub index : ℕ → Index
index n = record { 0 = n }

-- a machine has the log up to `m`, and is sent what begins at `n`
abbrev pub progress : ℕ → ℕ → ProgressState → Progress
progress m n s = record { matched = index m; next_index = index n; state = s }

abbrev pub matched_of : Progress → ℕ
matched_of p = p.matched.0

abbrev pub next_of : Progress → ℕ
next_of p = p.next_index.0

-- the largest index that a word holds; nothing can follow it
abbrev pub last_index : ℕ
last_index = 2 ^ 64 - 1

-- what is sent next is after what the machine is known to have, and is an index that a word holds
abbrev pub Ahead : Progress → Type 0
Ahead p = (matched_of p < next_of p) × (next_of p ≤ last_index)

-- the index after n, as far as there is one
abbrev pub after : ℕ → ℕ
after n = min (n + 1) last_index

-- nothing is known of the machine: it is probed at n, and at 1 at least
abbrev pub fresh : Index → Progress
fresh n = progress 0 (max 1 n.0) Probe

-- back to what it is known to have, in either state
abbrev pub turned : ProgressState → Progress → Progress
turned s p = record { matched = p.matched; next_index = index (after (matched_of p)); state = s }

-- it has acknowledged n: neither number falls, and the next is after n; the last index is refused
abbrev pub acknowledged : Index → Progress → Progress
acknowledged n p = cond (nat_lt n.0 last_index) (progress (max (matched_of p) n.0) (max (next_of p) (after n.0)) p.state) p

-- whether it was known to have less
abbrev pub news : Index → Progress → Bool
news n p = nat_lt n.0 last_index && nat_lt (matched_of p) n.0

-- what is sent up to n counts as on its way: the next is after n, and after what it has
abbrev pub sent : Index → Progress → Progress
sent n p = record { matched = p.matched; next_index = index (after (max (matched_of p) n.0)); state = p.state }

-- a rejection says nothing new: while probing, if it is not of the index before the next; while replicating, if the machine has that index
abbrev pub stale_in : ProgressState → Index → Progress → Bool
stale_in Probe rejected p = not (next_of p == rejected.0 + 1)
stale_in Replicate rejected p = nat_le rejected.0 (matched_of p)

abbrev pub stale : Index → Progress → Bool
stale rejected p = stale_in p.state rejected p

-- where to go on after a rejection: while probing at what was rejected or after the hint, whichever is less; always after what it has
abbrev pub retry_in : ProgressState → Index → Index → Progress → ℕ
retry_in Probe rejected hint p = max (min rejected.0 (after hint.0)) (after (matched_of p))
retry_in Replicate rejected hint p = after (matched_of p)

-- an append at `rejected` was refused, with a hint up to where the logs may agree
abbrev pub rejected_at : Index → Index → Progress → Progress
rejected_at rejected hint p = cond (stale rejected p) p (record { matched = p.matched; next_index = index (retry_in p.state rejected hint p); state = p.state })
