-- What a proposal does: it is refused, or stands last in the leader's log.
use Rattle.std.specs.Prelude.{◌≡◌, ℕ, ◌+◌, cond, List, length, Ok, Err, Result, nat_lt}
use Rattle.raft_log.specs.Entries.{last_index, value_fits, value_appended, commit_raised}
use Rattle.solo.specs.declared.header.Role.{Role}
use Rattle.solo.specs.declared.header.Role.TheVariants.{Follower, Candidate, Leader}
use Rattle.raft.specs.declared.header.Machine.{Machine}
use Rattle.raft.specs.declared.proposal.Refusal.{Refusal}
use Rattle.raft.specs.declared.proposal.Refusal.TheVariants.{NotNow, TooLong, Full}
use Rattle.raft.specs.Proposal.{with_unsettled}
use Rattle.solo.specs.Header.{loaded, stored}
use Rattle.raft.specs.Rows.{most_of}

-- the leader itself has entry i: with one machine that is more than half
unfoldable pub own_acked : List ℕ → Machine Role → ℕ → List ℕ
own_acked m x i = cond (most_of 1 x.size.0) (commit_raised m i) m

-- memory with a proposal taken
unfoldable pub taken : List ℕ → Machine Role → List ℕ → List ℕ
taken m x v = stored (own_acked (value_appended m x.term.0 v) x (last_index m + 1)) (with_unsettled x)

abbrev pub propose_as : List ℕ → Machine Role → Role → List ℕ → Result (List ℕ) Refusal
propose_as m x (Follower e) v = Err NotNow
propose_as m x (Candidate e) v = Err NotNow
propose_as m x Leader v = cond (value_fits m (length v)) (Ok (taken m x v)) (Err Full)

-- memory after a proposal, or why it is refused
unfoldable pub proposed : List ℕ → List ℕ → Result (List ℕ) Refusal
proposed m v = cond (nat_lt 256 (length v)) (Err TooLong) (propose_as m (loaded m) (loaded m).role v)

-- what a proposal answers, and memory then
abbrev pub Proposed : List ℕ → List ℕ → Result (Unit {0}) Refusal → List ℕ → Type 0
Proposed m v (Ok u) m₁ = proposed m v ≡ Ok m₁
Proposed m v (Err why) m₁ = (proposed m v ≡ Err why) × (m₁ ≡ m)
