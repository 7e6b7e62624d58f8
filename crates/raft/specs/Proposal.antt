-- What a proposal does: it is refused, or stands last in the leader's log and is sent to all others.
use Rattle.std.specs.Prelude.{◌≡◌, ℕ, ◌+◌, true, cond, List, length, Ok, Err, Result, nat_lt, slice_set}
use Rattle.raft_log.specs.Entries.{last_index, value_fits, value_appended}
use Rattle.raft.specs.declared.header.Role.{Role}
use Rattle.raft.specs.declared.header.Role.TheVariants.{Follower, Candidate, Leader}
use Rattle.raft.specs.declared.header.Machine.{Machine}
use Rattle.raft.specs.declared.proposal.Refusal.{Refusal}
use Rattle.raft.specs.declared.proposal.Refusal.TheVariants.{NotNow, TooLong, Full}
use Rattle.raft.specs.declared.say.Due.TheVariants.{Append}
use Rattle.raft.specs.Header.{machine, loaded, stored}
use Rattle.raft.specs.Say.{said_to_others}
use Rattle.raft.specs.Commit.{maybe_committed}

-- the number of a refusal
abbrev pub refusal_number : Refusal → ℕ
refusal_number NotNow = 3
refusal_number TooLong = 6
refusal_number Full = 7

-- its log has changed: that has to be made safe
abbrev pub with_unsettled : {R : Type 0} → Machine R → Machine R
with_unsettled x = machine x.size.0 x.id.0 x.term.0 x.role x.since.0 true

-- memory with a proposal taken: the leader itself has it
unfoldable pub taken : List ℕ → Machine Role → List ℕ → List ℕ
taken m x v =
    said_to_others (stored (maybe_committed (slice_set (value_appended m x.term.0 v) (15 + x.id.0) (last_index m + 1)) x.size.0 x.term.0) (with_unsettled x)) x Append

abbrev pub propose_as : List ℕ → Machine Role → Role → List ℕ → Result (List ℕ) Refusal
propose_as m x (Follower e heard) v = Err NotNow
propose_as m x (Candidate e) v = Err NotNow
propose_as m x Leader v = cond (value_fits m (length v)) (Ok (taken m x v)) (Err Full)

-- memory after a proposal, or why it is refused
unfoldable pub proposed : List ℕ → List ℕ → Result (List ℕ) Refusal
proposed m v = cond (nat_lt 256 (length v)) (Err TooLong) (propose_as m (loaded m) (loaded m).role v)

-- what a proposal answers, and memory then
abbrev pub Proposed : List ℕ → List ℕ → Result (Unit {0}) Refusal → List ℕ → Type 0
Proposed m v (Ok u) m₁ = proposed m v ≡ Ok m₁
Proposed m v (Err why) m₁ = (proposed m v ≡ Err why) × (m₁ ≡ m)
