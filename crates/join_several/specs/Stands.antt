-- What a memory stands for: a machine of the theory, with values as the contents of entries. Assumes nothing: these are definitions.
use Rattle.std.specs.Prelude.{◌≡◌, ℕ, suc, ◌+◌, ◌<◌, ◌≤◌, Bool, List, map, length, ◌==◌, slice_index}
use Rattle.raft_log.specs.Block.{Entry as Row}
use Rattle.raft_log.specs.View.{log_of, Tidy}
use Rattle.raft_log.specs.Entries.{commit_index}
use Rattle.raft.specs.declared.header.Role.{Role as Kind}
use Rattle.raft.specs.declared.header.Role.TheVariants.{Follower, Candidate, Leader}
use Rattle.raft.specs.Header.{loaded}
use Rattle.protocol.specs.Log.{Entry, entry, Log}
use Rattle.machine.specs.Hints.{by_term}
use Rattle.machine.specs.Machine.{Conf, follower, candidate, leader, Machine}

-- the theory's numbers, for n machines: ten ticks to a time-out, 15 entries to a letter, 4,096 values to a log, hints by term
abbrev pub conf : ℕ → Conf
conf n = record { size = n; wait = 10; batch = 15; room = 4096; hint = by_term }

abbrev pub lift_entry : Row → Entry (List ℕ)
lift_entry e = entry e.term e.content

-- a row of entries as a log of the theory
unfoldable pub lift_log : List Row → Log (List ℕ)
lift_log rows = map lift_entry rows

-- what a follower knows: how long it waited, and whether the leader has spoken
pub record Follows (e : ℕ) (h : Bool) (x : Machine (List ℕ)) : Type 0 where
  pub role : x.role ≡ follower
  pub elapsed : e ≡ x.elapsed
  pub heard : h ≡ x.heard

-- what a candidate knows: how long it waited, and who of n voted for it
pub record Stood (n : ℕ) (m : List ℕ) (e : ℕ) (x : Machine (List ℕ)) : Type 0 where
  pub votes : ℕ → Bool
  pub role : x.role ≡ candidate votes
  pub elapsed : e ≡ x.elapsed
  pub counted : (j : ℕ) → j < n → (1 == slice_index m (8 + j)) ≡ votes j

-- what a leader knows: what each of n has acknowledged, and what it is sent next
pub record Leads (n : ℕ) (m : List ℕ) (x : Machine (List ℕ)) : Type 0 where
  pub acked : ℕ → ℕ
  pub next : ℕ → ℕ
  pub role : x.role ≡ leader acked next
  pub matched : (j : ℕ) → j < n → slice_index m (15 + j) ≡ acked j
  pub sent : (j : ℕ) → j < n → slice_index m (22 + j) ≡ next j
  pub acked_most : (j : ℕ) → j < n → acked j ≤ length x.log
  pub next_most : (j : ℕ) → j < n → next j ≤ suc (length x.log)

abbrev pub RoleStands : ℕ → List ℕ → Kind → Machine (List ℕ) → Type 0
RoleStands n m (Follower e h) x = Follows e.0 h x
RoleStands n m (Candidate e) x = Stood n m e.0 x
RoleStands n m Leader x = Leads n m x

-- MEMORY m of machine id of n stands for x
pub record Stands (n id : ℕ) (m : List ℕ) (x : Machine (List ℕ)) : Type 0 where
  pub tidy : Tidy m
  pub size : (loaded m).size.0 ≡ n
  pub self : (loaded m).id.0 ≡ id
  pub term : (loaded m).term.0 ≡ x.term
  pub log : lift_log (log_of m) ≡ x.log
  pub commit : commit_index m ≡ x.commit
  pub role : RoleStands n m (loaded m).role x
