-- What a tick does: one that hears from no leader goes to the next term, and stands there if the term is its own.
use Rattle.std.specs.Prelude.{ℕ, ◌+◌, cond, List, ◌==◌, nat_lt}
use Rattle.raft_log.specs.Entries.{empty_fits, empty_place, empty_appended, commit_raised}
use Rattle.raft.specs.declared.header.Ticks.{Ticks}
use Rattle.solo.specs.declared.header.Role.{Role}
use Rattle.solo.specs.declared.header.Role.TheVariants.{Follower, Candidate, Leader}
use Rattle.raft.specs.declared.header.Machine.{Machine}
use Rattle.solo.specs.Header.{loaded, stored}
use Rattle.raft.specs.Header.{ticks, older, with_role, in_term}
use Rattle.raft.specs.Rows.{most_of}
use Rattle.raft.specs.Election.{owner}

-- it leads: its empty entry is last in the log, and with one machine that is decided
unfoldable pub led : List ℕ → Machine Role → ℕ → List ℕ
led m x t =
    cond (empty_fits m) (stored (commit_raised (empty_appended m t) (empty_place m)) (in_term x t Leader)) (stored m (in_term x t (Follower (ticks 0))))

-- it stands, with its own vote
unfoldable pub campaigned : List ℕ → Machine Role → ℕ → List ℕ
campaigned m x t = cond (most_of 1 x.size.0) (led m x t) (stored m (in_term x t (Candidate (ticks 0))))

-- it goes to term t
unfoldable pub term_entered : List ℕ → Machine Role → ℕ → List ℕ
term_entered m x t = cond (owner x.size.0 t == x.id.0) (campaigned m x t) (stored m (in_term x t (Follower (ticks 0))))

-- it goes to the next term, if there is one more in a word
abbrev pub next_term_entered : List ℕ → Machine Role → List ℕ
next_term_entered m x = cond (nat_lt x.term.0 18446744073709551615) (term_entered m x (x.term.0 + 1)) m

-- it has waited for e ticks; r is its role then
abbrev pub waited : List ℕ → Machine Role → Ticks → Role → List ℕ
waited m x e r = cond (nat_lt e.0 10) (stored m (with_role x r)) (next_term_entered m x)

abbrev pub tick_as : List ℕ → Machine Role → Role → List ℕ
tick_as m x (Follower e) = waited m x (older e) (Follower (older e))
tick_as m x (Candidate e) = waited m x (older e) (Candidate (older e))
tick_as m x Leader = m

unfoldable pub ticked : List ℕ → List ℕ
ticked m = tick_as m (loaded m) (loaded m).role
