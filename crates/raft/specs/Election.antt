-- Ticks, terms and votes: one that hears from no leader goes to the next term, and stands there if the term is its own.
use Rattle.std.specs.Prelude.{ℕ, ◌+◌, ◌%◌, Bool, true, false, cond, ◌&&◌, ◌||◌, List, ◌==◌, nat_lt, slice_set}
use Rattle.raft_log.specs.Entries.{empty_fits, empty_place, empty_appended}
use Rattle.raft.specs.declared.header.Ticks.{Ticks}
use Rattle.raft.specs.declared.header.Role.{Role}
use Rattle.raft.specs.declared.header.Role.TheVariants.{Follower, Candidate, Leader}
use Rattle.raft.specs.declared.header.Machine.{Machine}
use Rattle.raft.specs.declared.say.Due.{Due}
use Rattle.raft.specs.declared.say.Due.TheVariants.{Append, RequestVote, TellTerm, Grant, Deny}
use Rattle.raft.specs.Header.{ticks, older, with_role, in_term, loaded, stored}
use Rattle.raft.specs.Rows.{row_set, only, vote_count, most_of}
use Rattle.raft.specs.Say.{said_to_others, said_to}
use Rattle.raft.specs.Commit.{maybe_committed}

-- the only machine that may stand or lead in term t
abbrev pub owner : ℕ → ℕ → ℕ
owner n t = t % n

-- what a new leader whose log ends at i knows: it has that itself, and sends it to all
unfoldable pub rows_begun : List ℕ → ℕ → ℕ → List ℕ
rows_begun m id i = row_set (row_set m 15 (only id i)) 22 (λ _. i)

-- it leads in term t: its empty entry is last in the log, and all are sent it
unfoldable pub led_with_room : List ℕ → Machine Role → ℕ → List ℕ
led_with_room m x t =
    said_to_others (stored (maybe_committed (rows_begun (empty_appended m t) x.id.0 (empty_place m)) x.size.0 t) (in_term x t Leader)) x Append

unfoldable pub led : List ℕ → Machine Role → ℕ → List ℕ
led m x t = cond (empty_fits m) (led_with_room m x t) (stored m (in_term x t (Follower (ticks 0) false)))

-- it stands, with its own vote, and asks all others for theirs
unfoldable pub stood : List ℕ → Machine Role → ℕ → List ℕ
stood m x t = said_to_others (row_set (stored m (in_term x t (Candidate (ticks 0)))) 8 (only x.id.0 1)) x RequestVote

unfoldable pub campaigned : List ℕ → Machine Role → ℕ → List ℕ
campaigned m x t = cond (most_of 1 x.size.0) (led m x t) (stood m x t)

-- it follows in term t, and says so: to all if it waited in vain, else to the term's owner
abbrev pub told : Bool → List ℕ → Machine Role → ℕ → List ℕ
told true m x t = said_to_others m x TellTerm
told false m x t = said_to m (owner x.size.0 t) TellTerm

unfoldable pub followed : List ℕ → Machine Role → ℕ → Bool → List ℕ
followed m x t loud = told loud (stored m (in_term x t (Follower (ticks 0) false))) x t

-- it goes to term t
unfoldable pub term_entered : List ℕ → Machine Role → ℕ → Bool → List ℕ
term_entered m x t loud = cond (owner x.size.0 t == x.id.0) (campaigned m x t) (followed m x t loud)

-- it goes to the next term, if there is one more in a word
abbrev pub next_term_entered : List ℕ → Machine Role → List ℕ
next_term_entered m x = cond (nat_lt x.term.0 18446744073709551615) (term_entered m x (x.term.0 + 1) true) m

-- who has not heard from the term's leader tells its owner again where it is
unfoldable pub reminded : List ℕ → Machine Role → Bool → List ℕ
reminded m x heard = cond (heard || owner x.size.0 x.term.0 == x.id.0) m (said_to m (owner x.size.0 x.term.0) TellTerm)

abbrev pub waited : List ℕ → Machine Role → Ticks → Bool → List ℕ
waited m x e heard = cond (nat_lt e.0 10) (reminded (stored m (with_role x (Follower e heard))) x heard) (next_term_entered m x)

abbrev pub asked_again : List ℕ → Machine Role → Ticks → List ℕ
asked_again m x e = cond (nat_lt e.0 10) (said_to_others (stored m (with_role x (Candidate e))) x RequestVote) (next_term_entered m x)

abbrev pub tick_as : List ℕ → Machine Role → Role → List ℕ
tick_as m x (Follower e heard) = waited m x (older e) heard
tick_as m x (Candidate e) = asked_again m x (older e)
tick_as m x Leader = said_to_others m x Append

unfoldable pub ticked : List ℕ → List ℕ
ticked m = tick_as m (loaded m) (loaded m).role

-- does a candidate that has waited for e ticks win? One that wins late does not lead, since others may be leaving the term
abbrev pub wins_now : List ℕ → Machine Role → Ticks → Bool
wins_now m x e = most_of (vote_count m x.size.0) x.size.0 && nat_lt e.0 8

-- a candidate got the vote of f
unfoldable pub vote_taken : List ℕ → Machine Role → Ticks → ℕ → List ℕ
vote_taken m x e f = cond (wins_now (slice_set m (8 + f) 1) x e) (led (slice_set m (8 + f) 1) x x.term.0) (slice_set m (8 + f) 1)

-- the answer to a request for a vote
abbrev pub vote_due : Bool → Due
vote_due true = Grant
vote_due false = Deny
