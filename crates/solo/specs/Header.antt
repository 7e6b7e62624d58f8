-- The first words of a machine's memory, and the struct that they stand for.
use Rattle.std.specs.Prelude.{ℕ, cond, List, set, ◌==◌, slice_index, slice_set}
use Rattle.raft_log.specs.Layout.{at_most}
use Rattle.solo.specs.declared.header.Role.{Role}
use Rattle.solo.specs.declared.header.Role.TheVariants.{Follower, Candidate, Leader}
use Rattle.raft.specs.declared.header.Machine.{Machine}
use Rattle.raft.specs.Header.{at_least, ticks, machine, flag_of, flag_word}

-- a word that is no role counts as a follower
abbrev pub role_of : ℕ → ℕ → Role
role_of w e =
    cond (w == 1) (Candidate (ticks (at_most e 10))) (cond (w == 2) Leader (Follower (ticks (at_most e 10))))

abbrev pub role_word : Role → ℕ
role_word (Follower e) = 0
role_word (Candidate e) = 1
role_word Leader = 2

abbrev pub elapsed_word : Role → ℕ
elapsed_word (Follower e) = e.0
elapsed_word (Candidate e) = e.0
elapsed_word Leader = 0

-- the struct that memory holds
unfoldable pub loaded : List ℕ → Machine Role
loaded m =
    machine (at_least (slice_index m 0) 1) (slice_index m 1) (slice_index m 2) (role_of (slice_index m 3) (slice_index m 4)) (slice_index m 5) (flag_of (slice_index m 6))

-- memory that holds the struct
unfoldable pub stored : List ℕ → Machine Role → List ℕ
stored m x =
    set (slice_set (slice_set (slice_set (slice_set (slice_set (slice_set m 0 x.size.0) 1 x.id.0) 2 x.term.0) 3 (role_word x.role)) 4 (elapsed_word x.role)) 5 x.since.0) 6
    (flag_word x.unsettled)
