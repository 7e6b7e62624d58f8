-- The first words of a machine's memory, and the struct that they stand for.
use Rattle.std.specs.Prelude.{ℕ, ◌+◌, Bool, true, cond, List, set, ◌==◌, nat_lt, slice_index, slice_set}
use Rattle.raft_log.specs.Layout.{at_most}
use Rattle.raft.specs.declared.header.Ticks.{Ticks}
use Rattle.raft.specs.declared.header.Role.{Role}
use Rattle.raft.specs.declared.header.Role.TheVariants.{Follower, Candidate, Leader}
use Rattle.raft.specs.declared.header.Machine.{Machine}

abbrev pub at_least : ℕ → ℕ → ℕ
at_least n limit = cond (nat_lt limit n) n limit

abbrev pub ticks : ℕ → Ticks
ticks n = record { 0 = n }

-- which machine of how many, its term and role, the last decision applied since power, whether it is unsettled
abbrev pub machine : {R : Type 0} → ℕ → ℕ → ℕ → R → ℕ → Bool → Machine R
machine n i t r k u = record { size = record { 0 = n }; id = record { 0 = i }; term = record { 0 = t }; role = r; since = record { 0 = k }; unsettled = u }

-- one tick more, up to an election's time
abbrev pub older : Ticks → Ticks
older e = cond (nat_lt e.0 10) (ticks (e.0 + 1)) (ticks 10)

-- the same machine in another role
abbrev pub with_role : {R : Type 0} → Machine R → R → Machine R
with_role x r = machine x.size.0 x.id.0 x.term.0 r x.since.0 x.unsettled

-- the machine in term t: that has to be made safe
abbrev pub in_term : {R : Type 0} → Machine R → ℕ → R → Machine R
in_term x t r = machine x.size.0 x.id.0 t r x.since.0 true

-- a flag is a word that is 1 or not
abbrev pub flag_of : ℕ → Bool
flag_of w = w == 1

abbrev pub flag_word : Bool → ℕ
flag_word b = cond b 1 0

-- a word that is no role counts as a follower
abbrev pub role_of : ℕ → ℕ → ℕ → Role
role_of w e h =
    cond (w == 1) (Candidate (ticks (at_most e 10))) (cond (w == 2) Leader (Follower (ticks (at_most e 10)) (flag_of h)))

abbrev pub role_word : Role → ℕ
role_word (Follower e h) = 0
role_word (Candidate e) = 1
role_word Leader = 2

abbrev pub elapsed_word : Role → ℕ
elapsed_word (Follower e h) = e.0
elapsed_word (Candidate e) = e.0
elapsed_word Leader = 0

abbrev pub heard_word : Role → ℕ
heard_word (Follower e h) = flag_word h
heard_word (Candidate e) = 0
heard_word Leader = 0

-- there are one to seven machines, whatever stands in the word
abbrev pub size_of : ℕ → ℕ
size_of w = at_most (at_least w 1) 7

-- the struct that memory holds
unfoldable pub loaded : List ℕ → Machine Role
loaded m =
    machine (size_of (slice_index m 0)) (at_most (slice_index m 1) 6) (slice_index m 2) (role_of (slice_index m 3) (slice_index m 4) (slice_index m 7)) (slice_index m 5) (flag_of (slice_index m 6))

-- memory that holds the struct
unfoldable pub stored : List ℕ → Machine Role → List ℕ
stored m x =
    set (set (slice_set (slice_set (slice_set (slice_set (slice_set (slice_set m 0 x.size.0) 1 x.id.0) 2 x.term.0) 3 (role_word x.role)) 4 (elapsed_word x.role)) 5 x.since.0) 6
    (flag_word x.unsettled)) 7 (heard_word x.role)
