-- What power makes of a memory.
use Rattle.std.specs.Prelude.{ℕ, ◌-◌, Bool, false, cond, ◌&&◌, List, nat_le, nat_lt}
use Rattle.raft_log.specs.Entries.{applied_number, applied_set}
use Rattle.raft.specs.declared.header.Role.TheVariants.{Follower}
use Rattle.raft.specs.declared.header.Machine.{Machine}
use Rattle.raft.specs.Header.{ticks, machine, loaded, stored}
use Rattle.raft.specs.Rows.{row_set}

-- is there a machine i of n?
abbrev pub belongs : ℕ → ℕ → Bool
belongs i n = nat_le n 7 && nat_lt i n

-- power came: nothing is known but what was safe, and nothing was applied since
abbrev pub restarted : {R : Type 0} → Machine R → ℕ → ℕ → R → Machine R
restarted x i n r = machine n i x.term.0 r 0 false

-- memory as power comes: no letter is due, and the last decision that was safe as applied is applied again
unfoldable pub powered : List ℕ → ℕ → ℕ → List ℕ
powered m i n =
    cond (belongs i n) (row_set (applied_set (stored m (restarted (loaded m) i n (Follower (ticks 0) false))) (applied_number m - 1)) 29 (λ _. 0)) m
