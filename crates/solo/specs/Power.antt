-- What power makes of a memory.
use Rattle.std.specs.Prelude.{ℕ, ◌-◌, cond, List}
use Rattle.raft_log.specs.Entries.{applied_number, applied_set}
use Rattle.solo.specs.declared.header.Role.TheVariants.{Follower}
use Rattle.raft.specs.Power.{belongs, restarted}
use Rattle.solo.specs.Header.{loaded, stored}
use Rattle.raft.specs.Header.{ticks}

-- memory as power comes: the last decision that was safe as applied is applied again
unfoldable pub powered : List ℕ → ℕ → ℕ → List ℕ
powered m i n = cond (belongs i n) (applied_set (stored m (restarted (loaded m) i n (Follower (ticks 0)))) (applied_number m - 1)) m
