-- A decision is applied.
use Rattle.std.specs.Prelude.{ℕ, List}
use Rattle.raft_log.specs.Entries.{applied_set}
use Rattle.solo.specs.declared.header.Role.{Role}
use Rattle.raft.specs.declared.header.Machine.{Machine}
use Rattle.raft.specs.Apply.{applied_up_to}
use Rattle.solo.specs.Header.{stored}

-- memory after decision k is applied
unfoldable pub advanced : List ℕ → Machine Role → ℕ → List ℕ
advanced m x k = applied_set (stored m (applied_up_to x k)) k
