-- What is still to be done after an event: make memory safe, then apply what is decided, one after the other.
use Rattle.std.specs.Prelude.{ℕ, false, cond, List, Some, None, Option, nat_lt}
use Rattle.raft_log.specs.Entries.{applied_number, applied_set, decided}
use Rattle.raft.specs.declared.header.Role.{Role}
use Rattle.raft.specs.declared.header.Machine.{Machine}
use Rattle.raft.specs.Header.{machine, stored}

abbrev pub settled : {R : Type 0} → Machine R → Machine R
settled x = machine x.size.0 x.id.0 x.term.0 x.role x.since.0 false

abbrev pub applied_up_to : {R : Type 0} → Machine R → ℕ → Machine R
applied_up_to x k = machine x.size.0 x.id.0 x.term.0 x.role k x.unsettled

-- the slot of the value that is applied next
abbrev pub due : List ℕ → Option ℕ
due m = cond (nat_lt (applied_number m) (decided m)) (Some (applied_number m)) None

-- memory after decision k is applied
unfoldable pub advanced : List ℕ → Machine Role → ℕ → List ℕ
advanced m x k = applied_set (stored m (applied_up_to x k)) k
