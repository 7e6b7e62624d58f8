-- A letter that is due, and the numbers of an answer, leave the struct and what was applied.
use Rattle.std.proofs.Common.{◌≡◌, ℕ, ◌<◌, ◌≤◌, List, get_or, ◌∙◌, arith}
use Rattle.raft_log.specs.Entries.{applied_number}
use Rattle.raft_log.proofs.LogLaws.{same_applied}
use Rattle.raft.specs.declared.header.Role.{Role}
use Rattle.raft.specs.declared.header.Machine.{Machine as Header}
use Rattle.raft.specs.declared.say.Due.{Due}
use Rattle.raft.specs.Header.{loaded, stored}
use Rattle.raft.specs.Say.{said_to, answered}
use Rattle.raft.proofs.HeaderLaws.{stored_other, loaded_alike}
use Rattle.join_several.proofs.Frames.{answered_other, due_row_before, due_row_behind}

pub said_before : (m : List ℕ) (j : ℕ) (d : Due) (i : ℕ) → i < 29 → get_or (said_to m j d) i 0 ≡ get_or m i 0
unfolding said_to
said_before m j d i l = due_row_before m _ i l

pub said_behind : (m : List ℕ) (j : ℕ) (d : Due) (i : ℕ) → 36 ≤ i → get_or (said_to m j d) i 0 ≡ get_or m i 0
unfolding said_to
said_behind m j d i l = due_row_behind m _ i l

pub said_loaded : (m : List ℕ) (j : ℕ) (d : Due) → loaded (said_to m j d) ≡ loaded m
said_loaded m j d = loaded_alike m (said_to m j d) (λ i l. said_before m j d i (omega arith))

pub said_applied : (m : List ℕ) (j : ℕ) (d : Due) → applied_number (said_to m j d) ≡ applied_number m
said_applied m j d = same_applied m (said_to m j d) (said_behind m j d 66 (omega arith))

pub answered_loaded : (m : List ℕ) (j : ℕ) (d : Due) (a b : ℕ) → loaded (answered m j d a b) ≡ loaded m
answered_loaded m j d a b =
    loaded_alike m (answered m j d a b) (λ i l. answered_other m j d a b i (omega arith) (omega arith) ∙ said_before m j d i (omega arith))

pub answered_applied : (m : List ℕ) (j : ℕ) (d : Due) (a b : ℕ) → applied_number (answered m j d a b) ≡ applied_number m
answered_applied m j d a b =
    same_applied m (answered m j d a b) (answered_other m j d a b 66 (omega arith) (omega arith) ∙ said_behind m j d 66 (omega arith))

pub stored_applied : (m : List ℕ) (y : Header Role) → applied_number (stored m y) ≡ applied_number m
stored_applied m y = same_applied m (stored m y) (stored_other m y 66 (omega arith))
