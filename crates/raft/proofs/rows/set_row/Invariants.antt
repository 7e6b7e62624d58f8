use Rattle.std.proofs.Common.{◌≡◌, ℕ, ◌+◌, ◌<◌, ◌≢◌, length, get_or}
use Rattle.raft.specs.Rows.{row_at}
use Rattle.raft.proofs.rows.set_row.Given as goal

abbrev pub invariant-loop-j : goal.invariant-loop-j
invariant-loop-j g l =
    (length l.memory ≡ length l.initial.memory)
    × ((k : ℕ) → k < l.j → goal.F-post g l.fn.word k (get_or l.memory (row_at l.fn.row + k) 0))
    × ((i : ℕ) → ((k : ℕ) → k < l.j → i ≢ row_at l.fn.row + k) → get_or l.memory i 0 ≡ get_or l.initial.memory i 0)
