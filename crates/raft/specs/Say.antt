-- Letters that are due: at most one to each machine, by its kind; the letter itself is made when it flies.
use Rattle.std.specs.Prelude.{◌≡◌, ℕ, cond, List, ◌==◌, Some, None, Option, Result, slice_set}
use Rattle.std.specs.Result.{result_ok}
use Rattle.raft.specs.declared.header.Role.{Role}
use Rattle.raft.specs.declared.header.Machine.{Machine}
use Rattle.raft.specs.declared.say.Due.{Due}
use Rattle.raft.specs.declared.say.NothingDue.{NothingDue}
use Rattle.raft.specs.declared.say.Due.TheVariants.{Append, RequestVote, TellTerm, Grant, Deny, Accept, Reject}
use Rattle.raft.specs.declared.say.Answer.{Answer}
use Rattle.raft.specs.declared.say.Answer.TheVariants.{Accepted, Rejected}
use Rattle.raft.specs.Rows.{row_set, only, others}

-- the word of a kind; 0 where nothing is due
abbrev pub due_word : Due → ℕ
due_word Append = 1
due_word RequestVote = 2
due_word TellTerm = 3
due_word Grant = 4
due_word Deny = 5
due_word Accept = 6
due_word Reject = 7

-- the kind that a word stands for, if it stands for one
abbrev pub due_of : ℕ → Option Due
due_of w =
    cond (w == 1) (Some Append)
    (cond (w == 2) (Some RequestVote)
    (cond (w == 3) (Some TellTerm) (cond (w == 4) (Some Grant) (cond (w == 5) (Some Deny) (cond (w == 6) (Some Accept) (cond (w == 7) (Some Reject) None))))))

abbrev pub ReadsAs : ℕ → Result Due NothingDue → Type 0
ReadsAs w r = result_ok r ≡ due_of w

-- a letter to each other machine
unfoldable pub said_to_others : List ℕ → Machine Role → Due → List ℕ
said_to_others m x d = row_set m 29 (others x (due_word d))

-- a letter to machine j alone
unfoldable pub said_to : List ℕ → ℕ → Due → List ℕ
said_to m j d = row_set m 29 (only j (due_word d))

-- an answer to machine j, with the numbers that it carries
unfoldable pub answered : List ℕ → ℕ → Due → ℕ → ℕ → List ℕ
answered m j d a b = slice_set (slice_set (said_to m j d) 36 a) 37 b

-- what an append is answered
abbrev pub answer_said : List ℕ → ℕ → Answer → List ℕ
answer_said m j (Accepted i) = answered m j Accept i.0 0
answer_said m j (Rejected p h) = answered m j Reject p.0 h.0
