use Rattle.std.proofs.Common.{◌≡◌, ℕ, refl}
use Rattle.raft_log.specs.declared.Term.{Term}
use Rattle.raft_log.specs.declared.Index.{Index}
use Rattle.messages.specs.declared.Message.{Message}
use Rattle.messages.specs.declared.Message.TheVariants.{Append, AppendResponse, AppendReject, RequestVote, RequestVoteResponse, TermNotice}
use Rattle.messages.specs.Message.{Sendable}
use Rattle.scenarios.proofs.setup.letter.Goals as goal

-- only an append has bounds to keep
other_is_sendable : (s : Message ℕ) → ((t : Term) (p : Index) (q : Term) (k : Index) (n : ℕ) → s ≡ Append t p q k n → ⊥) → Sendable s
other_is_sendable (Append t p q k n) never = absurd (never t p q k n refl)
other_is_sendable (AppendResponse t i) never = tt
other_is_sendable (AppendReject t p h) never = tt
other_is_sendable (RequestVote t i q) never = tt
other_is_sendable (RequestVoteResponse t b) never = tt
other_is_sendable (TermNotice t) never = tt

pub letter_of-requires : goal.letter_of-requires
letter_of-requires c = other_is_sendable c.args.message c.in_default.not-Append
