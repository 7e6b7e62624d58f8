-- What a machine sends comes back from its bytes.
use Rattle.std.proofs.Common.{ℕ, ◌+◌, List, arith}
use Rattle.raft_log.specs.Bytes.{Words}
use Rattle.raft_log.proofs.BlockWrites.{length_log_entries}
use Rattle.raft_log.proofs.LogFits.{log_entries_fit}
use Rattle.messages.specs.declared.Message.{Message}
use Rattle.messages.specs.declared.Message.TheVariants.{Append, AppendResponse, AppendReject, RequestVote, RequestVoteResponse, TermNotice}
use Rattle.messages.specs.Letter.{LetterFits}
use Rattle.messages.specs.Message.{letter_from, Numbers, Sendable, SentComesBack}
use Rattle.messages.proofs.RoundTrip.{round_trip}

sent_fits : (m : List ℕ) (s : Message ℕ) → Words m → Numbers s → Sendable s → LetterFits (letter_from m s)
sent_fits m (Append t p q k n) w f g =
    (f.0, f.1, f.2, f.3, omega (arith, length_log_entries m (p.0 + 1) n, g.1), log_entries_fit m (p.0 + 1) n w)
sent_fits m (AppendResponse t i) w f g = f
sent_fits m (AppendReject t p h) w f g = f
sent_fits m (RequestVote t i q) w f g = f
sent_fits m (RequestVoteResponse t b) w f g = f
sent_fits m (TermNotice t) w f g = f

pub sent_comes_back : SentComesBack
sent_comes_back m s w f g = round_trip (letter_from m s) (sent_fits m s w f g)
