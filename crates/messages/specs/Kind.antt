-- The byte that stands for a kind of letter.
use Rattle.std.specs.Prelude.{◌≡◌, ℕ, ◌<◌, Result, MatchResult}
use Rattle.std.proofs.Common.{◌⊎◌}
use Rattle.messages.specs.declared.kind.Kind.{Kind}
use Rattle.messages.specs.declared.kind.Kind.TheVariants.{Append, AppendResponse, AppendReject, RequestVote, RequestVoteResponse, TermNotice}
use Rattle.messages.specs.declared.kind.UnknownKind.{UnknownKind}

abbrev pub kind_byte : Kind → ℕ
kind_byte Append = 1
kind_byte AppendResponse = 2
kind_byte AppendReject = 3
kind_byte RequestVote = 4
kind_byte RequestVoteResponse = 5
kind_byte TermNotice = 6

-- the kind that a byte stands for, or a byte that stands for none
abbrev pub Decodes : ℕ → Result Kind UnknownKind → Type 0
Decodes byte r = MatchResult r (λ kind. kind_byte kind ≡ byte) (λ e. (byte ≡ 0) ⊎ (6 < byte))
