-- What letters say, and when it is true of the history; what a machine may know to be committed. Growth of the history keeps each. Assumes nothing: these are definitions.
use Rattle.std.specs.Prelude.{◌≡◌, ℕ, suc, ◌<◌, ◌≤◌, Bool, true, false, ◌⊎◌, length}
use Rattle.protocol.specs.Log.{Log, entry_at, content_at, term_before, last_term}
use Rattle.protocol.specs.History.{History, Committed}
use Rattle.protocol.specs.State.{PartOf}

-- something of term t or before is committed, at k entries or more
pub record Commits (n : ℕ) (g : History) (t k : ℕ) : Type 0 where
  pub term : ℕ
  pub at : ℕ
  pub before : term ≤ t
  pub done : Committed n g term at
  pub reach : k ≤ suc at

-- the leader of t says that k entries are committed
abbrev pub TrueCommit : ℕ → History → ℕ → ℕ → Type 0
TrueCommit n g t k = (k ≡ 0) ⊎ Commits n g t k

-- the first k entries of l are what was committed
pub record Backed (n : ℕ) (g : History) (t k : ℕ) (l : Log ℕ) : Type 0 where
  pub why : Commits n g t k
  pub front : (i : ℕ) → i < k → i < why.at → entry_at l i ≡ entry_at (g.lead why.term) i
  pub contents : (i : ℕ) → i < k → content_at l i ≡ content_at (g.lead why.term) i

-- a machine in term t with the log l may hold its first k entries for committed
pub record Known (n : ℕ) (g : History) (t k : ℕ) (l : Log ℕ) : Type 0 where
  pub long : k ≤ length l
  pub right : (k ≡ 0) ⊎ Backed n g t k l

-- an append of t's leader: term, entries before, term of the last of them, commit, entries
pub record TrueAppend (n : ℕ) (g : History) (t p q k : ℕ) (es : Log ℕ) : Type 0 where
  pub part : PartOf g t p es
  pub prev : q ≡ term_before (g.lead t) p
  pub commit : TrueCommit n g t k

-- a request for votes: term, length of the log, its last term
pub record TrueRequest (g : History) (t len last : ℕ) : Type 0 where
  pub stands : g.stood t ≡ true
  pub long : len ≡ length (g.cand t)
  pub ends : last ≡ last_term (g.cand t)

-- a vote of machine f: term, granted; one that is late for the election counts for nothing
abbrev pub TrueVote : History → ℕ → ℕ → Bool → Type 0
TrueVote g f t true = (g.voted t f ≡ true) ⊎ (g.elected t ≡ true)
TrueVote g f t false = Unit {0}

-- an acknowledgement of machine f: term, up to where
abbrev pub TrueAck : History → ℕ → ℕ → ℕ → Type 0
TrueAck g f t k = k ≤ g.acked t f
