-- A machine's state, and whether it fits a history. A state is judged, not stored in the history: memory and what is stable are each judged. Assumes nothing: these are definitions.
use Rattle.std.specs.Prelude.{◌≡◌, ℕ, suc, ◌+◌, ◌<◌, ◌≤◌, true, false, length}
use Rattle.protocol.specs.Log.{Log, entry_at, term_at, term_before, UpToDate, Covers}
use Rattle.protocol.specs.History.{History, owner, Majority}
use Rattle.protocol.specs.Invariant.{Matching, AllCover}

pub record State : Type 0 where
  pub term : ℕ
  pub log : Log ℕ

abbrev pub state : ℕ → Log ℕ → State
state t l = record { term = t; log = l }

-- s has what was acknowledged at place m in term t: in that term just that, later something that covers it, if all leaders since had it
pub record HasAck (g : History) (s : State) (t m : ℕ) : Type 0 where
  pub reached : t ≤ s.term
  pub now : s.term ≡ t → (m < length s.log) × (entry_at s.log m ≡ entry_at (g.lead t) m)
  pub later : t < s.term → term_at (g.lead t) m ≡ t → AllCover g (g.lead t) m t (suc s.term) → Covers m (g.lead t) s.log

-- machine j, one of n, may be in the state s: its log matches, and what j said holds
pub record Sound (n : ℕ) (g : History) (j : ℕ) (s : State) : Type 0 where
  pub matching : Matching g s.log
  pub below : (i : ℕ) → i < length s.log → term_at s.log i ≤ s.term
  pub stands : (t : ℕ) → owner n t ≡ j → g.stood t ≡ true → t ≤ s.term
  pub votes : (t : ℕ) → g.voted t j ≡ true → t ≤ s.term
  pub acks : (t m : ℕ) → m < g.acked t j → HasAck g s t m

-- l begins with the first k entries of the log that t's leader has
pub record HoldsFirst (g : History) (t k : ℕ) (l : Log ℕ) : Type 0 where
  pub led : g.elected t ≡ true
  pub within : k ≤ length (g.lead t)
  pub long : k ≤ length l
  pub same : (i : ℕ) → i < k → entry_at l i ≡ entry_at (g.lead t) i

-- when a machine in term t with the log l may stand, vote, be elected, propose, and take in entries of its leader
pub record StandOk (n : ℕ) (g : History) (j t : ℕ) : Type 0 where
  pub own : owner n t ≡ j
  pub fresh : g.stood t ≡ false

pub record VoteOk (g : History) (t : ℕ) (l : Log ℕ) : Type 0 where
  pub stands : g.stood t ≡ true
  pub open_yet : g.elected t ≡ false
  pub up_to_date : UpToDate (g.cand t) l

pub record ElectOk (n : ℕ) (g : History) (t : ℕ) : Type 0 where
  pub stands : g.stood t ≡ true
  pub open_yet : g.elected t ≡ false
  pub most : Majority n (g.voted t)

pub record ProposeOk (g : History) (t p : ℕ) : Type 0 where
  pub leads : g.elected t ≡ true
  pub new : g.next ≤ p

-- entries es for place p of the log that t's leader has
pub record PartOf (g : History) (t p : ℕ) (es : Log ℕ) : Type 0 where
  pub led : g.elected t ≡ true
  pub within : p + length es ≤ length (g.lead t)
  pub same : (i : ℕ) → i < length es → entry_at es i ≡ entry_at (g.lead t) (p + i)

pub record AcceptOk (g : History) (t : ℕ) (l : Log ℕ) (p : ℕ) (es : Log ℕ) : Type 0 where
  pub part : PartOf g t p es
  pub no_gap : p ≤ length l
  pub prev : term_before l p ≡ term_before (g.lead t) p
