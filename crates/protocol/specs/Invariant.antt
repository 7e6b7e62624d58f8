-- What stays true of a history. Assumes nothing: these are definitions.
use Rattle.std.specs.Prelude.{◌≡◌, ℕ, ◌<◌, ◌≤◌, true, length, ◌≢◌}
use Rattle.std.proofs.Math.Option.{none, some}
use Rattle.protocol.specs.Log.{Log, entry_at, term_at, content_at, renew_index, Covers}
use Rattle.protocol.specs.History.{History, Majority}

-- up to place i, the log l is that of the leader of its entry at i
pub record Match (g : History) (l : Log ℕ) (i : ℕ) : Type 0 where
  pub led : g.elected (term_at l i) ≡ true
  pub within : i < length (g.lead (term_at l i))
  pub same : (k : ℕ) → k ≤ i → entry_at l k ≡ entry_at (g.lead (term_at l i)) k

abbrev pub Matching : History → Log ℕ → Type 0
Matching g l = (i : ℕ) → i < length l → Match g l i

-- the log l of a leader of term t that stood with c
pub record Leads (t : ℕ) (c l : Log ℕ) : Type 0 where
  pub reach : renew_index c < length l
  pub front : (i : ℕ) → i < renew_index c → entry_at l i ≡ entry_at c i
  pub own : (i : ℕ) → renew_index c ≤ i → i < length l → term_at l i ≡ t
  pub empty : content_at l (renew_index c) ≡ none

-- all who were elected after term lo and before hi stood with a log that covers p at m
abbrev pub AllCover : History → Log ℕ → ℕ → ℕ → ℕ → Type 0
AllCover g p m lo hi = (u : ℕ) → lo < u → u < hi → g.elected u ≡ true → Covers m p (g.cand u)

-- the invariant of histories; it knows nothing of quorums
pub record Inv (g : History) : Type 0 where
  pub match_lead : (t : ℕ) → g.elected t ≡ true → Matching g (g.lead t)
  pub match_cand : (t : ℕ) → g.stood t ≡ true → Matching g (g.cand t)
  pub cand_below : (t i : ℕ) → g.stood t ≡ true → i < length (g.cand t) → term_at (g.cand t) i < t
  pub stood_first : (t : ℕ) → g.elected t ≡ true → g.stood t ≡ true
  pub leads : (t : ℕ) → g.elected t ≡ true → Leads t (g.cand t) (g.lead t)
  pub vote_stood : (t j : ℕ) → g.voted t j ≡ true → g.stood t ≡ true
  pub ack_led : (t j m : ℕ) → m < g.acked t j → g.elected t ≡ true
  pub ack_long : (t j m : ℕ) → m < g.acked t j → m < length (g.lead t)
  -- whom j votes for has what j acknowledged before of an entry of the term itself, if all leaders between had it
  pub vote_cover : (v j t m : ℕ) → g.voted v j ≡ true → t < v → m < g.acked t j → term_at (g.lead t) m ≡ t → AllCover g (g.lead t) m t v → Covers m (g.lead t) (g.cand v)

-- who was elected had the votes of more than half
pub record Elections (n : ℕ) (g : History) : Type 0 where
  pub most : (t : ℕ) → g.elected t ≡ true → Majority n (g.voted t)

-- the proposals in leaders' logs were made, and none stands twice
pub record Fresh (g : History) : Type 0 where
  pub low : (t : ℕ) → g.elected t ≡ true → (i p : ℕ) → i < length (g.lead t) → content_at (g.lead t) i ≡ some p → p < g.next
  pub apart : (t : ℕ) → g.elected t ≡ true → (i k p : ℕ) → i < k → k < length (g.lead t) → content_at (g.lead t) i ≡ some p → content_at (g.lead t) k ≢ some p
