-- What is promised of the protocol. Assumes nothing: these are statements.
use Rattle.std.specs.Prelude.{◌≡◌, ℕ, suc, ◌+◌, ◌<◌, ◌≤◌, min, max, Bool, true, false, ◌⊎◌, List, length, take, ◌≢◌}
use Rattle.protocol.specs.Lists.{All, Apart, Alike}
use Rattle.protocol.specs.Log.{Log, term_at, term_before, last_term, Covers, merge, decisions}
use Rattle.protocol.specs.History.{History, owner, Grows, Committed, Decided}
use Rattle.protocol.specs.Invariant.{AllCover, Inv}
use Rattle.protocol.specs.State.{State, state, Sound, HoldsFirst}
use Rattle.protocol.specs.Cluster.{Cluster, start, Move, vote, elect, accept, ack, settle, stop, Permitted, after, LeadsTo, Reachable, Safe}
use Rattle.protocol.specs.Letters.{TrueCommit, Known, TrueAppend, TrueRequest, TrueVote, TrueAck}

-- the start is safe, and every permitted move keeps it so
abbrev pub StartSafe : Type 0
StartSafe = (n : ℕ) → Safe n start

abbrev pub MovesKeepSafe : Type 0
MovesKeepSafe = (n : ℕ) (c : Cluster) (j : ℕ) (m : Move) → Safe n c → Permitted n c j m → Safe n (after c j m)

-- a move of one machine keeps every state of every other sound
abbrev pub OthersStaySound : Type 0
OthersStaySound =
    (n : ℕ) (c : Cluster) (j : ℕ) (m : Move) (i : ℕ) (s : State) → Safe n c → Permitted n c j m → (i ≢ j) → Sound n c.history i s → Sound n (after c j m).history i s

-- moves only add to the history
abbrev pub MovesGrow : Type 0
MovesGrow = (n : ℕ) (c d : Cluster) → Safe n c → LeadsTo n c d → Grows c.history d.history

-- leader completeness in one step: all who led between had it, and one machine both acknowledged it and voted
abbrev pub CompleteStep : Type 0
CompleteStep =
    (g : History) (t m v j : ℕ) → Inv g → t < v → term_at (g.lead t) m ≡ t → m < g.acked t j → g.voted v j ≡ true →
    AllCover g (g.lead t) m t v → Covers m (g.lead t) (g.cand v)

-- leader completeness: what is committed is covered by the log with which any later leader stood, at any later time
abbrev pub LeaderCompleteness : Type 0
LeaderCompleteness =
    (n : ℕ) (c d : Cluster) (t m v : ℕ) → Reachable n c → LeadsTo n c d → Committed n c.history t m → d.history.elected v ≡ true → t < v →
    Covers m (c.history.lead t) (d.history.cand v)

-- of what is decided now and what is decided later, one begins with the other
abbrev pub OneOrder : Type 0
OneOrder = (n : ℕ) (c d : Cluster) (xs ys : List ℕ) → Reachable n c → LeadsTo n c d → Decided n c.history xs → Decided n d.history ys → Alike xs ys

-- every decision was proposed, and none stands twice
abbrev pub DecidedOnce : Type 0
DecidedOnce = (n : ℕ) (c : Cluster) (xs : List ℕ) → Reachable n c → Decided n c.history xs → All (λ p. p < c.history.next) xs × Apart xs

-- in one term no two are elected, whatever happens between
abbrev pub OneLeader : Type 0
OneLeader =
    (n : ℕ) (c d : Cluster) (j i t : ℕ) → Reachable n c → Permitted n c j (elect t) → LeadsTo n (after c j (elect t)) d → Permitted n d i (elect t) → ⊥

-- what is committed stays committed and stays the same
abbrev pub CommittedStays : Type 0
CommittedStays =
    (n : ℕ) (c d : Cluster) (t m : ℕ) → Reachable n c → LeadsTo n c d → Committed n c.history t m →
    Committed n d.history t m × (take (suc m) (d.history.lead t) ≡ take (suc m) (c.history.lead t))

-- the leader of t says committed up to k, and l holds the leader's first k: they are known, and are first decisions of the order
abbrev pub MayApply : Type 0
MayApply =
    (n : ℕ) (c : Cluster) (t k : ℕ) (l : Log ℕ) → Reachable n c → TrueCommit n c.history t k → HoldsFirst c.history t k l →
    Known n c.history t k l × Decided n c.history (decisions (take k l))

-- in its term a machine has what it acknowledged, in memory and stable
abbrev pub AckedHeld : Type 0
AckedHeld =
    (n : ℕ) (c : Cluster) (t k j : ℕ) (s : State) → Reachable n c → Sound n c.history j s → s.term ≡ t → k ≤ c.history.acked t j → take k s.log ≡ take k (c.history.lead t)

-- after a stop a machine is in the state that was stable, and that is safe, as often as it stops
abbrev pub StopRestores : Type 0
StopRestores =
    (n : ℕ) (c : Cluster) (j : ℕ) → Reachable n c → ((after c j stop).now j ≡ c.stable j) × ((after c j stop).stable j ≡ c.stable j) × Safe n (after c j stop)

-- no stop takes a machine back before a term that it stood, voted or acknowledged in
pub record SaidIn (n : ℕ) (g : History) (j t : ℕ) (s : State) : Type 0 where
  pub stood : owner n t ≡ j → g.stood t ≡ true → t ≤ s.term
  pub voted : g.voted t j ≡ true → t ≤ s.term
  pub acked : (m : ℕ) → m < g.acked t j → t ≤ s.term

abbrev pub PromisesLast : Type 0
PromisesLast = (n : ℕ) (c : Cluster) (j t : ℕ) → Reachable n c → SaidIn n c.history j t (c.stable j)

-- letters stay true as the history grows, since they come at any later time
pub record LettersStayTrue : Type 0 where
  pub append : (n : ℕ) (g h : History) (t p q k : ℕ) (es : Log ℕ) → Grows g h → TrueAppend n g t p q k es → TrueAppend n h t p q k es
  pub request : (g h : History) (t len last : ℕ) → Grows g h → TrueRequest g t len last → TrueRequest h t len last
  pub vote : (g h : History) (f t : ℕ) (b : Bool) → Grows g h → TrueVote g f t b → TrueVote h f t b
  pub ack : (g h : History) (f t k : ℕ) → Grows g h → TrueAck g f t k → TrueAck h f t k
  pub commit : (n : ℕ) (g h : History) (t u k : ℕ) → Grows g h → t ≤ u → TrueCommit n g t k → TrueCommit n h u k

-- what a machine does on the word of a true letter of its term is permitted, and what it then says is true
pub record LettersPermit : Type 0 where
  -- a vote on a request, if the log is no further than the candidate's
  pub on_request :
      (n : ℕ) (c : Cluster) (j t : ℕ) (l : Log ℕ) (len last : ℕ) → c.now j ≡ state t l → c.stable j ≡ state t l → TrueRequest c.history t len last → c.history.elected t ≡ false →
      (last_term l < last) ⊎ ((last_term l ≡ last) × (length l ≤ len)) → Permitted n c j (vote t) × TrueVote (after c j (vote t)).history j t true
  -- entries on an append, if what stands before them is the same: they are taken in, stable, acknowledged
  pub on_append :
      (n : ℕ) (c : Cluster) (j t : ℕ) (l : Log ℕ) (p q k : ℕ) (es : Log ℕ) → Safe n c → c.now j ≡ state t l → c.stable j ≡ state t l → TrueAppend n c.history t p q k es →
      p ≤ length l → term_before l p ≡ q → LeadsTo n c (after (after (after c j (accept t p es)) j settle) j (ack t (p + length es)))
  -- and as far as they reach, what the append says is committed is known; what was known before is not cut off
  pub on_commit :
      (n : ℕ) (c : Cluster) (j t : ℕ) (l : Log ℕ) (p q k i : ℕ) (es : Log ℕ) → Safe n c → c.now j ≡ state t l → TrueAppend n c.history t p q k es → p ≤ length l →
      term_before l p ≡ q → Known n c.history t i l → Known n c.history t (max i (min k (p + length es))) (merge l p es)
