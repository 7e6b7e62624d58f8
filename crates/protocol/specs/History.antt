-- What happened in each term, for good: who stood, voted, led and acknowledged. Ghost: no machine has it. Assumes nothing: these are definitions.
use Rattle.std.specs.Prelude.{◌≡◌, ℕ, zero, suc, ◌*◌, ◌%◌, ◌<◌, ◌≤◌, max, Bool, true, false, ◌⊎◌, List, [], ◌∷◌, ◌++◌, length, take, nat_lt}
use Rattle.std.proofs.Math.Option.{some}
use Rattle.protocol.specs.Lists.{pick, upd, upd2}
use Rattle.protocol.specs.Log.{entry, Log, entry_at, term_at, renew, decisions}

-- how many below n
unfoldable pub count : (ℕ → Bool) → ℕ → ℕ
count f zero = 0
count f (suc n) = pick (f n) (suc (count f n)) (count f n)

-- more than half of n
unfoldable pub Majority : ℕ → (ℕ → Bool) → Type 0
Majority n f = n < 2 * count f n

-- who may stand and lead in term t, of n machines
unfoldable pub owner : ℕ → ℕ → ℕ
owner zero t = 0
owner (suc n) t = t % suc n

pub record History : Type 0 where
  -- the term's owner stood, with this log
  pub stood : ℕ → Bool
  pub cand : ℕ → Log ℕ
  -- it was elected, and has led with this log
  pub elected : ℕ → Bool
  pub lead : ℕ → Log ℕ
  -- in a term, a machine voted
  pub voted : ℕ → ℕ → Bool
  -- in a term, a machine acknowledged so many first entries of the leader's log
  pub acked : ℕ → ℕ → ℕ
  -- the numbers of proposals from here on are new
  pub next : ℕ

unfoldable pub no_history : History
no_history = record { stood = λ _. false; cand = λ _. []; elected = λ _. false; lead = λ _. []; voted = λ _ _. false; acked = λ _ _. 0; next = 0 }

-- the five ways in which it grows
abbrev pub after_stand : History → ℕ → Log ℕ → History
after_stand g t c = record { stood = upd g.stood t true; cand = upd g.cand t c; elected = g.elected; lead = g.lead; voted = g.voted; acked = g.acked; next = g.next }

abbrev pub after_vote : History → ℕ → ℕ → History
after_vote g j t = record { stood = g.stood; cand = g.cand; elected = g.elected; lead = g.lead; voted = upd2 g.voted t j true; acked = g.acked; next = g.next }

abbrev pub after_elect : History → ℕ → History
after_elect g t =
    record { stood = g.stood; cand = g.cand; elected = upd g.elected t true; lead = upd g.lead t (renew t (g.cand t)); voted = g.voted; acked = g.acked; next = g.next }

abbrev pub extended : History → ℕ → ℕ → Log ℕ
extended g t p = g.lead t ++ entry t (some p) ∷ []

abbrev pub after_propose : History → ℕ → ℕ → History
after_propose g t p =
    record { stood = g.stood; cand = g.cand; elected = g.elected; lead = upd g.lead t (extended g t p); voted = g.voted; acked = g.acked; next = suc p }

abbrev pub after_ack : History → ℕ → ℕ → ℕ → History
after_ack g j t k =
    record { stood = g.stood; cand = g.cand; elected = g.elected; lead = g.lead; voted = g.voted; acked = upd2 g.acked t j (max (g.acked t j) k); next = g.next }

-- h came of g: nothing is taken back, and a leader's log only gets longer at its end
pub record Grows (g h : History) : Type 0 where
  pub stood_on : (t : ℕ) → g.stood t ≡ true → h.stood t ≡ true
  pub same_cand : (t : ℕ) → g.stood t ≡ true → h.cand t ≡ g.cand t
  pub led : (t : ℕ) → g.elected t ≡ true → h.elected t ≡ true
  pub longer : (t : ℕ) → g.elected t ≡ true → length (g.lead t) ≤ length (h.lead t)
  pub front : (t i : ℕ) → g.elected t ≡ true → i < length (g.lead t) → entry_at (h.lead t) i ≡ entry_at (g.lead t) i
  pub voted_on : (t j : ℕ) → g.voted t j ≡ true → h.voted t j ≡ true
  pub more_acks : (t j : ℕ) → g.acked t j ≤ h.acked t j

-- the entry at place m of the log that t's leader has is of term t, and more than half acknowledged it
pub record Committed (n : ℕ) (g : History) (t m : ℕ) : Type 0 where
  pub led : g.elected t ≡ true
  pub within : m < length (g.lead t)
  pub own_term : term_at (g.lead t) m ≡ t
  pub most : Majority n (λ j. nat_lt m (g.acked t j))

-- xs are the first decisions of something committed
pub record Front (n : ℕ) (g : History) (xs : List ℕ) : Type 0 where
  pub term : ℕ
  pub at : ℕ
  pub upto : ℕ
  pub done : Committed n g term at
  pub reach : upto ≤ suc at
  pub is : xs ≡ decisions (take upto (g.lead term))

-- xs are first decisions of the order
abbrev pub Decided : ℕ → History → List ℕ → Type 0
Decided n g xs = (xs ≡ []) ⊎ Front n g xs
