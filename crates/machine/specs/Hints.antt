-- Two ways of hinting, and what a machine with each answers to an append. Assumes nothing: these are definitions and statements.
use Rattle.std.specs.Prelude.{◌≡◌, ℕ, zero, suc, pred, ◌+◌, min, max, true, [], ◌∷◌, length, nat_le}
use Rattle.protocol.specs.Lists.{pick}
use Rattle.protocol.specs.Log.{Log, term_before, merge}
use Rattle.machine.specs.Machine.{Hint, Conf, follower, Machine, machine, ack, reject, out, outcome}
use Rattle.machine.specs.Step.{prev_matches, handle_append}

-- the log, or what stands before the last entry that the append wants there: the shorter
abbrev pub shorter : Hint
shorter len before p q = min len (pred p)

-- the largest index up to i whose term is at most t
unfoldable pub index_by_term : (ℕ → ℕ) → ℕ → ℕ → ℕ
index_by_term before t zero = 0
index_by_term before t (suc i) = pick (nat_le (before (suc i)) t) (suc i) (index_by_term before t i)

-- an index below p at which the logs may agree: the last whose term is not above q
abbrev pub by_term : Hint
by_term len before p q = index_by_term before q (min (pred p) len)

-- a machine that hints by h answers an append so, where a rejection carries `hint` of its log
abbrev pub AppendAnswers : (A : Type 0) → Hint → (Log A → ℕ → ℕ → ℕ) → Type 0
AppendAnswers A h hint =
    (c : Conf) (f : ℕ) (m : Machine A) (p q k : ℕ) (es : Log A) → c.hint ≡ h →
    handle_append c f m p q k es ≡
    pick (prev_matches m.log p q)
    (outcome (machine m.term follower true 0 (merge m.log p es) (max m.commit (min k (p + length es)))) (out f (ack m.term (p + length es)) ∷ []))
    (outcome (machine m.term follower true 0 m.log m.commit) (out f (reject m.term p (hint m.log p q)) ∷ []))

abbrev pub ShorterAnswers : Type 0 → Type 0
ShorterAnswers A = AppendAnswers A shorter (λ l p q. min (length l) (pred p))

abbrev pub ByTermAnswers : Type 0 → Type 0
ByTermAnswers A = AppendAnswers A by_term (λ l p q. index_by_term (term_before l) q (min (pred p) (length l)))
