-- What a machine with each of the two ways of hinting answers to an append. Assumes nothing.
use Rattle.std.proofs.Common.{◌+◌, min, max, true, [], ◌∷◌, length, ap}
use Rattle.protocol.specs.Lists.{pick}
use Rattle.protocol.specs.Log.{term_before, merge}
use Rattle.machine.specs.Machine.{Hint, follower, machine, ack, reject, out, outcome}
use Rattle.machine.specs.Step.{prev_matches, handle_append}
use Rattle.machine.specs.Hints.{shorter, by_term, AppendAnswers, ShorterAnswers, ByTermAnswers}

append_answers : (A : Type 0) (h : Hint) → AppendAnswers A h (λ l. h (length l) (term_before l))
unfolding handle_append
append_answers A h c f m p q k es e =
    ap (λ (g : Hint).
    pick (prev_matches m.log p q)
    (outcome (machine m.term follower true 0 (merge m.log p es) (max m.commit (min k (p + length es)))) (out f (ack m.term (p + length es)) ∷ []))
    (outcome (machine m.term follower true 0 m.log m.commit) (out f (reject m.term p (g (length m.log) (term_before m.log) p q)) ∷ []))) e

pub shorter_answers : (A : Type 0) → ShorterAnswers A
shorter_answers A = append_answers A shorter

pub by_term_answers : (A : Type 0) → ByTermAnswers A
by_term_answers A = append_answers A by_term
