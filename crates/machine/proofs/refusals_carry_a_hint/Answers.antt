use Rattle.std.proofs.Common.{ℕ}
use Rattle.machine.proofs.refusals_carry_a_hint.Goals as goal
use Rattle.machine.proofs.Hints.{shorter_answers, by_term_answers}

pub returns : goal.returns
returns c = record { shorter = shorter_answers ℕ; by_term = by_term_answers ℕ }
