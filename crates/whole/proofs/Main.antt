-- The main promise for the machine.
use Rattle.std.proofs.Common.{◌≡◌, ℕ, ◌≤◌, false, eqb, List, [], sym, refl, subst, arith}
use Rattle.std.proofs.lemmas.Bool.{false≢true}
use Rattle.raft_log.proofs.LogLaws.{commit_most}
use Rattle.solo.specs.Header.{loaded}
use Rattle.together.specs.House.{every, all_apart, far}
use Rattle.together.specs.Promise.{Machine, machine, so_many, world, Whole}
use Rattle.together.specs.Machine.{start}
use Rattle.together.specs.Entry.{own}
use Rattle.together.proofs.Lengths.{length_start}
use Rattle.together.proofs.Starts.{start_at, start_last, start_applied, start_values}
use Rattle.whole.proofs.Kept.{Keeps, keeps_whole}
use Rattle.whole.proofs.Steady.{steady}
use Rattle.whole.proofs.Holds.{Holds}
use Rattle.whole.proofs.Worlds.{Sound, Good, whole_kept, cut_kept}
use Rattle.whole.proofs.Solo.{calm_alone}
use Rattle.whole.proofs.Orders.{at_so_many, length_so_many}

-- AT THE START memory is all 0
start_term : (loaded start).term.0 ≡ 0
unfolding loaded
start_term = start_at 2

start_holds : Holds [] [] start
start_holds =
    record {
      long = length_start;
      roomy = omega (arith, start_last);
      count = start_values;
      all = omega (arith, start_last, commit_most start);
      held = λ i l. absurd (omega arith);
    }

abbrev first : Machine
first = machine [] start false (far 0 [])

first_sound : (many h : ℕ) → Sound many h 0 [] [] first
first_sound many h =
    record {
      stable = record { holds = start_holds; applied = omega (arith, start_applied); term = omega (arith, start_term) };
      ever = omega arith;
      live = λ u. absurd (false≢true u);
    }

start_good : (many : ℕ) → many ≤ 7 → Good many 0 (world (so_many many first) [] [] [] [])
unfolding every all_apart
start_good many few =
    record {
      few = few;
      number = length_so_many many first;
      wire = refl;
      ordered = refl;
      short = omega arith;
      all = λ h l. subst (λ (x : Machine). Sound many h 0 [] [] x) (sym (at_so_many many first h l)) (first_sound many h);
    }

-- WHATEVER HAPPENS
keeps : (many : ℕ) → Keeps (eqb many 1) own (Good many)
keeps many =
    record {
      settles = λ k w l g c. calm_alone many k w l g c;
      whole_keeps = λ k w t l g p. whole_kept many k w g t p;
      cut_keeps = λ k w t n l g p. cut_kept many k w g t n p;
    }

start_is : own.start ≡ start
unfolding own
start_is = refl

pub whole_own : Whole false own
whole_own =
    keeps_whole own Good steady keeps
    (λ many l₁ l₂. subst (λ (s : List ℕ). Good many 0 (world (so_many many (machine [] s false (far 0 []))) [] [] [] [])) (sym start_is) (start_good many l₂))
