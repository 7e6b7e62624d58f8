-- The main promise for the machine.
use Rattle.std.proofs.Common.{◌≡◌, ℕ, ◌≤◌, false, eqb, List, [], ◌∷◌, length, sym, refl, ap, ◌∙◌, subst, arith}
use Rattle.std.proofs.lemmas.Bool.{eqb-true, false≢true}
use Rattle.raft_log.specs.View.{log_of, Tidy}
use Rattle.raft_log.specs.Block.{Entry as Row}
use Rattle.raft_log.specs.Entries.{commit_index}
use Rattle.raft_log.proofs.LogLaws.{commit_most}
use Rattle.raft_log.proofs.ViewLaws.{length_log}
use Rattle.raft.specs.Header.{loaded}
use Rattle.machine.specs.World.{blank, initial}
use Rattle.machine.proofs.Terms.{terms_initial}
use Rattle.machine.proofs.Steps.{runs_none}
use Rattle.join_several.specs.Stands.{conf, lift_log}
use Rattle.together.specs.House.{far}
use Rattle.together.specs.Promise.{Machine, machine, so_many, world, Whole}
use Rattle.together.specs.Machine.{start}
use Rattle.together_several.specs.Entry.{own}
use Rattle.together.proofs.Lengths.{length_start}
use Rattle.together.proofs.Starts.{start_at, small_start, start_last, start_applied}
use Rattle.whole.proofs.Kept.{Keeps, keeps_whole}
use Rattle.whole_several.proofs.Steady.{steady}
use Rattle.whole_several.proofs.Joined.{Safe, Joined}
use Rattle.whole_several.proofs.Worlds.{Good, whole_kept, cut_kept}
use Rattle.whole_several.proofs.Solo.{calm_alone}
use Rattle.whole.proofs.Orders.{at_so_many, length_so_many}

-- AT THE START memory is all 0
start_term : (loaded start).term.0 ≡ 0
unfolding loaded
start_term = start_at 2

start_tidy : Tidy start
start_tidy =
    record {
      entries = record {
        long = length_start;
        last = omega (arith, start_at 64);
        counts = λ i a b. absurd (omega (arith, start_last));
        rises = λ j l. absurd (omega (arith, start_last));
      };
      commit = omega (arith, start_at 65);
      applied = omega (arith, start_at 66);
    }

start_log : lift_log (log_of start) ≡ []
unfolding lift_log
start_log = none (log_of start) (length_log start ∙ start_last)
  where
    none : (rows : List Row) → length rows ≡ 0 → lift_log rows ≡ []
    none [] e = refl
    none (r ∷ rs) e = absurd (omega arith)

abbrev first : Machine
first = machine [] start false (far 0 [])

first_safe : (n : ℕ) → Safe n [] blank start (far 0 [])
first_safe n =
    record {
      tidy = start_tidy;
      small = small_start;
      log = λ g a. start_log;
      commit = let z : commit_index start ≡ 0 = omega (arith, commit_most start, start_last) in z;
      term = start_term;
      low = omega (arith, start_applied);
      reach = omega (arith, start_applied);
    }

start_joined : (many : ℕ) → 1 ≤ many → many ≤ 7 → Joined many 0 (world (so_many many first) [] [] [] []) initial
unfolding initial
start_joined many some few =
    record {
      some_are = some;
      few = few;
      number = length_so_many many first;
      reach = runs_none (conf many) initial;
      terms = terms_initial;
      proposals = refl;
      order = refl;
      wire = tt;
      up = λ h l. ap (λ (x : Machine). x.up) (at_so_many many first h l);
      safe = λ h l. subst (λ (x : Machine). Safe many [] blank x.stable x.how_it_got) (sym (at_so_many many first h l)) (first_safe many);
      rests = λ h l u. absurd (false≢true (sym (ap (λ (x : Machine). x.up) (at_so_many many first h l)) ∙ u));
      ever = λ h l. subst (λ (x : Machine). x.how_it_got.ever ≤ 0) (sym (at_so_many many first h l)) (omega arith);
    }

-- WHATEVER HAPPENS
keeps : (many : ℕ) → Keeps (eqb many 1) own (Good many)
keeps many =
    record {
      settles = λ k w l g c. calm_alone k w l (subst (λ (n : ℕ). Good n k w) (eqb-true many 1 c) g);
      whole_keeps = λ k w t l g p. whole_kept many k w g.0 g.1 (omega arith) t p;
      cut_keeps = λ k w t n l g p. cut_kept many k w g.0 g.1 (omega arith) t n p;
    }

start_is : own.start ≡ start
unfolding own
start_is = refl

pub first_joined : (many : ℕ) → 1 ≤ many → many ≤ 7 → Joined many 0 (world (so_many many (machine [] own.start false (far 0 []))) [] [] [] []) initial
first_joined many some few = subst (λ (s : List ℕ). Joined many 0 (world (so_many many (machine [] s false (far 0 []))) [] [] [] []) initial) (sym start_is) (start_joined many some few)

pub whole_own : Whole false own
whole_own = keeps_whole own Good steady keeps (λ many l₁ l₂. (initial, first_joined many l₁ l₂))
