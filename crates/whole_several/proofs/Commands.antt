-- A command goes right, whole or cut short: how far the machine has applied, or a proposal.
use Rattle.std.proofs.Common.{◌≡◌, ℕ, zero, suc, ◌<◌, ◌≤◌, Bool, true, false, ◌&&◌, eqb, ltb, leb, ◌⊎◌, List, [], ◌∷◌, ◌++◌, length, Ok, Err, Result, sym, refl, ap, ◌∙◌, subst, inl, inr, arith}
use Rattle.std.proofs.lemmas.List.{length_push, length-map}
use Rattle.std.proofs.lemmas.Bool.{le-ltb, leb-true, and_parts}
use Rattle.raft_log.specs.Entries.{last_index, values, value_fits}
use Rattle.raft.specs.declared.header.Role.TheVariants.{Leader}
use Rattle.raft.specs.declared.proposal.Refusal.{Refusal}
use Rattle.raft.specs.Header.{loaded}
use Rattle.raft.specs.Proposal.{refusal_number, taken, proposed}
use Rattle.protocol.specs.Log.{decisions}
use Rattle.machine.specs.Machine.{proposal}
use Rattle.machine.specs.Step.{step}
use Rattle.machine.specs.Maps.{map_log, map_machine, map_outcome}
use Rattle.machine.proofs.MapLogs.{log_length, decisions_map}
use Rattle.machine.specs.World.{World as Theory}
use Rattle.machine.proofs.Counts.{counts}
use Rattle.join_several.specs.Stands.{conf}
use Rattle.join_several.specs.Does.{Does}
use Rattle.join_several.proofs.Lifts.{lift_last}
use Rattle.join_several.proofs.Proposals.{values_few}
use Rattle.together.specs.House.{none_of, same, propose, how_far, nth_value}
use Rattle.together.specs.Promise.{said, next, shows, done, Ran, ran, runs, last_since, are_bytes, all_small, Machine, machine_at, World, says, to_whom, event_for, before, with_proposal, may_end}
use Rattle.together.specs.Machine.{answer}
use Rattle.together_several.specs.Machine.{after_proposal, own_step, acts}
use Rattle.together_several.specs.Entry.{own}
use Rattle.whole.proofs.Plans.{end_either}
use Rattle.together.proofs.Lists.{bytes_from, same_self}
use Rattle.whole_several.proofs.Steady.{kept_taken}
use Rattle.whole_several.proofs.Acts.{go_done, own_next}
use Rattle.whole_several.proofs.Joined.{Agrees, Joined}
use Rattle.whole_several.proofs.Moved.{Moved, Became, agrees_push}
use Rattle.whole_several.proofs.Sent.{agrees_self}
use Rattle.whole_several.proofs.Inputs.{propose_does}
use Rattle.whole.proofs.Plans.{run_none, shown_cut, shown_whole, refused_run}
use Rattle.whole.proofs.Asked.{turned_away, taken_in, full_by, ends_as, refused_ends, with_it, refused_counts}
use Rattle.whole_several.proofs.Proposed.{Asks, asked}
use Rattle.whole_several.proofs.Events.{enough, stops_moved, RightThing, up, ever, fit_now, stopped, stayed, event_runs, event_cut, event_became, event_whole, event_ended, event_silent}

on_how_far : (m : List ℕ) → own.step m (said how_far) ≡ answer m (shows (loaded m).since.0)
unfolding own own_step
on_how_far m = refl

pub on_propose : (m v : List ℕ) (p : Result (List ℕ) Refusal) → proposed m v ≡ p → own.step m (said (propose v)) ≡ after_proposal m p
unfolding own own_step
on_propose m v p e = ap (after_proposal m) e

-- machine h of the world, which is up
module _ (n k : ℕ) (v : World) (w : Theory) (j : Joined n k v w) (low : k ≤ 8589934592) (h : ℕ) (there : h < n) (is_up : (machine_at v.machines h).up ≡ true) where
  abbrev x : Machine
  x = machine_at v.machines h

  abbrev ps : List (List ℕ)
  ps = v.proposed

  -- HOW FAR
  still_now : own.step x.memory next ≡ answer x.memory done
  still_now = own_next x.memory ∙ go_done x.memory (fit_now n k v w j low h there is_up).long (j.rests h there is_up).quiet.settled (j.rests h there is_up).quiet.none_due (j.rests h there is_up).all

  shown : (a : ℕ) → runs (suc (suc a)) own x.memory x.stable (said how_far) [] [] [] ≡ ran x.memory x.stable [] [] ((loaded x.memory).since.0 ∷ []) 0
  shown a = shown_whole own x.memory x.stable (said how_far) (loaded x.memory).since.0 a (on_how_far x.memory) still_now

  pub how_far_right : RightThing n k v w (says h how_far)
  unfolding to_whom event_for before with_proposal may_end none_of
  how_far_right =
      record {
        here = there;
        whole = subst (λ (r : Ran). Moved n k h ps x.how_it_got w r true) (sym (shown 4104)) (stayed n k v w j low h there is_up ((loaded x.memory).since.0 ∷ []) 0);
        ends =
            subst (λ (r : Ran). ((eqb r.end 0 && none_of r.did) && same r.showed (last_since x.how_it_got.since ∷ [])) ≡ true) (sym (shown 4104))
            (subst (λ (a : ℕ). same ((loaded x.memory).since.0 ∷ []) (a ∷ []) ≡ true) (j.rests h there is_up).going.since (same_self ((loaded x.memory).since.0 ∷ [])));
        cut = cuts;
      }
    where
      cuts : (i : ℕ) → Moved n k h ps x.how_it_got w (runs i own x.memory x.stable (said how_far) [] [] []) false
      cuts zero = subst (λ (r : Ran). Moved n k h ps x.how_it_got w r false) (sym (run_none own x.memory x.stable (said how_far))) (stopped n k v w j low h there is_up x.memory [] 1000)
      cuts (suc zero) = subst (λ (r : Ran). Moved n k h ps x.how_it_got w r false) (sym (shown_cut own x.memory x.stable (said how_far) (loaded x.memory).since.0 (on_how_far x.memory))) (stopped n k v w j low h there is_up x.memory ((loaded x.memory).since.0 ∷ []) 1000)
      cuts (suc (suc a)) = subst (λ (r : Ran). Moved n k h ps x.how_it_got w r false) (sym (shown a)) (stopped n k v w j low h there is_up x.memory ((loaded x.memory).since.0 ∷ []) 0)

  -- A PROPOSAL
  module _ (q : List ℕ) (bytes : are_bytes q ≡ true) where
    abbrev ps₁ : List (List ℕ)
    ps₁ = ps ++ q ∷ []

    abbrev GoesSo : Ran → Bool → Type 0
    GoesSo r b = Moved n k h (with_it ps q r.end) x.how_it_got w r b

    more : (g : ℕ → List ℕ) → Agrees g ps₁ → Agrees g ps
    more g a = agrees_push ps q g a

    one_more : length ps₁ ≡ suc w.proposals
    one_more = omega (arith, length_push ps q, j.proposals)

    -- power goes before anything is done
    cut_none : GoesSo (ran x.memory x.stable [] [] [] 1000) false
    cut_none = stops_moved n k h w j.reach j.terms ps x.how_it_got x.stable (j.safe h there) (ever n k v w j low h there is_up) ps₁ more (proposal w.proposals) refl one_more (up n k v w j low h there is_up) x.memory [] 1000

    -- refused: nothing has changed
    module _ (why : Refusal) (e : proposed x.memory q ≡ Err why) where
      refused_runs : (a : ℕ) → runs (suc a) own x.memory x.stable (said (propose q)) [] [] [] ≡ ran x.memory x.stable [] [] [] (refusal_number why)
      refused_runs a = refused_run own x.memory x.stable (said (propose q)) why a (on_propose x.memory q (Err why) e)

      refused_so : (b : Bool) → Moved n k h ps x.how_it_got w (ran x.memory x.stable [] [] [] (refusal_number why)) b → (a : ℕ) → GoesSo (runs (suc a) own x.memory x.stable (said (propose q)) [] [] []) b
      refused_so b z a =
          subst (λ (r : Ran). GoesSo r b) (sym (refused_runs a))
          (subst (λ (y : List (List ℕ)). Moved n k h y x.how_it_got w (ran x.memory x.stable [] [] [] (refusal_number why)) b) (sym (refused_counts ps q why)) z)

    -- taken
    module _ (leads : (loaded x.memory).role ≡ Leader) (fits : value_fits x.memory (length q) ≡ true) (e : proposed x.memory q ≡ Ok (taken x.memory (loaded x.memory) q)) where
      abbrev m₂ : List ℕ
      m₂ = taken x.memory (loaded x.memory) q

      takes : own.step x.memory (said (propose q)) ≡ own.step m₂ next
      takes = on_propose x.memory q (Ok m₂) e ∙ sym (own_next m₂)

      take_so : (g : ℕ → List ℕ) → Agrees g ps₁ → Does n h x.memory m₂ (map_machine g (w.memory h)) (map_outcome g (step (conf n) h (w.memory h) (proposal w.proposals)))
      take_so g a = propose_does n h j.some_are j.few there w j.reach (up n k v w j low h there is_up) ps x.memory (j.rests h there is_up).going.means (j.rests h there is_up).quiet q j.proposals leads fits (bytes_from q bytes) g a (more g a)

      take_small : all_small m₂ ≡ true
      take_small = (kept_taken x.memory q fits).small (j.rests h there is_up).going.small

      counted : (r : Ran) → (r.end ≡ 0) ⊎ (r.end ≡ 1000) → with_it ps q r.end ≡ ps₁
      counted r (inl z) = ap (with_it ps q) z
      counted r (inr z) = ap (with_it ps q) z

      pub taken_over : (runs enough own x.memory x.stable (said (propose q)) [] [] []).end ≡ 0
      taken_over = event_ended n k v w j low h there is_up (proposal w.proposals) refl m₂ (said (propose q)) takes ps₁ more one_more take_so take_small

      pub taken_became : Became n k h ps₁ x.how_it_got w (runs enough own x.memory x.stable (said (propose q)) [] [] []) (proposal w.proposals)
      taken_became = event_became n k v w j low h there is_up (proposal w.proposals) refl m₂ (said (propose q)) takes ps₁ more one_more take_so take_small

      pub taken_whole : GoesSo (runs enough own x.memory x.stable (said (propose q)) [] [] []) true
      taken_whole =
          subst (λ (y : List (List ℕ)). Moved n k h y x.how_it_got w (runs enough own x.memory x.stable (said (propose q)) [] [] []) true)
          (sym (counted (runs enough own x.memory x.stable (said (propose q)) [] [] []) (inl taken_over)))
          (event_whole n k v w j low h there is_up (proposal w.proposals) refl m₂ (said (propose q)) takes ps₁ more one_more take_so take_small)

      taken_silent : (runs enough own x.memory x.stable (said (propose q)) [] [] []).showed ≡ []
      taken_silent = event_silent n k v w j low h there is_up (proposal w.proposals) refl m₂ (said (propose q)) takes ps₁ more one_more take_so take_small

      taken_cut : (a : ℕ) → GoesSo (runs (suc a) own x.memory x.stable (said (propose q)) [] [] []) false
      taken_cut a =
          subst (λ (y : List (List ℕ)). Moved n k h y x.how_it_got w (runs (suc a) own x.memory x.stable (said (propose q)) [] [] []) false)
          (sym (counted (runs (suc a) own x.memory x.stable (said (propose q)) [] [] []) ended))
          (event_cut n k v w j low h there is_up (proposal w.proposals) refl m₂ (said (propose q)) takes ps₁ more one_more take_so take_small a)
        where
          ended : ((runs (suc a) own x.memory x.stable (said (propose q)) [] [] []).end ≡ 0) ⊎ ((runs (suc a) own x.memory x.stable (said (propose q)) [] [] []).end ≡ 1000)
          ended =
              subst (λ (r : Ran). (r.end ≡ 0) ⊎ (r.end ≡ 1000)) (sym (event_runs n k v w j low h there is_up (proposal w.proposals) refl m₂ (said (propose q)) takes ps₁ more one_more take_so take_small a))
              (end_either (suc a) (acts m₂))

    -- why it may be refused as full: there were 4,096
    pub full_why : value_fits x.memory (length q) ≡ false → length q ≤ 256 → 4096 ≤ length ps
    full_why f l =
        let t = (j.rests h there is_up).going.means (nth_value ps) (agrees_self ps) in
        let many : length (decisions (map_log (nth_value ps) (w.memory h).log)) ≡ values x.memory = values_few n h x.memory (map_machine (nth_value ps) (w.memory h)) t in
        let same_many : length (decisions (map_log (nth_value ps) (w.memory h).log)) ≡ length (decisions (w.memory h).log) =
        ap (λ (y : List (List ℕ)). length y) (decisions_map (nth_value ps) (w.memory h).log) ∙ length-map (decisions (w.memory h).log) (nth_value ps) in
        let c = counts (conf n) w h (w.memory h) j.reach (inl (up n k v w j low h there is_up, refl)) in
        let long : last_index x.memory ≡ length (w.memory h).log =
        lift_last x.memory (map_log (nth_value ps) (w.memory h).log) t.log ∙ log_length (nth_value ps) (w.memory h).log in
        elim (full_by x.memory (length q) f l) [
          | inl d ↦ omega (arith, c.0, c.1, j.proposals)
          | inr d ↦ omega (arith, c.0, j.proposals)
        ]

    -- how it goes
    record ProposalGoes : Type 0 where
      whole : GoesSo (runs enough own x.memory x.stable (said (propose q)) [] [] []) true
      silent : (runs enough own x.memory x.stable (said (propose q)) [] [] []).showed ≡ []
      may : ends_as (length q) (length ps) (runs enough own x.memory x.stable (said (propose q)) [] [] []).end ≡ true
      cut : (a : ℕ) → GoesSo (runs (suc a) own x.memory x.stable (said (propose q)) [] [] []) false

    proposal_goes : Asks x.memory q → ProposalGoes
    proposal_goes (turned_away why z e) =
        record {
          whole = refused_so why e true (stayed n k v w j low h there is_up [] (refusal_number why)) 4105;
          silent = ap (λ (r : Ran). r.showed) (refused_runs why e 4105);
          may = subst (λ (r : Ran). ends_as (length q) (length ps) r.end ≡ true) (sym (refused_runs why e 4105)) (refused_ends x.memory (length q) (length ps) full_why why z);
          cut = refused_so why e false (stopped n k v w j low h there is_up x.memory [] (refusal_number why));
        }
    proposal_goes (taken_in l f e) =
        let short : length q ≤ 256 = leb-true (length q) 256 (and_parts (leb (length q) 256) (ltb (last_index x.memory) 8193 && ltb (values x.memory) 4096) f).0 in
        record { whole = taken_whole l f e; silent = taken_silent l f e; may = rw (taken_over l f e, le-ltb 256 (length q) short); cut = taken_cut l f e }

    pub propose_right : RightThing n k v w (says h (propose q))
    unfolding to_whom event_for before with_proposal may_end none_of
    propose_right =
        let z = proposal_goes (asked x.memory q) in
        record { here = there; whole = z.whole; ends = rw z.silent z.may; cut = cuts }
      where
        cuts : (a : ℕ) → GoesSo (runs a own x.memory x.stable (said (propose q)) [] [] []) false
        cuts zero = subst (λ (r : Ran). GoesSo r false) (sym (run_none own x.memory x.stable (said (propose q)))) cut_none
        cuts (suc a) = (proposal_goes (asked x.memory q)).cut a
