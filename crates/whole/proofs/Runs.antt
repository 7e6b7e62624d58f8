-- How each event goes, for one machine, whole or cut short: what it applies is right, and what is safe and in memory stays so.
use Rattle.std.proofs.Common.{◌≡◌, ℕ, zero, suc, ◌+◌, ◌<◌, ◌≤◌, true, false, ◌&&◌, ltb, leb, ◌≢◌, ◌⊎◌, List, [], ◌∷◌, ◌++◌, length, Ok, Err, Result, sym, refl, ap, ◌∙◌, subst, inl, inr, arith}
use Rattle.std.proofs.lemmas.List.{length_push}
use Rattle.std.proofs.lemmas.Bool.{le-ltb, leb-true, and_parts, cond_both}
use Rattle.raft_log.specs.Entries.{last_index, applied_number, values, value_fits, value_appended, commit_raised}
use Rattle.raft_log.proofs.AppendLaws.{roomy_last, appended_applied}
use Rattle.raft_log.proofs.LogLaws.{commit_raised_applied}
use Rattle.solo.specs.declared.header.Role.{Role}
use Rattle.solo.specs.declared.header.Role.TheVariants.{Leader}
use Rattle.raft.specs.declared.header.Machine.{Machine}
use Rattle.raft.specs.declared.proposal.Refusal.{Refusal}
use Rattle.raft.specs.declared.proposal.Refusal.TheVariants.{NotNow, TooLong, Full}
use Rattle.solo.specs.Header.{loaded}
use Rattle.solo.specs.Power.{powered}
use Rattle.solo.specs.Election.{ticked}
use Rattle.raft.specs.Rows.{most_of}
use Rattle.solo.specs.Proposal.{own_acked, taken, proposed}
use Rattle.raft.specs.Proposal.{refusal_number, with_unsettled}
use Rattle.solo.proofs.HeaderLaws.{loaded_held, loaded_stored, length_stored, stored_applied}
use Rattle.together.specs.House.{every, propose, how_far, Far, far, all_in_turn, far_after, by_order, an_order, begins}
use Rattle.together.specs.Promise.{Event, on, said, tick, next, shows, done, Ran, ran, runs, are_bytes}
use Rattle.together.specs.Machine.{answer, after_proposal, acts, own_step}
use Rattle.together.specs.Entry.{own}
use Rattle.whole.proofs.Plans.{runs_event}
use Rattle.whole.proofs.Acts.{Long, rest, acts_done, own_planned}
use Rattle.whole.proofs.Holds.{Holds, holds_decided, holds_later}
use Rattle.whole.proofs.Going.{made, made_fine, settled_fine, made_ends, Stable, Going, Rests, Fine, fine_none}
use Rattle.whole.proofs.Events.{tick_going, taken_going, power_going, stable_later}
use Rattle.whole.proofs.Orders.{begins_self, begins_more, order_later, order_more}
use Rattle.whole.proofs.Plans.{run_none, shown_cut, shown_whole, refused_run}
use Rattle.whole.proofs.Acts.{own_next}
use Rattle.whole.proofs.Asked.{turned_away, taken_in, full_by, ends_as, refused_ends, with_it, refused_counts}
use Rattle.whole.proofs.Proposed.{Asks, asked}

-- how what is proposed and the order may grow: the order only where one machine is alone
pub record Grown (many : ℕ) (ps : List (List ℕ)) (o : List ℕ) (ps₁ : List (List ℕ)) (o₁ : List ℕ) : Type 0 where
  pub ordered : an_order ps₁ o₁ ≡ true
  pub onward : begins o o₁ ≡ true
  pub short : length o₁ ≤ length ps₁
  pub others : (many ≡ 1) ⊎ ((o ≡ o₁) × ((m : List ℕ) → Holds ps o m → Holds ps₁ o m))

-- how an event went
pub record Went (many h k : ℕ) (ps : List (List ℕ)) (o : List ℕ) (f : Far) (r : Ran) (ps₁ : List (List ℕ)) : Type 0 where
  pub o₁ : List ℕ
  pub grown : Grown many ps o ps₁ o₁
  pub flew : r.flew ≡ []
  pub turn : all_in_turn f r.did ≡ true
  pub by : every (by_order ps₁ o₁) r.did ≡ true
  pub ever : (far_after f r.did).ever ≤ length o₁
  pub stable : Stable many h k ps₁ o₁ r.stable (far_after f r.did)
  pub stays : (r.end ≡ 1000) ⊎ Rests many h k ps₁ o₁ r.memory (far_after f r.did)

abbrev pub went_fine : (many h k : ℕ) (ps : List (List ℕ)) (o : List ℕ) (f : Far) (r : Ran) (ps₁ : List (List ℕ)) (o₁ : List ℕ) → Grown many ps o ps₁ o₁ → Fine many h k ps₁ o₁ f r →
    Went many h k ps o f r ps₁
went_fine many h k ps o f r ps₁ o₁ g z =
    record {
      o₁ = o₁;
      grown = g;
      flew = z.flew;
      turn = z.turn;
      by = z.by;
      ever = z.ever;
      stable = z.stable;
      stays = elim z.stays [ inl e ↦ inl e | inr e ↦ inr e.1 ];
    }

module _ (many h k : ℕ) (ps : List (List ℕ)) (o : List ℕ) (ordered : an_order ps o ≡ true) (short : length o ≤ length ps) where
  pub grown_none : Grown many ps o ps o
  grown_none = record { ordered = ordered; onward = begins_self o; short = short; others = inr (refl, λ m g. g) }

  grown_later : (v : List ℕ) → Grown many ps o (ps ++ v ∷ []) o
  grown_later v =
      record { ordered = order_later ps o v ordered; onward = begins_self o; short = omega (arith, length_push ps v); others = inr (refl, λ m g. holds_later ps o ordered v m g) }

  grown_both : (v : List ℕ) → many ≡ 1 → Grown many ps o (ps ++ v ∷ []) (o ++ length ps ∷ [])
  grown_both v e =
      record { ordered = order_more ps o v ordered; onward = begins_more o (length ps); short = omega (arith, length_push ps v, length_push o (length ps)); others = inl e }

  -- an event after which the order is as it was
  quiet_event : (n : ℕ) (ev : Event) (m m₁ s : List ℕ) (f : Far) → own.step m ev ≡ own.step m₁ next → Going many h k ps o m₁ f → Stable many h k ps o s f →
      Fine many h k ps o f (runs n own m s ev [] [] [])
  quiet_event zero ev m m₁ s f e g g₁ =
      subst (λ (r : Ran). Fine many h k ps o f r) (sym (run_none own m s ev)) (fine_none many h k ps o m s f 1000 g₁ g.ever (inl refl))
  quiet_event (suc n) ev m m₁ s f e g g₁ =
      subst (λ (r : Ran). Fine many h k ps o f r) (sym (runs_event own Long acts rest own_planned n ev m m₁ s g.holds.long e))
      (made_fine many h k ps o (suc n) m₁ s f g g₁)

-- ended, and nothing shown
pub record Quiet (r : Ran) : Type 0 where
  pub over : r.end ≡ 0
  pub still : r.showed ≡ []

event_ends : (n : ℕ) (ev : Event) (m m₁ s : List ℕ) → 4098 ≤ n → Long m₁ → own.step m ev ≡ own.step m₁ next → Quiet (runs (suc n) own m s ev [] [] [])
event_ends n ev m m₁ s l long e =
    subst (λ (r : Ran). Quiet r) (sym (runs_event own Long acts rest own_planned n ev m m₁ s long e)) (record { over = made_ends (suc n) m₁ s (omega arith); still = refl })

-- what the machine answers
pub on_power : (s : List ℕ) (h many : ℕ) → own.step s (on h many) ≡ own.step (powered s h many) next
unfolding own own_step
on_power s h many = refl

pub on_tick : (m : List ℕ) → own.step m tick ≡ own.step (ticked m) next
unfolding own own_step
on_tick m = refl

on_how_far : (m : List ℕ) → own.step m (said how_far) ≡ answer m (shows (loaded m).since.0)
unfolding own own_step
on_how_far m = refl

on_propose : (m v : List ℕ) (p : Result (List ℕ) Refusal) → proposed m v ≡ p → own.step m (said (propose v)) ≡ after_proposal m p
unfolding own own_step
on_propose m v p e = ap (after_proposal m) e

pub taken_applied : (m v : List ℕ) → value_fits m (length v) ≡ true → Long m → applied_number (taken m (loaded m) v) ≡ applied_number m
unfolding taken own_acked
taken_applied m v fits long =
    let t : ℕ = (loaded m).term.0 in
    stored_applied (own_acked (value_appended m t v) (loaded m) (last_index m + 1)) (with_unsettled (loaded m))
    ∙ cond_both (most_of 1 (loaded m).size.0) (commit_raised (value_appended m t v) (last_index m + 1)) (value_appended m t v) (λ y. applied_number y ≡ applied_number m)
    (λ _. commit_raised_applied (value_appended m t v) (last_index m + 1) ∙ appended_applied m t v long fits) (λ _. appended_applied m t v long fits)

-- POWER
module _ (many h k : ℕ) (ps : List (List ℕ)) (o : List ℕ) (ordered : an_order ps o ≡ true) (short : length o ≤ length ps)
    (s : List ℕ) (reach : ℕ) (g : Stable many h k ps o s (far reach [])) (ever : reach ≤ length o) (there : h < many) (few : many ≤ 7) where
  pub went_power : (n : ℕ) → Went many h (suc k) ps o (far reach []) (runs n own s s (on h many) [] [] []) ps
  went_power n =
      went_fine many h (suc k) ps o (far reach []) _ ps o (grown_none many h (suc k) ps o ordered short)
      (quiet_event many h (suc k) ps o ordered short n (on h many) s (powered s h many) s (far reach []) (on_power s h many)
      (power_going many h k ps o s reach g ever there few (suc k) (omega arith)) (stable_later many h k (suc k) ps o s (far reach []) (omega arith) g))

  pub ends_power : (n : ℕ) → 4098 ≤ n → Quiet (runs (suc n) own s s (on h many) [] [] [])
  ends_power n l =
      event_ends n (on h many) s (powered s h many) s l (power_going many h k ps o s reach g ever there few (suc k) (omega arith)).holds.long (on_power s h many)

module _ (many h k : ℕ) (ps : List (List ℕ)) (o : List ℕ) (ordered : an_order ps o ≡ true) (short : length o ≤ length ps)
    (m s : List ℕ) (f : Far) (r : Rests many h k ps o m f) (g : Stable many h k ps o s f) where
  stable : Stable many h (suc k) ps o s f
  stable = stable_later many h k (suc k) ps o s f (omega arith) g

  long : Long m
  long = r.going.holds.long

  -- as it was, one thing later
  rests_later : Rests many h (suc k) ps o m f
  rests_later =
      let x = r.going in
      record {
        going = record { holds = x.holds; size = x.size; id = x.id; leads = x.leads; term = omega (arith, x.term); since = x.since; turn = x.turn; low = x.low; reach = x.reach; ever = x.ever; reached = x.reached; settles = x.settles };
        still = r.still;
        all = r.all;
      }

  -- A TICK
  pub went_tick : (n : ℕ) → Fine many h (suc k) ps o f (runs n own m s tick [] [] [])
  went_tick n =
      quiet_event many h (suc k) ps o ordered short n tick m (ticked m) s f (on_tick m) (tick_going many h k ps o m f r (suc k) (omega arith)) stable

  pub ends_tick : (n : ℕ) → 4098 ≤ n → Quiet (runs (suc n) own m s tick [] [] [])
  ends_tick n l = event_ends n tick m (ticked m) s l (tick_going many h k ps o m f r (suc k) (omega arith)).holds.long (on_tick m)

  -- nothing is due
  idle : own.step m next ≡ answer m done
  idle = own_planned.none m long (acts_done m long r.still (omega (arith, holds_decided ps o m r.going.holds, r.all)))

  -- HOW FAR
  pub shown : (n : ℕ) → runs (suc (suc n)) own m s (said how_far) [] [] [] ≡ ran m s [] [] ((loaded m).since.0 ∷ []) 0
  shown n = shown_whole own m s (said how_far) (loaded m).since.0 n (on_how_far m) idle

  unchanged : (ss : List ℕ) (e : ℕ) → Went many h (suc k) ps o f (ran m s [] [] ss e) ps
  unfolding all_in_turn far_after every
  unchanged ss e =
      record {
        o₁ = o;
        grown = grown_none many h (suc k) ps o ordered short;
        flew = refl;
        turn = refl;
        by = refl;
        ever = r.going.ever;
        stable = stable;
        stays = inr rests_later;
      }

  pub went_how_far : (n : ℕ) → Went many h (suc k) ps o f (runs n own m s (said how_far) [] [] []) ps
  went_how_far zero = subst (λ (x : Ran). Went many h (suc k) ps o f x ps) (sym (run_none own m s (said how_far))) (unchanged [] 1000)
  went_how_far (suc zero) = subst (λ (x : Ran). Went many h (suc k) ps o f x ps) (sym (shown_cut own m s (said how_far) (loaded m).since.0 (on_how_far m))) (unchanged _ 1000)
  went_how_far (suc (suc n)) = subst (λ (x : Ran). Went many h (suc k) ps o f x ps) (sym (shown n)) (unchanged _ 0)

  -- A PROPOSAL
  module _ (v : List ℕ) (bs : are_bytes v ≡ true) where
    abbrev Goes : Ran → Type 0
    Goes x = Went many h (suc k) ps o f x (with_it ps v x.end)

    -- power goes before anything is done
    went_none : Goes (ran m s [] [] [] 1000)
    unfolding all_in_turn far_after every
    went_none =
        record {
          o₁ = o;
          grown = grown_later many h (suc k) ps o ordered short v;
          flew = refl;
          turn = refl;
          by = refl;
          ever = r.going.ever;
          stable = record { holds = holds_later ps o ordered v s g.holds; applied = g.applied; term = omega (arith, g.term) };
          stays = inl refl;
        }

    -- it is refused
    pub runs_refused : (why : Refusal) → proposed m v ≡ Err why → (n : ℕ) → runs (suc n) own m s (said (propose v)) [] [] [] ≡ ran m s [] [] [] (refusal_number why)
    runs_refused why e n = refused_run own m s (said (propose v)) why n (on_propose m v (Err why) e)

    went_refused : (why : Refusal) → proposed m v ≡ Err why → (n : ℕ) → Goes (runs (suc n) own m s (said (propose v)) [] [] [])
    went_refused why e n =
        subst (λ (x : Ran). Goes x) (sym (runs_refused why e n))
        (subst (λ (x : List (List ℕ)). Went many h (suc k) ps o f (ran m s [] [] [] (refusal_number why)) x) (sym (refused_counts ps v why)) (unchanged [] (refusal_number why)))

    -- it is taken
    module _ (leads : (loaded m).role ≡ Leader) (fits : value_fits m (length v) ≡ true) (e : proposed m v ≡ Ok (taken m (loaded m) v)) where
      abbrev m₁ : List ℕ
      m₁ = taken m (loaded m) v

      pub taken_goes : Going many h (suc k) (ps ++ v ∷ []) (o ++ length ps ∷ []) m₁ f
      taken_goes = taken_going many h k ps o m f r (suc k) (omega arith) ordered v leads fits bs

      pub taken_unsettled : (loaded m₁).unsettled ≡ true
      unfolding taken
      taken_unsettled =
          ap (λ (x : Machine Role). x.unsettled)
          (loaded_stored (own_acked (value_appended m (loaded m).term.0 v) (loaded m) (last_index m + 1)) (with_unsettled (loaded m))
          (sym (length_stored (own_acked (value_appended m (loaded m).term.0 v) (loaded m) (last_index m + 1)) (with_unsettled (loaded m))) ∙ taken_goes.holds.long)
          (record { some = (loaded_held m).some; waits = (loaded_held m).waits }))

      on_taken : own.step m (said (propose v)) ≡ own.step m₁ next
      on_taken = on_propose m v (Ok m₁) e ∙ sym (own_next m₁)

      pub taken_runs : (n : ℕ) → runs (suc n) own m s (said (propose v)) [] [] [] ≡ made (suc n) m₁ s
      taken_runs n = runs_event own Long acts rest own_planned n (said (propose v)) m m₁ s taken_goes.holds.long on_taken

      pub taken_fine : (n : ℕ) → Fine many h (suc k) (ps ++ v ∷ []) (o ++ length ps ∷ []) f (runs (suc n) own m s (said (propose v)) [] [] [])
      taken_fine n =
          subst (λ (x : Ran). Fine many h (suc k) (ps ++ v ∷ []) (o ++ length ps ∷ []) f x)
          (sym (taken_runs n))
          (settled_fine many h (suc k) (ps ++ v ∷ []) (o ++ length ps ∷ []) n m₁ s f taken_goes taken_unsettled)

      pub taken_ends : (n : ℕ) → 4098 ≤ n → Quiet (runs (suc n) own m s (said (propose v)) [] [] [])
      taken_ends n l = event_ends n (said (propose v)) m m₁ s l taken_goes.holds.long on_taken

      went_taken : (n : ℕ) → Goes (runs (suc n) own m s (said (propose v)) [] [] [])
      went_taken n =
          let z = taken_fine n in
          let w = went_fine many h (suc k) ps o f _ (ps ++ v ∷ []) (o ++ length ps ∷ []) (grown_both many h (suc k) ps o ordered short v (r.going.leads leads)) z in
          subst (λ (x : List (List ℕ)). Went many h (suc k) ps o f (runs (suc n) own m s (said (propose v)) [] [] []) x) (sym (counted z.stays)) w
        where
          counted : {e₁ : ℕ} {Q : Type 0} → (e₁ ≡ 1000) ⊎ ((e₁ ≡ 0) × Q) → with_it ps v e₁ ≡ ps ++ v ∷ []
          counted (inl e₁) = ap (with_it ps v) e₁
          counted (inr e₁) = ap (with_it ps v) e₁.0

    pub went_propose : (n : ℕ) → Goes (runs n own m s (said (propose v)) [] [] [])
    went_propose zero = subst (λ (x : Ran). Goes x) (sym (run_none own m s (said (propose v)))) went_none
    went_propose (suc n) = by (asked m v)
      where
        by : Asks m v → Goes (runs (suc n) own m s (said (propose v)) [] [] [])
        by (turned_away why w e) = went_refused why e n
        by (taken_in l f e) = went_taken l f e n

    -- how it may end
    full_why : value_fits m (length v) ≡ false → length v ≤ 256 → 4096 ≤ length ps
    full_why f l =
        elim (full_by m (length v) f l) [
          | inl c ↦ omega (arith, roomy_last m r.going.holds.roomy, r.going.holds.count, short)
          | inr c ↦ omega (arith, r.going.holds.count, short)
        ]

    number_not : (why : Refusal) → refusal_number why ≢ 1000
    number_not NotNow = omega arith
    number_not TooLong = omega arith
    number_not Full = omega arith

    pub record Ends (x : Ran) : Type 0 where
      pub still : x.showed ≡ []
      pub may : ends_as (length v) (length ps) x.end ≡ true
      pub over : x.end ≢ 1000

    pub ends_propose : (n : ℕ) → 4098 ≤ n → Ends (runs (suc n) own m s (said (propose v)) [] [] [])
    ends_propose n l = by (asked m v)
      where
        by : Asks m v → Ends (runs (suc n) own m s (said (propose v)) [] [] [])
        by (turned_away why w e) =
            subst (λ (x : Ran). Ends x) (sym (runs_refused why e n)) (record { still = refl; may = refused_ends m (length v) (length ps) full_why why w; over = number_not why })
        by (taken_in ld f e) =
            let q = taken_ends ld f e n l in
            let b : length v ≤ 256 = leb-true (length v) 256 (and_parts (leb (length v) 256) (ltb (last_index m) 8193 && ltb (values m) 4096) f).0 in
            record { still = q.still; may = rw (q.over, le-ltb 256 (length v) b); over = λ z. omega (arith, q.over, z) }
