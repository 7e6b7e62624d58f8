-- What is due after an event is done, as far as power lasts: letters fly and decisions are applied in turn, and memory stands for the same machine all along.
use Rattle.std.proofs.Common.{◌≡◌, ℕ, zero, suc, ◌+◌, ◌-◌, ◌<◌, ◌≤◌, Bool, true, false, cond, ◌⊎◌, List, [], ◌∷◌, ◌++◌, length, get_or, take, Some, None, Option, sym, refl, ap, ◌∙◌, subst, inl, inr, arith}
use Rattle.std.proofs.lemmas.List.{length-append}
use Rattle.std.proofs.lemmas.Bool.{eq-eqb, and_from, true≢false}
use Rattle.raft_log.specs.Layout.{memory_words}
use Rattle.raft_log.specs.Values.{value_at}
use Rattle.raft_log.specs.Entries.{commit_index, applied_number, applied_set, decided as decided_number}
use Rattle.raft_log.proofs.LogLaws.{number_most}
use Rattle.raft_log.proofs.LogChanges.{same_tidy, applied_set_word}
use Rattle.raft.specs.declared.header.Role.{Role as Kind}
use Rattle.raft.specs.declared.header.Machine.{Machine as Header}
use Rattle.raft.specs.Header.{loaded, stored}
use Rattle.raft.specs.declared.say.Due.{Due}
use Rattle.raft.specs.Outbox.{Mail as DueMail, due_to, mail_at, mail_from, mail_due, flown_to}
use Rattle.raft.specs.Apply.{settled, applied_up_to, advanced}
use Rattle.raft.proofs.HeaderLaws.{length_stored, stored_other}
use Rattle.protocol.specs.Lists.{Begins}
use Rattle.protocol.proofs.Lists.{begins_at, begins_length}
use Rattle.machine.specs.Machine.{Machine, decided}
use Rattle.machine.specs.Maps.{map_machine}
use Rattle.join_several.specs.Stands.{lift_log, RoleStands, Stands}
use Rattle.join_several.proofs.Frames.{role_alike}
use Rattle.together.specs.House.{every, each, Applied, applied, Far, next_ok, may_apply, got_to, all_in_turn, far_after, nth_value, by_order}
use Rattle.together.specs.Promise.{Act, settle, Step, Letter as Wire, Ran, ran, last_since, all_small}
use Rattle.together.specs.Machine.{decisions_from}
use Rattle.together_several.specs.Machine.{acts, letters_from}
use Rattle.together_several.specs.Entry.{own}
use Rattle.whole.proofs.Plans.{letters_in, decisions_in, memory_after, stable_after, end_after, first_acts, outcome, end_done}
use Rattle.together.proofs.Lists.{larger_left, larger_right, larger_le}
use Rattle.together.proofs.Decisions.{decisions_many}
use Rattle.whole_several.proofs.Smalls.{kept_settled, kept_flown, kept_advanced}
use Rattle.whole_several.proofs.Mails.{Still, still_log, still_commit, still_decided, still_entries, flown_loaded, flown_other, flies_first as mail_first}
use Rattle.whole_several.proofs.Acts.{Fit, rest, safe, safe_still, safe_applied, safe_since, go_settle, acts_settle, flown_still, flown_mail, flown_same, go_fly, acts_fly, onward, onward_loaded, onward_still, onward_mail, onward_applied, go_apply, acts_apply, acts_done, Goes, settling, flying, applying, resting, goes, own_planned}
use Rattle.whole_several.proofs.Views.{decided_is, value_is}
use Rattle.whole_several.proofs.Joined.{Going, Rests}
use Rattle.whole_several.proofs.Sent.{as_wire, agrees_self}
use Rattle.whole.proofs.Plans.{applies_first}
use Rattle.whole.proofs.Orders.{by_next}

-- what at most n acts make of memory m, of which s is stable
abbrev pub made : ℕ → List ℕ → List ℕ → Ran
made n m s = outcome own Fit acts rest own_planned n (acts m) m s [] [] []

-- it did this first
abbrev pub flies_first : Wire → Ran → Ran
flies_first l r = ran r.memory r.stable (l ∷ r.flew) r.did r.showed r.end

pub made_none : (m s : List ℕ) → made 0 m s ≡ ran m s [] [] [] 1000
unfolding memory_after stable_after end_after first_acts letters_in decisions_in
made_none m s = refl

module _ (n : ℕ) (m s : List ℕ) (fit : Fit m) where
  abbrev long : length m ≡ memory_words
  long = fit.long

  abbrev out : List Act → List ℕ → List ℕ → Ran
  out as₁ m₁ s₁ = outcome own Fit acts rest own_planned n as₁ m₁ s₁ [] [] []

  abbrev out_suc : List Act → Ran
  out_suc as₁ = outcome own Fit acts rest own_planned (suc n) as₁ m s [] [] []

  pub made_settle : (loaded m).unsettled ≡ true → made (suc n) m s ≡ made n (safe m long) (safe m long)
  unfolding memory_after stable_after end_after first_acts letters_in decisions_in rest
  made_settle u =
      ap out_suc (acts_settle m long u) ∙ ap (λ (x : Step). out (acts (safe m long)) x.memory x.memory) (go_settle m long u)

  pub made_fly : (u : (loaded m).unsettled ≡ false) (l : DueMail) (ls : List DueMail) → mail_due m ≡ l ∷ ls → made (suc n) m s ≡ flies_first (as_wire l) (made n (flown_to m l.to) s)
  unfolding memory_after stable_after end_after first_acts letters_in decisions_in rest
  made_fly u l ls e =
      ap out_suc (acts_fly m long u l ls e) ∙ ap (λ (x : Step). flies_first (as_wire l) (out (acts (flown_to m l.to)) x.memory s)) (go_fly m long u l ls e)

  pub made_apply : (loaded m).unsettled ≡ false → mail_due m ≡ [] → applied_number m < decided_number m →
      made (suc n) m s ≡ applies_first (applied (applied_number m + 1) (value_at m (applied_number m))) (made n (onward m long) s)
  unfolding memory_after stable_after end_after first_acts letters_in decisions_in rest
  made_apply u e l =
      ap out_suc (acts_apply m long u e l)
      ∙ ap (λ (x : Step). applies_first (applied (applied_number m + 1) (value_at m (applied_number m))) (out (acts (onward m long)) x.memory s)) (go_apply m long u e l)

  pub made_rest : (loaded m).unsettled ≡ false → mail_due m ≡ [] → decided_number m ≤ applied_number m → made (suc n) m s ≡ ran m s [] [] [] 0
  unfolding memory_after stable_after end_after first_acts letters_in decisions_in
  made_rest u e l = ap out_suc (acts_done m long u e l)

-- what stays the same over an act stands for the same machine
pub still_stands : (n h : ℕ) (m m₁ : List ℕ) (y : Machine (List ℕ)) → n ≤ 7 → Still m m₁ → get_or m₁ 66 0 ≤ 4096 → Stands n h m y → Stands n h m₁ y
still_stands n h m m₁ y few s low t =
    record {
      tidy = record {
        entries = same_tidy m m₁ s.long (s.behind 64 (omega arith) (omega arith)) (λ i a. s.behind i (omega arith) (omega arith)) t.tidy.entries;
        commit = omega (arith, s.behind 65 (omega arith) (omega arith), (still_entries m m₁ s).last, t.tidy.commit);
        applied = low;
      };
      size = ap (λ (z : _). z.0) s.size ∙ t.size;
      self = ap (λ (z : _). z.0) s.id ∙ t.self;
      term = ap (λ (z : _). z.0) s.term ∙ t.term;
      log = ap lift_log (still_log m m₁ s) ∙ t.log;
      commit = still_commit m m₁ s ∙ t.commit;
      role = subst (λ (k : Kind). RoleStands n m₁ k y) (sym s.role) (role_alike n m m₁ (loaded m).role y few s.rows t.role);
    }

-- machine h of n, which has become x; the order o has what x holds for decided
module _ (n h : ℕ) (few : n ≤ 7) (ps : List (List ℕ)) (x : Machine ℕ) where
  -- the memory of a machine that goes on
  pub going_fit : (m : List ℕ) (f : Far) → Going n h ps x m f → Fit m
  going_fit m f g = record { long = (g.means (nth_value ps) (agrees_self ps)).tidy.entries.long; small = g.small }

  pub going_decided : (m : List ℕ) (f : Far) → Going n h ps x m f → decided_number m ≡ length (decided x)
  going_decided m f g =
      let t = g.means (nth_value ps) (agrees_self ps) in
      decided_is m t.tidy x (nth_value ps) t.log t.commit

  -- an act that leaves what memory stands for, and how much was applied
  same_going : (m m₁ : List ℕ) (f : Far) → Still m m₁ → get_or m₁ 66 0 ≤ 4096 → applied_number m₁ ≡ applied_number m → (loaded m₁).since ≡ (loaded m).since → all_small m₁ ≡ true →
      Going n h ps x m f → Going n h ps x m₁ f
  same_going m m₁ f s low same_number same-since small g =
      let d = still_decided m m₁ s in
      record {
        means = λ v a. still_stands n h m m₁ (map_machine v x) few s low (g.means v a);
        small = small;
        since = ap (λ (z : _). z.0) same-since ∙ g.since;
        turn = subst (λ (k : ℕ). may_apply f (k + 1) ≡ true) (sym same_number) g.turn;
        low = omega (arith, g.low);
        reach = omega (arith, g.reach);
        last = λ l. g.last (omega arith) ∙ sym same_number;
      }

  pub safe_going : (m : List ℕ) (f : Far) (fit : Fit m) → Going n h ps x m f → Going n h ps x (safe m fit.long) f
  safe_going m f fit g =
      let t = g.means (nth_value ps) (agrees_self ps) in
      same_going m (safe m fit.long) f (safe_still m fit.long) (omega (arith, stored_other m (settled (loaded m)) 66 (omega arith), t.tidy.applied)) (safe_applied m fit.long) (safe_since m fit.long)
      ((kept_settled m).small g.small) g

  flown_going : (m : List ℕ) (f : Far) (fit : Fit m) (u : (loaded m).unsettled ≡ false) (l : DueMail) (ls : List DueMail) → mail_due m ≡ l ∷ ls → Going n h ps x m f →
      Going n h ps x (flown_to m l.to) f
  flown_going m f fit u l ls e g =
      let t = g.means (nth_value ps) (agrees_self ps) in
      let s = flown_still m fit.long u l ls e in
      let most : l.to < 7 = (mail_first m fit.long 0 7 (omega arith) l ls e).most in
      let word : get_or (flown_to m l.to) 66 0 ≡ get_or m 66 0 = flown_other m l.to 37 (omega arith) in
      same_going m (flown_to m l.to) f s (omega (arith, word, t.tidy.applied)) (flown_same m fit.long u l ls e) (ap (λ (z : Header Kind). z.since) (flown_loaded m l.to))
      ((kept_flown m l.to).small g.small) g

  -- THE NEXT IS APPLIED
  module _ (m : List ℕ) (f : Far) (g : Going n h ps x m f) (l : applied_number m < decided_number m) where
    abbrev j : ℕ
    j = applied_number m

    abbrev fit : Fit m
    fit = going_fit m f g

    onward_word : get_or (onward m fit.long) 66 0 ≤ 4096
    unfolding advanced
    onward_word =
        let t = g.means (nth_value ps) (agrees_self ps) in
        let e : get_or (applied_set (stored m (applied_up_to (loaded m) (j + 1))) (j + 1)) 66 0 ≡ j + 1 = applied_set_word (stored m (applied_up_to (loaded m) (j + 1))) (j + 1) (length_stored m (applied_up_to (loaded m) (j + 1)) ∙ fit.long) in
        omega (arith, number_most m (commit_index m))

    onward_going : Going n h ps x (onward m fit.long) (got_to f (j + 1))
    unfolding next_ok last_since
    onward_going =
        let s = onward_still m fit.long in
        let y = onward_loaded m fit.long in
        let a = onward_applied m fit.long l in
        let d = still_decided m (onward m fit.long) s in
        record {
          means = λ v q. still_stands n h m (onward m fit.long) (map_machine v x) few s onward_word (g.means v q);
          small = (kept_advanced m (j + 1) (omega (arith, number_most m (commit_index m)))).small g.small;
          since = ap (λ (z : Header Kind). z.since.0) y;
          turn = eq-eqb (applied_number (onward m fit.long) + 1) (suc (j + 1)) (omega arith);
          low = omega arith;
          reach = omega (arith, larger_right f.ever (j + 1));
          last = λ b. sym a;
        }

    -- it is what the order has there
    module _ (o : List ℕ) (ordered : Begins (decided x) o) where
      by_it : by_order ps o (applied (j + 1) (value_at m j)) ≡ true
      by_it =
          let t = g.means (nth_value ps) (agrees_self ps) in
          let d = going_decided m f g in
          let k : j < length (decided x) = omega arith in
          let in_order : j < length o = omega (arith, begins_length (decided x) o ordered) in
          by_next ps o j (value_at m j) in_order (value_is m t.tidy x (nth_value ps) t.log t.commit j l ∙ ap (nth_value ps) (begins_at 0 (decided x) o j k ordered))

  module _ (o : List ℕ) (ordered : Begins (decided x) o) where
    -- how the acts went: so many letters flew, and what was applied is right
    pub record Fine (ls : List DueMail) (s : List ℕ) (f : Far) (r : Ran) : Type 0 where
      pub many : ℕ
      pub flew : r.flew ≡ each as_wire (take many ls)
      pub showed : r.showed ≡ []
      pub stable : r.stable ≡ s
      pub turn : all_in_turn f r.did ≡ true
      pub by : every (by_order ps o) r.did ≡ true
      pub ever : (far_after f r.did).ever ≤ length o
      pub onward : f.ever ≤ (far_after f r.did).ever
      pub stays : (r.end ≡ 1000) ⊎ ((r.end ≡ 0) × (length ls ≤ many) × Rests n h ps x r.memory (far_after f r.did))

    fine_none : (m s : List ℕ) (ls : List DueMail) (f : Far) → f.ever ≤ length o → Fine ls s f (ran m s [] [] [] 1000)
    unfolding all_in_turn far_after every each
    fine_none m s ls f b =
        record { many = 0; flew = refl; showed = refl; stable = refl; turn = refl; by = refl; ever = b; onward = omega arith; stays = inl refl }

    fine_rest : (m s : List ℕ) (ls : List DueMail) (f : Far) → ls ≡ [] → f.ever ≤ length o → Rests n h ps x m f → Fine ls s f (ran m s [] [] [] 0)
    unfolding all_in_turn far_after every each
    fine_rest m s ls f e b r =
        record { many = 0; flew = refl; showed = refl; stable = refl; turn = refl; by = refl; ever = b; onward = omega arith; stays = inr (refl, omega (arith, ap (λ (y : List DueMail). length y) e), r) }

    fine_fly : (l : DueMail) (ls : List DueMail) (s : List ℕ) (f : Far) (r : Ran) → Fine ls s f r → Fine (l ∷ ls) s f (flies_first (as_wire l) r)
    unfolding each
    fine_fly l ls s f r z =
        record {
          many = suc z.many;
          flew = ap (λ (y : List Wire). as_wire l ∷ y) z.flew;
          showed = z.showed;
          stable = z.stable;
          turn = z.turn;
          by = z.by;
          ever = z.ever;
          onward = z.onward;
          stays = elim z.stays [ inl e ↦ inl e | inr q ↦ inr (q.0, omega (arith, q.1), q.2) ];
        }

    fine_apply : (m s : List ℕ) (f : Far) (g : Going n h ps x m f) (l : applied_number m < decided_number m) (r : Ran) → Fine [] s (got_to f (applied_number m + 1)) r →
        Fine [] s f (applies_first (applied (applied_number m + 1) (value_at m (applied_number m))) r)
    unfolding all_in_turn far_after every
    fine_apply m s f g l r z =
        let k : ℕ = applied_number m + 1 in
        let a : Applied = applied k (value_at m (applied_number m)) in
        record {
          many = z.many;
          flew = z.flew;
          showed = z.showed;
          stable = z.stable;
          turn = and_from (may_apply f (applied_number m + 1)) (all_in_turn (got_to f (applied_number m + 1)) r.did) g.turn z.turn;
          by = and_from (by_order ps o (applied (applied_number m + 1) (value_at m (applied_number m)))) (every (by_order ps o) r.did) (by_it m f g l o ordered) z.by;
          ever = z.ever;
          onward = omega (arith, z.onward, larger_left f.ever (applied_number m + 1));
          stays = z.stays;
        }

    -- WHAT IS DUE IS DONE where memory is safe
    pub made_fine : (k : ℕ) (m s : List ℕ) (f : Far) → Going n h ps x m f → (loaded m).unsettled ≡ false → f.ever ≤ length o → Fine (mail_due m) s f (made k m s)
    made_fine zero m s f g u b = subst (λ (r : Ran). Fine (mail_due m) s f r) (sym (made_none m s)) (fine_none m s (mail_due m) f b)
    made_fine (suc k) m s f g u b = by (λ m₁ f₁ g₁ u₁ b₁. made_fine k m₁ s f₁ g₁ u₁ b₁) (goes m)
      where
        fit₁ : Fit m
        fit₁ = going_fit m f g

        by : ((m₁ : List ℕ) (f₁ : Far) → Going n h ps x m₁ f₁ → (loaded m₁).unsettled ≡ false → f₁.ever ≤ length o → Fine (mail_due m₁) s f₁ (made k m₁ s)) → Goes m → Fine (mail_due m) s f (made (suc k) m s)
        by more (settling q) = absurd (true≢false (sym q ∙ u))
        by more (flying q l ls e) =
            let g₁ = flown_going m f fit₁ q l ls e g in
            let u₁ : (loaded (flown_to m l.to)).unsettled ≡ false = ap (λ (z : Header Kind). z.unsettled) (flown_loaded m l.to) ∙ q in
            let z : Fine ls s f (made k (flown_to m l.to) s) = subst (λ (y : List DueMail). Fine y s f (made k (flown_to m l.to) s)) (flown_mail m fit₁.long q l ls e) (more (flown_to m l.to) f g₁ u₁ b) in
            subst (λ (y : List DueMail). Fine y s f (made (suc k) m s)) (sym e)
            (subst (λ (r : Ran). Fine (l ∷ ls) s f r) (sym (made_fly k m s fit₁ q l ls e)) (fine_fly l ls s f (made k (flown_to m l.to) s) z))
        by more (applying q e l) =
            let m₁ : List ℕ = onward m fit₁.long in
            let f₁ : Far = got_to f (applied_number m + 1) in
            let u₁ : (loaded (onward m fit₁.long)).unsettled ≡ false = ap (λ (z : Header Kind). z.unsettled) (onward_loaded m fit₁.long) ∙ q in
            let d = going_decided m f g in
            let b₁ : (got_to f (applied_number m + 1)).ever ≤ length o = larger_le f.ever (applied_number m + 1) (length o) b (omega (arith, begins_length (decided x) o ordered)) in
            let z : Fine [] s (got_to f (applied_number m + 1)) (made k (onward m fit₁.long) s) =
            subst (λ (y : List DueMail). Fine y s (got_to f (applied_number m + 1)) (made k (onward m fit₁.long) s)) (onward_mail m fit₁.long ∙ e) (more (onward m fit₁.long) (got_to f (applied_number m + 1)) (onward_going m f g l) u₁ b₁) in
            subst (λ (y : List DueMail). Fine y s f (made (suc k) m s)) (sym e)
            (subst (λ (r : Ran). Fine [] s f r) (sym (made_apply k m s fit₁ q e l)) (fine_apply m s f g l (made k (onward m fit₁.long) s) z))
        by more (resting q e l) =
            subst (λ (r : Ran). Fine (mail_due m) s f r) (sym (made_rest k m s fit₁ q e l))
            (fine_rest m s (mail_due m) f e b (record { going = g; quiet = record { none_due = e; settled = q }; all = l }))

-- with acts enough it ends
letters_many : (ls : List DueMail) → length (letters_from ls) ≡ length ls
unfolding letters_from
letters_many [] = refl
letters_many (l ∷ ls) = ap suc (letters_many ls)

mail_many : (m : List ℕ) (j n : ℕ) → length (mail_from m j n) ≤ n
unfolding mail_from
mail_many m j zero = omega arith
mail_many m j (suc n) = one (due_to m j) (mail_many m (suc j) n)
  where
    one : (d : Option Due) → length (mail_from m (suc j) n) ≤ n → length (mail_at m (loaded m) j d ++ mail_from m (suc j) n) ≤ suc n
    one (Some d) l = omega arith
    one None l = omega arith

pub acts_few : (m : List ℕ) → length (acts m) ≤ 4104
unfolding acts
acts_few m = go (loaded m).unsettled
  where
    rest_few : length (letters_from (mail_due m) ++ decisions_from m (applied_number m) (decided_number m - applied_number m)) ≤ 4103
    rest_few =
        omega (
          arith,
          length-append (letters_from (mail_due m)) (decisions_from m (applied_number m) (decided_number m - applied_number m)),
          letters_many (mail_due m),
          mail_many m 0 7,
          decisions_many m (applied_number m) (decided_number m - applied_number m),
          number_most m (commit_index m),
        )

    go : (b : Bool) → length (cond b (settle ∷ []) [] ++ (letters_from (mail_due m) ++ decisions_from m (applied_number m) (decided_number m - applied_number m))) ≤ 4104
    go true = omega (arith, rest_few)
    go false = omega (arith, rest_few)

pub made_ends : (n : ℕ) (m s : List ℕ) → 4105 ≤ n → (made n m s).end ≡ 0
made_ends n m s l = end_done n (acts m) (omega (arith, acts_few m))
