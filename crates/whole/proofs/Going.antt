-- A machine whose log is what the order says does what is due: it applies in turn, by the order, and what is safe stays right at each act.
use Rattle.std.proofs.Common.{◌≡◌, ℕ, zero, suc, ◌+◌, ◌-◌, ◌<◌, ◌≤◌, Bool, true, false, cond, ◌⊎◌, List, [], ◌∷◌, ◌++◌, length, sym, refl, ap, ◌∙◌, subst, inl, inr, arith}
use Rattle.std.proofs.lemmas.Bool.{eq-eqb, and_from, true≢false}
use Rattle.raft_log.specs.Values.{value_at}
use Rattle.raft_log.specs.Entries.{commit_index, applied_number, decided}
use Rattle.raft_log.proofs.LogLaws.{number_most}
use Rattle.solo.specs.declared.header.Role.TheVariants.{Leader}
use Rattle.solo.specs.declared.header.Role.{Role}
use Rattle.raft.specs.declared.header.Machine.{Machine}
use Rattle.solo.specs.Header.{loaded}
use Rattle.raft.specs.Apply.{settled}
use Rattle.solo.proofs.HeaderLaws.{stored_applied}
use Rattle.together.specs.House.{every, Applied, applied, Far, next_ok, may_apply, got_to, all_in_turn, far_after, by_order}
use Rattle.together.specs.Promise.{Act, settle, Step, Ran, ran, last_since}
use Rattle.together.specs.Machine.{decisions_from, acts}
use Rattle.together.specs.Entry.{own}
use Rattle.whole.proofs.Plans.{end_done, outcome, memory_after, stable_after, end_after, first_acts, letters_in, decisions_in}
use Rattle.whole.proofs.Acts.{Long, rest, Goes, settling, applying, resting, goes, safe, safe_loaded, safe_long, stored_log, same_decided, go_settle, acts_settle, onward, onward_loaded, onward_long, onward_log, onward_applied, go_apply, acts_apply, acts_done, own_planned}
use Rattle.whole.proofs.Holds.{Holds, holds_decided, holds_same}
use Rattle.together.proofs.Lists.{larger_left, larger_right, larger_le}
use Rattle.together.proofs.Decisions.{decisions_many}
use Rattle.whole.proofs.Orders.{by_next}
use Rattle.whole.proofs.Plans.{applies_first}

-- what at most n acts make of memory m, of which s is stable
abbrev pub made : ℕ → List ℕ → List ℕ → Ran
made n m s = outcome own Long acts rest own_planned n (acts m) m s [] [] []

pub made_none : (m s : List ℕ) → made 0 m s ≡ ran m s [] [] [] 1000
unfolding memory_after stable_after end_after first_acts letters_in decisions_in
made_none m s = refl

module _ (n : ℕ) (m s : List ℕ) (long : Long m) where
  abbrev out : List Act → List ℕ → List ℕ → Ran
  out as₁ m₁ s₁ = outcome own Long acts rest own_planned n as₁ m₁ s₁ [] [] []

  abbrev out_suc : List Act → Ran
  out_suc as₁ = outcome own Long acts rest own_planned (suc n) as₁ m s [] [] []

  made_settle : (loaded m).unsettled ≡ true → made (suc n) m s ≡ made n (safe m long) (safe m long)
  unfolding memory_after stable_after end_after first_acts letters_in decisions_in rest
  made_settle u =
      ap out_suc (acts_settle m long u) ∙ ap (λ (x : Step). out (acts (safe m long)) x.memory x.memory) (go_settle m long u)

  made_apply : (loaded m).unsettled ≡ false → applied_number m < decided m →
      made (suc n) m s ≡ applies_first (applied (applied_number m + 1) (value_at m (applied_number m))) (made n (onward m long) s)
  unfolding memory_after stable_after end_after first_acts letters_in decisions_in rest
  made_apply u l =
      ap out_suc (acts_apply m long u l)
      ∙ ap (λ (x : Step). applies_first (applied (applied_number m + 1) (value_at m (applied_number m))) (out (acts (onward m long)) x.memory s)) (go_apply m long u l)

  made_rest : (loaded m).unsettled ≡ false → decided m ≤ applied_number m → made (suc n) m s ≡ ran m s [] [] [] 0
  unfolding memory_after stable_after end_after first_acts letters_in decisions_in
  made_rest u l = ap out_suc (acts_done m long u l)

-- few acts are due
pub acts_few : (m : List ℕ) → length (acts m) ≤ 4097
unfolding acts
acts_few m = go (loaded m).unsettled
  where
    go : (b : Bool) → length (cond b (settle ∷ []) [] ++ decisions_from m (applied_number m) (decided m - applied_number m)) ≤ 4097
    go true = omega (arith, decisions_many m (applied_number m) (decided m - applied_number m), number_most m (commit_index m))
    go false = omega (arith, decisions_many m (applied_number m) (decided m - applied_number m), number_most m (commit_index m))

-- machine h of many, when at most k terms have begun; the order o of what was proposed, ps
module _ (many h k : ℕ) (ps : List (List ℕ)) (o : List ℕ) where
  -- WHAT IS SAFE: the log, and no more as applied than was
  pub record Stable (s : List ℕ) (f : Far) : Type 0 where
    pub holds : Holds ps o s
    pub applied : applied_number s ≤ f.ever
    pub term : (loaded s).term.0 ≤ k

  -- IN THE MIDDLE of an event: what is to be applied next is in turn
  pub record Going (m : List ℕ) (f : Far) : Type 0 where
    pub holds : Holds ps o m
    pub size : (loaded m).size.0 ≡ many
    pub id : (loaded m).id.0 ≡ h
    pub leads : (loaded m).role ≡ Leader → many ≡ 1
    pub term : (loaded m).term.0 ≤ k
    pub since : (loaded m).since.0 ≡ last_since f.since
    pub turn : may_apply f (applied_number m + 1) ≡ true
    pub low : applied_number m ≤ length o
    pub reach : length o ≤ applied_number m → last_since f.since ≡ length o
    pub ever : f.ever ≤ length o
    pub reached : last_since f.since ≤ f.ever
    pub settles : (loaded m).unsettled ≡ true → applied_number m ≤ f.ever

  -- AT REST: nothing is due
  pub record Rests (m : List ℕ) (f : Far) : Type 0 where
    pub going : Going m f
    pub still : (loaded m).unsettled ≡ false
    pub all : length o ≤ applied_number m

  pub record Fine (f : Far) (r : Ran) : Type 0 where
    pub flew : r.flew ≡ []
    pub showed : r.showed ≡ []
    pub turn : all_in_turn f r.did ≡ true
    pub by : every (by_order ps o) r.did ≡ true
    pub ever : (far_after f r.did).ever ≤ length o
    pub stable : Stable r.stable (far_after f r.did)
    pub stays : (r.end ≡ 1000) ⊎ ((r.end ≡ 0) × Rests r.memory (far_after f r.did))

  -- nothing is applied
  pub fine_none : (m s : List ℕ) (f : Far) (e : ℕ) → Stable s f → f.ever ≤ length o → (e ≡ 1000) ⊎ ((e ≡ 0) × Rests m f) → Fine f (ran m s [] [] [] e)
  unfolding all_in_turn far_after every
  fine_none m s f e g b st = record { flew = refl; showed = refl; turn = refl; by = refl; ever = b; stable = g; stays = st }

  -- memory is made safe
  safe_going : (m : List ℕ) (f : Far) (g : Going m f) → Going (safe m g.holds.long) f
  safe_going m f g =
      let long = g.holds.long in
      let x = safe_loaded m long in
      let a = stored_applied m (settled (loaded m)) in
      record {
        holds = holds_same ps o m (safe m long) (safe_long m long) (stored_log m (settled (loaded m))) g.holds;
        size = ap (λ (y : Machine Role). y.size.0) x ∙ g.size;
        id = ap (λ (y : Machine Role). y.id.0) x ∙ g.id;
        leads = λ e. g.leads (sym (ap (λ (y : Machine Role). y.role) x) ∙ e);
        term = subst (λ (y : Machine Role). y.term.0 ≤ k) (sym x) g.term;
        since = ap (λ (y : Machine Role). y.since.0) x ∙ g.since;
        turn = subst (λ (j : ℕ). may_apply f (j + 1) ≡ true) (sym a) g.turn;
        low = omega (arith, g.low);
        reach = λ l. g.reach (omega arith);
        ever = g.ever;
        reached = g.reached;
        settles = λ u. absurd (true≢false (sym u ∙ ap (λ (y : Machine Role). y.unsettled) x));
      }

  safe_stable : (m : List ℕ) (f : Far) (g : Going m f) → (loaded m).unsettled ≡ true → Stable (safe m g.holds.long) f
  safe_stable m f g u =
      let n = safe_going m f g in
      record { holds = n.holds; applied = omega (arith, stored_applied m (settled (loaded m)), g.settles u); term = n.term }

  -- the next is applied
  module _ (m : List ℕ) (f : Far) (g : Going m f) (l : applied_number m < decided m) where
    abbrev j : ℕ
    j = applied_number m

    within : j < length o
    within = omega (arith, holds_decided ps o m g.holds)

    onward_going : (loaded m).unsettled ≡ false → Going (onward m g.holds.long) (got_to f (j + 1))
    unfolding next_ok last_since
    onward_going u =
        let long = g.holds.long in
        let x = onward_loaded m long in
        let a = onward_applied m long l in
        record {
          holds = holds_same ps o m (onward m long) (onward_long m long) (onward_log m long) g.holds;
          size = ap (λ (y : Machine Role). y.size.0) x ∙ g.size;
          id = ap (λ (y : Machine Role). y.id.0) x ∙ g.id;
          leads = λ e. g.leads (sym (ap (λ (y : Machine Role). y.role) x) ∙ e);
          term = subst (λ (y : Machine Role). y.term.0 ≤ k) (sym x) g.term;
          since = ap (λ (y : Machine Role). y.since.0) x;
          turn = eq-eqb (applied_number (onward m long) + 1) (suc (j + 1)) (omega arith);
          low = omega (arith, within);
          reach = λ b. omega (arith, within);
          ever = larger_le f.ever (j + 1) (length o) g.ever (omega (arith, within));
          reached = larger_right f.ever (j + 1);
          settles = λ e. absurd (true≢false (sym e ∙ (ap (λ (y : Machine Role). y.unsettled) x ∙ u)));
        }

    stable_onward : (s : List ℕ) → Stable s f → Stable s (got_to f (j + 1))
    stable_onward s g₁ = record { holds = g₁.holds; applied = omega (arith, g₁.applied, larger_left f.ever (j + 1)); term = g₁.term }

    by_it : by_order ps o (applied (j + 1) (value_at m j)) ≡ true
    by_it = by_next ps o j (value_at m j) within (g.holds.held j within)

    fine_first : (r : Ran) → Fine (got_to f (j + 1)) r → Fine f (applies_first (applied (j + 1) (value_at m j)) r)
    unfolding all_in_turn far_after every
    fine_first r z =
        record {
          flew = z.flew;
          showed = z.showed;
          turn = and_from (may_apply f (j + 1)) (all_in_turn (got_to f (j + 1)) r.did) g.turn z.turn;
          by = and_from (by_order ps o (applied (j + 1) (value_at m j))) (every (by_order ps o) r.did) by_it z.by;
          ever = z.ever;
          stable = z.stable;
          stays = z.stays;
        }

  -- WHAT IS DUE IS DONE, as far as power lasts
  pub made_fine : (n : ℕ) (m s : List ℕ) (f : Far) → Going m f → Stable s f → Fine f (made n m s)
  made_fine zero m s f g g₁ = subst (λ (r : Ran). Fine f r) (sym (made_none m s)) (fine_none m s f 1000 g₁ g.ever (inl refl))
  made_fine (suc n) m s f g g₁ = by (λ m₁ s₁ f₁. made_fine n m₁ s₁ f₁) (goes m)
    where
      long : Long m
      long = g.holds.long

      by : ((m₁ s₁ : List ℕ) (f₁ : Far) → Going m₁ f₁ → Stable s₁ f₁ → Fine f₁ (made n m₁ s₁)) → Goes m → Fine f (made (suc n) m s)
      by more (settling u) =
          subst (λ (r : Ran). Fine f r) (sym (made_settle n m s long u)) (more (safe m long) (safe m long) f (safe_going m f g) (safe_stable m f g u))
      by more (applying u l) =
          subst (λ (r : Ran). Fine f r) (sym (made_apply n m s long u l))
          (fine_first m f g l (made n (onward m long) s) (more (onward m long) s (got_to f (applied_number m + 1)) (onward_going m f g l u) (stable_onward m f g l s g₁)))
      by more (resting u l) =
          subst (λ (r : Ran). Fine f r) (sym (made_rest n m s long u l))
          (fine_none m s f 0 g₁ g.ever (inr (refl, record { going = g; still = u; all = omega (arith, holds_decided ps o m g.holds) })))

  -- ... whatever was safe before, if memory is made safe first
  pub settled_fine : (n : ℕ) (m s : List ℕ) (f : Far) (g : Going m f) → (loaded m).unsettled ≡ true → Fine f (made (suc n) m s)
  settled_fine n m s f g u =
      let long = g.holds.long in
      subst (λ (r : Ran). Fine f r) (sym (made_settle n m s long u)) (made_fine n (safe m long) (safe m long) f (safe_going m f g) (safe_stable m f g u))

-- with acts enough it ends
pub made_ends : (n : ℕ) (m s : List ℕ) → 4098 ≤ n → (made n m s).end ≡ 0
made_ends n m s l = end_done n (acts m) (omega (arith, acts_few m))

-- the acts leave the role as it is
pub made_role : (n : ℕ) (m s : List ℕ) → Long m → (loaded (made n m s).memory).role ≡ (loaded m).role
made_role zero m s long = ap (λ (r : Ran). (loaded r.memory).role) (made_none m s)
made_role (suc n) m s long = by (λ m₁ s₁ l. made_role n m₁ s₁ l) (goes m)
  where
    by : ((m₁ s₁ : List ℕ) → Long m₁ → (loaded (made n m₁ s₁).memory).role ≡ (loaded m₁).role) → Goes m → (loaded (made (suc n) m s).memory).role ≡ (loaded m).role
    by more (settling u) =
        ap (λ (r : Ran). (loaded r.memory).role) (made_settle n m s long u)
        ∙ (more (safe m long) (safe m long) (safe_long m long) ∙ ap (λ (x : Machine Role). x.role) (safe_loaded m long))
    by more (applying u l) =
        ap (λ (r : Ran). (loaded r.memory).role) (made_apply n m s long u l)
        ∙ (more (onward m long) s (onward_long m long) ∙ ap (λ (x : Machine Role). x.role) (onward_loaded m long))
    by more (resting u l) = ap (λ (r : Ran). (loaded r.memory).role) (made_rest n m s long u l)

-- what is settled first and applied next
pub made_first : (n : ℕ) (m s : List ℕ) (long : Long m) → (loaded m).unsettled ≡ true → applied_number m < decided m →
    made (suc (suc n)) m s ≡ applies_first (applied (applied_number m + 1) (value_at m (applied_number m))) (made n (onward (safe m long) (safe_long m long)) (safe m long))
made_first n m s long u l =
    let a = stored_applied m (settled (loaded m)) in
    let q = stored_log m (settled (loaded m)) in
    let still : (loaded (safe m long)).unsettled ≡ false = ap (λ (x : Machine Role). x.unsettled) (safe_loaded m long) in
    made_settle (suc n) m s long u
    ∙ (made_apply n (safe m long) (safe m long) (safe_long m long) still (omega (arith, same_decided m (safe m long) q))
    ∙ ap (λ (y : Applied). applies_first y (made n (onward (safe m long) (safe_long m long)) (safe m long)))
    (ap (λ j. applied (j + 1) (value_at (safe m long) j)) a ∙ ap (applied (applied_number m + 1)) (q.entries.held (applied_number m))))
