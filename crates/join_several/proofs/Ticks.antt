-- A tick does to memory what it does to the machine that memory stands for.
use Rattle.std.proofs.Common.{◌≡◌, ℕ, suc, ◌+◌, ◌<◌, ◌≤◌, Bool, true, false, cond, ◌||◌, eqb, ltb, List, [], ◌∷◌, length, sym, refl, ap, ◌∙◌, subst, inl, inr, add-one, arith}
use Rattle.std.proofs.lemmas.Bool.{cases_lt, lt-ltb, le-ltb, cond-true, cond-false, cond_both, true≢false}
use Rattle.raft_log.specs.Layout.{memory_words}
use Rattle.raft.specs.declared.header.Ticks.{Ticks as Waits}
use Rattle.raft.specs.declared.header.Role.{Role as Kind}
use Rattle.raft.specs.declared.header.Role.TheVariants.{Follower, Candidate, Leader}
use Rattle.raft.specs.declared.header.Machine.{Machine as Header}
use Rattle.raft.specs.declared.say.Due.TheVariants.{Append, RequestVote, TellTerm}
use Rattle.raft.specs.Header.{ticks, loaded, stored, elapsed_word}
use Rattle.raft.specs.Say.{said_to_others, said_to}
use Rattle.raft.specs.Header.{with_role, older}
use Rattle.raft.specs.Election.{owner as owner_at, term_entered, next_term_entered, reminded, waited, asked_again, tick_as as tick_with, ticked as memory_ticked}
use Rattle.raft.proofs.HeaderLaws.{Held, loaded_held, loaded_stored, length_stored, stored_other}
use Rattle.protocol.specs.Lists.{pick}
use Rattle.machine.specs.Machine.{Machine, Role, follower, candidate, leader, Letter, here, out, Outcome, outcome}
use Rattle.machine.specs.Step.{owner, broadcast, request_of, append_at, enter, ticked, reminder, tick_election, tick_as, on_tick}
use Rattle.join_several.specs.Stands.{conf, Follows, Stood, RoleStands, Stands}
use Rattle.join_several.specs.Does.{posted, Quiet, Room, LastingSame, Does}
use Rattle.join_several.proofs.Frames.{stands_said_others, stands_said, stands_stored}
use Rattle.join_several.proofs.Outs.{letter_of, posted_quiet, posted_alike, posted_others, posted_to, to_others_cong, made_request, made_here}
use Rattle.join_several.proofs.Answered.{said_loaded, said_applied, stored_applied}
use Rattle.join_several.proofs.Leads.{posted_appends, said_others_loaded, said_others_applied}
use Rattle.join_several.proofs.Elections.{owner_same, owner_least, saying, Enters, entered_does}

-- one that entered a term is unsettled
enters_does : (n id : ℕ) (m m₁ : List ℕ) (x : Machine (List ℕ)) (d : Outcome (List ℕ)) → Enters n id m m₁ d → Does n id m m₁ x d
enters_does n id m m₁ x d r =
    record { stands = r.stands; sent = r.sent; safe = λ e. absurd (true≢false (sym r.unsettled ∙ e)); since = r.since; applied = r.applied }

-- one tick more
older_young : (e : Waits) → suc e.0 < 10 → older e ≡ ticks (suc e.0)
older_young e l = cond-true (ltb e.0 10) (ticks (e.0 + 1)) (ticks 10) (lt-ltb e.0 10 (omega arith)) ∙ ap ticks (add-one e.0)

older_old : (e : Waits) → 10 ≤ suc e.0 → ltb (older e).0 10 ≡ false
older_old e l =
    cond_both (ltb e.0 10) (ticks (e.0 + 1)) (ticks 10) (λ (w : Waits). ltb w.0 10 ≡ false) (λ h. le-ltb (e.0 + 1) 10 (omega arith)) (λ h. refl)

-- THE THEORY'S TICK
module _ (n id : ℕ) (x : Machine (List ℕ)) where
  young : suc x.elapsed < 10 → tick_election (conf n) id x ≡ outcome (ticked x) (reminder (conf n) id x x.role)
  young l =
      ap (λ (b : Bool). pick b (outcome (ticked x) (reminder (conf n) id x x.role)) (enter (conf n) id x (suc x.term) (saying n id (suc x.term) true)))
      (lt-ltb (suc x.elapsed) 10 l)

  old : 10 ≤ suc x.elapsed → tick_election (conf n) id x ≡ enter (conf n) id x (suc x.term) (saying n id (suc x.term) true)
  old l =
      ap (λ (b : Bool). pick b (outcome (ticked x) (reminder (conf n) id x x.role)) (enter (conf n) id x (suc x.term) (saying n id (suc x.term) true)))
      (le-ltb (suc x.elapsed) 10 l)

  tick_follower : x.role ≡ follower → on_tick (conf n) id x ≡ tick_election (conf n) id x
  unfolding on_tick
  tick_follower e = ap (tick_as (conf n) id x) e

  tick_candidate : (v : ℕ → Bool) → x.role ≡ candidate v → on_tick (conf n) id x ≡ tick_election (conf n) id x
  unfolding on_tick
  tick_candidate v e = ap (tick_as (conf n) id x) e

  tick_leader : (a b : ℕ → ℕ) → x.role ≡ leader a b → on_tick (conf n) id x ≡ outcome x (broadcast (conf n) id (λ j. append_at (conf n) x (b j)))
  unfolding on_tick
  tick_leader a b e = ap (tick_as (conf n) id x) e

-- MEMORY'S TICK
module _ (n id : ℕ) (m : List ℕ) (x : Machine (List ℕ)) (least : 1 ≤ n) (few : n ≤ 7) (own : id < n) (s : Stands n id m x) (q : Quiet m) where
  abbrev h : Header Kind
  h = loaded m

  -- ten ticks are over: the next term
  next_entered : (loaded m).term.0 < 18446744073709551615 → next_term_entered m h ≡ term_entered m h (suc x.term) true
  next_entered l =
      cond-true (ltb h.term.0 18446744073709551615) (term_entered m h (h.term.0 + 1) true) m (lt-ltb h.term.0 18446744073709551615 l)
      ∙ ap (λ (t : ℕ). term_entered m h t true) (add-one h.term.0 ∙ ap suc s.term)

  next_does : (loaded m).term.0 < 18446744073709551615 → Room (enter (conf n) id x (suc x.term) (saying n id (suc x.term) true)).now →
      Does n id m (next_term_entered m h) x (enter (conf n) id x (suc x.term) (saying n id (suc x.term) true))
  next_does l room =
      subst (λ (m₁ : List ℕ). Does n id m m₁ x (enter (conf n) id x (suc x.term) (saying n id (suc x.term) true))) (sym (next_entered l))
      (enters_does n id m (term_entered m h (suc x.term) true) x (enter (conf n) id x (suc x.term) (saying n id (suc x.term) true))
      (entered_does n id m x (suc x.term) true least few own s room))

  -- the role alone is another
  module _ (k : Kind) (waits : elapsed_word k ≤ 10) (r : RoleStands n m k (ticked x)) where
    abbrev put : List ℕ
    put = stored m (with_role h k)

    put_held : Held (with_role h k)
    put_held = let d = loaded_held m in record { some = d.some; few = d.few; one = d.one; waits = waits }

    put_stands : Stands n id put (ticked x)
    put_stands = stands_stored n id m (with_role h k) (ticked x) few s.tidy put_held s.size s.self s.term s.log s.commit r

    put_loaded : loaded put ≡ with_role h k
    put_loaded = loaded_stored m (with_role h k) s.tidy.entries.long put_held

    put_none : posted put ≡ []
    put_none =
        posted_alike m put (ap (λ (y : Header Kind). y.term.0) put_loaded) (λ i a b. stored_other m (with_role h k) i (omega arith)) (λ i a. stored_other m (with_role h k) i (omega arith))
        ∙ posted_quiet m q.none_due

    put_long : length put ≡ memory_words
    put_long = length_stored m (with_role h k) ∙ s.tidy.entries.long

    same : LastingSame x (ticked x)
    same = record { term = refl; log = refl }

    -- nothing is said
    put_does : Does n id m put x (outcome (ticked x) [])
    put_does =
        record { stands = put_stands; sent = put_none; safe = λ _. same; since = ap (λ (y : Header Kind). y.since) put_loaded; applied = stored_applied m (with_role h k) }

    -- the term's owner is told where the machine is
    put_tells : Does n id m (said_to put (owner_at h.size.0 h.term.0) TellTerm) x (outcome (ticked x) (out (owner (conf n) x.term) (here x.term) ∷ []))
    put_tells =
        let j : ℕ = owner_at h.size.0 h.term.0 in
        let is : owner_at h.size.0 h.term.0 ≡ owner (conf n) x.term = owner_is in
        record {
          stands = stands_said put j TellTerm n id (ticked x) few put_stands;
          sent = posted_to put put_long j TellTerm (omega (arith, is, owner_least n x.term least))
              ∙ (ap (λ (y : Letter (List ℕ)). out j y ∷ []) (made_here n id put (ticked x) put_stands j) ∙ ap (λ (i : ℕ). out i (here x.term) ∷ []) is);
          safe = λ _. same;
          since = ap (λ (y : Header Kind). y.since) (said_loaded put j TellTerm ∙ put_loaded);
          applied = said_applied put j TellTerm ∙ stored_applied m (with_role h k);
        }
      where
        owner_is : owner_at h.size.0 h.term.0 ≡ owner (conf n) x.term
        owner_is = let a = s.size in let b = s.term in (λ i. owner_at (a i) (b i)) ∙ owner_same n x.term least

    -- all others are asked for their votes again
    put_asks : Does n id m (said_to_others put h RequestVote) x (outcome (ticked x) (broadcast (conf n) id (λ _. request_of x)))
    put_asks =
        record {
          stands = stands_said_others put h RequestVote n id (ticked x) few put_stands;
          sent = posted_others put put_long h n id RequestVote few s.size s.self
              ∙ to_others_cong id (letter_of put RequestVote) (λ _. request_of x) n (λ j l. made_request n id put (ticked x) put_stands j);
          safe = λ _. same;
          since = ap (λ (y : Header Kind). y.since) (said_others_loaded put h RequestVote ∙ put_loaded);
          applied = said_others_applied put h RequestVote ∙ stored_applied m (with_role h k);
        }

    -- a follower says where it is unless it heard from the leader, or owns the term itself
    reminds_by : (b o : Bool) →
        Does n id m (cond (b || o) put (said_to put (owner_at h.size.0 h.term.0) TellTerm)) x
        (outcome (ticked x) (pick b [] (pick o [] (out (owner (conf n) x.term) (here x.term) ∷ []))))
    reminds_by true o = put_does
    reminds_by false true = put_does
    reminds_by false false = put_tells

    owns : eqb (owner (conf n) x.term) id ≡ eqb (owner_at h.size.0 h.term.0) h.id.0
    owns =
        let a = s.size in
        let b = s.term in
        let c = s.self in
        sym ((λ i. eqb (owner_at (a i) (b i)) (c i)) ∙ ap (λ (j : ℕ). eqb j id) (owner_same n x.term least))

    put_reminds : (heard : Bool) → heard ≡ x.heard → Does n id m (reminded put h heard) x (outcome (ticked x) (reminder (conf n) id x follower))
    unfolding reminded
    put_reminds heard e =
        subst (λ (y : Bool). Does n id m (cond (heard || y) put (said_to put (owner_at h.size.0 h.term.0) TellTerm)) x (outcome (ticked x) (reminder (conf n) id x follower))) owns
        (subst (λ (y : Bool). Does n id m (cond (heard || eqb (owner (conf n) x.term) id) put (said_to put (owner_at h.size.0 h.term.0) TellTerm)) x
        (outcome (ticked x) (pick y [] (pick (eqb (owner (conf n) x.term) id) [] (out (owner (conf n) x.term) (here x.term) ∷ []))))) e
        (reminds_by heard (eqb (owner (conf n) x.term) id)))

  -- by role: what memory does, and what the theory does
  waited_young : (e : Waits) (heard : Bool) → suc e.0 < 10 → waited m h (older e) heard ≡ reminded (stored m (with_role h (Follower (ticks (suc e.0)) heard))) h heard
  waited_young e heard l =
      ap (λ (w : Waits). waited m h w heard) (older_young e l)
      ∙ cond-true (ltb (suc e.0) 10) (reminded (stored m (with_role h (Follower (ticks (suc e.0)) heard))) h heard) (next_term_entered m h) (lt-ltb (suc e.0) 10 l)

  waited_old : (e : Waits) (heard : Bool) → 10 ≤ suc e.0 → waited m h (older e) heard ≡ next_term_entered m h
  waited_old e heard l =
      cond-false (ltb (older e).0 10) (reminded (stored m (with_role h (Follower (older e) heard))) h heard) (next_term_entered m h) (older_old e l)

  asked_young : (e : Waits) → suc e.0 < 10 → asked_again m h (older e) ≡ said_to_others (stored m (with_role h (Candidate (ticks (suc e.0))))) h RequestVote
  asked_young e l =
      ap (asked_again m h) (older_young e l)
      ∙ cond-true (ltb (suc e.0) 10) (said_to_others (stored m (with_role h (Candidate (ticks (suc e.0))))) h RequestVote) (next_term_entered m h) (lt-ltb (suc e.0) 10 l)

  asked_old : (e : Waits) → 10 ≤ suc e.0 → asked_again m h (older e) ≡ next_term_entered m h
  asked_old e l = cond-false (ltb (older e).0 10) (said_to_others (stored m (with_role h (Candidate (older e)))) h RequestVote) (next_term_entered m h) (older_old e l)

  -- two steps that are the same do the same
  does_same : (m₁ m₂ : List ℕ) (d e : Outcome (List ℕ)) → m₂ ≡ m₁ → e ≡ d → Does n id m m₁ x d → Does n id m m₂ x e
  does_same m₁ m₂ d e a b r = subst (λ (y : Outcome (List ℕ)). Does n id m m₂ x y) (sym b) (subst (λ (y : List ℕ). Does n id m y x d) (sym a) r)

  module _ (low : (loaded m).term.0 < 18446744073709551615) (room : Room (on_tick (conf n) id x).now) where
    -- the next term, by whatever the theory's tick is
    next_by : (m₁ : List ℕ) → m₁ ≡ next_term_entered m h → on_tick (conf n) id x ≡ tick_election (conf n) id x → 10 ≤ suc x.elapsed →
        Does n id m m₁ x (on_tick (conf n) id x)
    next_by m₁ e is l =
        let to : on_tick (conf n) id x ≡ enter (conf n) id x (suc x.term) (saying n id (suc x.term) true) = is ∙ old n id x l in
        does_same (next_term_entered m h) m₁ (enter (conf n) id x (suc x.term) (saying n id (suc x.term) true)) (on_tick (conf n) id x) e to
        (next_does low (subst (λ (d : Outcome (List ℕ)). Room d.now) to room))

    tick_by : (k : Kind) → RoleStands n m k x → Does n id m (tick_with m h k) x (on_tick (conf n) id x)
    tick_by (Follower e heard) r =
        elim (cases_lt (suc e.0) 10) [
          | inl l ↦
              let k : Kind = Follower (ticks (suc e.0)) heard in
              let f : Follows (suc e.0) heard (ticked x) = record { role = r.role; elapsed = ap suc r.elapsed; heard = r.heard } in
              does_same (reminded (stored m (with_role h k)) h heard) (waited m h (older e) heard) (outcome (ticked x) (reminder (conf n) id x follower)) (on_tick (conf n) id x)
              (waited_young e heard l)
              (tick_follower n id x r.role ∙ (young n id x (omega (arith, r.elapsed)) ∙ ap (λ (y : Role). outcome (ticked x) (reminder (conf n) id x y)) r.role))
              (put_reminds k (omega arith) f heard r.heard)
          | inr l ↦ next_by (waited m h (older e) heard) (waited_old e heard l) (tick_follower n id x r.role) (omega (arith, r.elapsed))
        ]
    tick_by (Candidate e) r =
        elim (cases_lt (suc e.0) 10) [
          | inl l ↦
              let k : Kind = Candidate (ticks (suc e.0)) in
              let f : Stood n m (suc e.0) (ticked x) = record { votes = r.votes; role = r.role; elapsed = ap suc r.elapsed; counted = r.counted } in
              does_same (said_to_others (stored m (with_role h k)) h RequestVote) (asked_again m h (older e)) (outcome (ticked x) (reminder (conf n) id x (candidate r.votes)))
              (on_tick (conf n) id x) (asked_young e l)
              (tick_candidate n id x r.votes r.role ∙ (young n id x (omega (arith, r.elapsed)) ∙ ap (λ (y : Role). outcome (ticked x) (reminder (conf n) id x y)) r.role))
              (put_asks k (omega arith) f)
          | inr l ↦ next_by (asked_again m h (older e)) (asked_old e l) (tick_candidate n id x r.votes r.role) (omega (arith, r.elapsed))
        ]
    tick_by Leader r =
        does_same (said_to_others m h Append) (said_to_others m h Append) (outcome x (broadcast (conf n) id (λ j. append_at (conf n) x (r.next j)))) (on_tick (conf n) id x) refl
        (tick_leader n id x r.acked r.next r.role)
        (record {
          stands = stands_said_others m h Append n id x few s;
          sent = posted_appends n id m x h r.acked r.next few s s.size s.self r.role;
          safe = λ _. record { term = refl; log = refl };
          since = ap (λ (y : Header Kind). y.since) (said_others_loaded m h Append);
          applied = said_others_applied m h Append;
        })

-- A TICK DOES what the theory's tick does
pub ticked_does :
    (n id : ℕ) (m : List ℕ) (x : Machine (List ℕ)) → 1 ≤ n → n ≤ 7 → id < n → Stands n id m x → Quiet m → (loaded m).term.0 < 18446744073709551615 → Room (on_tick (conf n) id x).now →
    Does n id m (memory_ticked m) x (on_tick (conf n) id x)
unfolding memory_ticked
ticked_does n id m x least few own s q low room = tick_by n id m x least few own s q low room (loaded m).role s.role
