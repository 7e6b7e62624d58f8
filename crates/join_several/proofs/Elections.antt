-- A machine that goes to another term: what memory stands for then, and which letters are due.
use Rattle.std.proofs.Common.{◌≡◌, ℕ, zero, suc, ◌+◌, ◌*◌, ◌<◌, ◌≤◌, Bool, true, false, cond, ◌&&◌, eqb, ltb, List, [], ◌∷◌, length, get_or, sym, refl, ap, ◌∙◌, subst, inl, inr, mod-lt, arith}
use Rattle.std.proofs.lemmas.Bool.{cases_eq, cases_Bool, eq-eqb, ne_eqb, le-ltb, lt-ltb, cond-true, cond-false}
use Rattle.raft_log.specs.Layout.{memory_words}
use Rattle.raft_log.specs.View.{log_of}
use Rattle.raft_log.specs.Entries.{applied_number}
use Rattle.raft_log.proofs.LogChanges.{header_log}
use Rattle.raft.specs.declared.header.Role.{Role as Kind}
use Rattle.raft.specs.declared.header.Role.TheVariants.{Follower, Candidate}
use Rattle.raft.specs.declared.header.Machine.{Machine as Header}
use Rattle.raft.specs.declared.say.Due.{Due}
use Rattle.raft.specs.declared.say.Due.TheVariants.{RequestVote, TellTerm}
use Rattle.raft.specs.Header.{ticks, loaded, stored}
use Rattle.raft.specs.Rows.{row_set, only, others, most_of}
use Rattle.raft.specs.Say.{due_word, said_to_others, said_to}
use Rattle.raft.specs.Header.{in_term}
use Rattle.raft.specs.Election.{owner as owner_at, led, stood, campaigned, told, followed, term_entered}
use Rattle.raft.proofs.HeaderLaws.{Held, loaded_held, loaded_stored, loaded_alike, length_stored, stored_other}
use Rattle.raft.proofs.RowLaws.{length_row_put, row_put_other, row_put_same}
use Rattle.protocol.specs.Lists.{pick}
use Rattle.protocol.specs.History.{count, owner as owner_of}
use Rattle.machine.specs.Machine.{Machine, Role, follower, candidate, leader, Letter, here, Out, out, Outcome, outcome}
use Rattle.machine.specs.Step.{owner, is_majority, broadcast, request_of, as_candidate, as_follower, new_leader, become_leader, poll, enter, enter_higher}
use Rattle.join_several.specs.Stands.{conf, Stands}
use Rattle.join_several.specs.Does.{posted, Room}
use Rattle.join_several.proofs.Frames.{stands_from, applied_alike, due_row_long, due_row_behind, stands_said_others, stands_said, stands_stored}
use Rattle.join_several.proofs.Answered.{said_loaded, said_applied}
use Rattle.join_several.proofs.Leads.{said_others_loaded, said_others_applied, LeadsNow, led_leads}
use Rattle.join_several.proofs.Outs.{letter_of, posted_others, posted_to, to_others_cong, made_request, made_here}

-- who may stand in a term is the same in both
pub owner_same : (n t : ℕ) → 1 ≤ n → owner_at n t ≡ owner (conf n) t
unfolding owner_of
owner_same zero t l = absurd (omega arith)
owner_same (suc n) t l = refl

pub owner_least : (n t : ℕ) → 1 ≤ n → owner (conf n) t < n
owner_least n t l = subst (λ (k : ℕ). k < n) (owner_same n t l) (mod-lt t l)

-- ONE VOTE is no majority, unless there is one machine alone
count_none : (n id : ℕ) → n ≤ id → count (λ j. eqb j id) n ≡ 0
unfolding count
count_none zero id l = refl
count_none (suc n) id l = ap (λ (b : Bool). pick b (suc (count (λ j. eqb j id) n)) (count (λ j. eqb j id) n)) (ne_eqb n id (omega arith)) ∙ count_none n id (omega arith)

pub count_one : (n id : ℕ) → id < n → count (λ j. eqb j id) n ≡ 1
unfolding count
count_one zero id l = absurd (omega arith)
count_one (suc n) id l =
    elim (cases_eq n id) [
      | inl e ↦ ap (λ (b : Bool). pick b (suc (count (λ j. eqb j id) n)) (count (λ j. eqb j id) n)) (eq-eqb n id e) ∙ ap suc (count_none n id (omega arith))
      | inr ne ↦ ap (λ (b : Bool). pick b (suc (count (λ j. eqb j id) n)) (count (λ j. eqb j id) n)) (ne_eqb n id ne) ∙ count_one n id (omega arith)
    ]

one_vote : (n id : ℕ) → id < n → is_majority (conf n) (λ j. eqb j id) ≡ ltb n 2
unfolding is_majority
one_vote n id l = ap (λ (k : ℕ). ltb n (2 * k)) (count_one n id l)

pub one_is_few : (n id : ℕ) → 2 ≤ n → id < n → is_majority (conf n) (λ j. eqb j id) ≡ false
one_is_few n id many l = one_vote n id l ∙ le-ltb n 2 many

pub one_is_most : (n id : ℕ) → n ≡ 1 → id < n → is_majority (conf n) (λ j. eqb j id) ≡ true
one_is_most n id alone l = one_vote n id l ∙ lt-ltb n 2 (omega arith)

-- what is said leaves the log
pub said_log : (m : List ℕ) (h : Header Kind) (d : Due) → log_of (said_to_others m h d) ≡ log_of m
unfolding said_to_others
said_log m h d = header_log m (row_set m 29 (others h (due_word d))) (due_row_long m (others h (due_word d))) (λ i l. due_row_behind m (others h (due_word d)) i (omega arith))

pub told_log : (m : List ℕ) (j : ℕ) (d : Due) → log_of (said_to m j d) ≡ log_of m
unfolding said_to
told_log m j d = header_log m (row_set m 29 (only j (due_word d))) (due_row_long m (only j (due_word d))) (λ i l. due_row_behind m (only j (due_word d)) i (omega arith))

-- A TERM IS ENTERED: what memory is then, against what the theory makes of x
pub record Enters (n id : ℕ) (m m₁ : List ℕ) (d : Outcome (List ℕ)) : Type 0 where
  pub stands : Stands n id m₁ d.now
  pub sent : posted m₁ ≡ d.sent
  pub unsettled : (loaded m₁).unsettled ≡ true
  pub since : (loaded m₁).since ≡ (loaded m).since
  pub applied : applied_number m₁ ≡ applied_number m

-- what machine id of n says when it follows in term t: to all, or to the term's owner
abbrev pub saying : ℕ → ℕ → ℕ → Bool → List (Out (List ℕ))
saying n id t true = broadcast (conf n) id (λ _. here t)
saying n id t false = out (owner (conf n) t) (here t) ∷ []

flag_vote : (b : Bool) → eqb 1 (cond b 1 0) ≡ b
flag_vote true = refl
flag_vote false = refl

module _ (n id : ℕ) (m : List ℕ) (x : Machine (List ℕ)) (least : 1 ≤ n) (few : n ≤ 7) (own : id < n) (s : Stands n id m x) (t : ℕ) where
  abbrev h : Header Kind
  h = loaded m

  long : length m ≡ memory_words
  long = s.tidy.entries.long

  candidate_held : Held (in_term h t (Candidate (ticks 0)))
  candidate_held = let d = loaded_held m in record { some = d.some; few = d.few; one = d.one; waits = omega arith }

  follower_held : Held (in_term h t (Follower (ticks 0) false))
  follower_held = let d = loaded_held m in record { some = d.some; few = d.few; one = d.one; waits = omega arith }

  -- IT STANDS
  abbrev put : List ℕ
  put = stored m (in_term h t (Candidate (ticks 0)))

  abbrev voted : List ℕ
  voted = row_set put 8 (only h.id.0 1)

  abbrev stander : Machine (List ℕ)
  stander = as_candidate (as_follower x t) (λ j. eqb j id)

  put_long : length put ≡ memory_words
  put_long = length_stored m (in_term h t (Candidate (ticks 0))) ∙ long

  voted_long : length voted ≡ length m
  voted_long = length_row_put put 8 (only h.id.0 1) 7 ∙ length_stored m (in_term h t (Candidate (ticks 0)))

  voted_behind : (i : ℕ) → 64 ≤ i → get_or voted i 0 ≡ get_or m i 0
  voted_behind i l = row_put_other put 8 (only h.id.0 1) 7 i (λ j b. omega arith) ∙ stored_other m (in_term h t (Candidate (ticks 0))) i (omega arith)

  voted_header : loaded voted ≡ in_term h t (Candidate (ticks 0))
  voted_header =
      loaded_alike put voted (λ i l. row_put_other put 8 (only h.id.0 1) 7 i (λ j b. omega arith)) ∙ loaded_stored m (in_term h t (Candidate (ticks 0))) long candidate_held

  voted_row : (j : ℕ) → j < n → eqb 1 (get_or voted (8 + j) 0) ≡ eqb j id
  voted_row j l =
      ap (eqb 1) (row_put_same put 8 (only h.id.0 1) 7 j (omega arith) (omega (arith, put_long)))
      ∙ (flag_vote (eqb j h.id.0) ∙ ap (eqb j) s.self)

  voted_stands : Stands n id voted stander
  voted_stands =
      stands_from n id m voted (in_term h t (Candidate (ticks 0))) stander voted_long voted_behind voted_header s.tidy s.size s.self refl s.log s.commit
      (record { votes = λ j. eqb j id; role = refl; elapsed = refl; counted = voted_row })

  pub stood_enters : Enters n id m (stood m h t) (outcome stander (broadcast (conf n) id (λ _. request_of (as_follower x t))))
  unfolding stood
  stood_enters =
      let e : loaded (said_to_others voted h RequestVote) ≡ in_term h t (Candidate (ticks 0)) = said_others_loaded voted h RequestVote ∙ voted_header in
      record {
        stands = stands_said_others voted h RequestVote n id stander few voted_stands;
        sent = posted_others voted (voted_long ∙ long) h n id RequestVote few s.size s.self
            ∙ to_others_cong id (letter_of voted RequestVote) (λ _. request_of (as_follower x t)) n (λ j l. made_request n id voted stander voted_stands j);
        unsettled = ap (λ (y : Header Kind). y.unsettled) e;
        since = ap (λ (y : Header Kind). y.since) e;
        applied = said_others_applied voted h RequestVote ∙ applied_alike m voted voted_long voted_behind;
      }

  pub stood_log : log_of (stood m h t) ≡ log_of m
  unfolding stood
  stood_log = said_log voted h RequestVote ∙ header_log m voted voted_long voted_behind

  -- IT FOLLOWS
  abbrev down : List ℕ
  down = stored m (in_term h t (Follower (ticks 0) false))

  down_stands : Stands n id down (as_follower x t)
  down_stands =
      stands_stored n id m (in_term h t (Follower (ticks 0) false)) (as_follower x t) few s.tidy follower_held s.size s.self refl s.log s.commit
      (record { role = refl; elapsed = refl; heard = refl })

  down_header : loaded down ≡ in_term h t (Follower (ticks 0) false)
  down_header = loaded_stored m (in_term h t (Follower (ticks 0) false)) long follower_held

  down_long : length down ≡ memory_words
  down_long = length_stored m (in_term h t (Follower (ticks 0) false)) ∙ long

  down_applied : applied_number down ≡ applied_number m
  down_applied =
      applied_alike m down (length_stored m (in_term h t (Follower (ticks 0) false))) (λ i l. stored_other m (in_term h t (Follower (ticks 0) false)) i (omega arith))

  followed_by : (loud : Bool) → Enters n id m (told loud down h t) (outcome (as_follower x t) (saying n id t loud))
  followed_by true =
      let e : loaded (said_to_others down h TellTerm) ≡ in_term h t (Follower (ticks 0) false) = said_others_loaded down h TellTerm ∙ down_header in
      record {
        stands = stands_said_others down h TellTerm n id (as_follower x t) few down_stands;
        sent = posted_others down down_long h n id TellTerm few s.size s.self
            ∙ to_others_cong id (letter_of down TellTerm) (λ _. here t) n (λ j l. made_here n id down (as_follower x t) down_stands j);
        unsettled = ap (λ (y : Header Kind). y.unsettled) e;
        since = ap (λ (y : Header Kind). y.since) e;
        applied = said_others_applied down h TellTerm ∙ down_applied;
      }
  followed_by false =
      let j : ℕ = owner_at h.size.0 t in
      let is : owner_at h.size.0 t ≡ owner (conf n) t = ap (λ (k : ℕ). owner_at k t) s.size ∙ owner_same n t least in
      let e : loaded (said_to down j TellTerm) ≡ in_term h t (Follower (ticks 0) false) = said_loaded down j TellTerm ∙ down_header in
      record {
        stands = stands_said down j TellTerm n id (as_follower x t) few down_stands;
        sent = posted_to down down_long j TellTerm (omega (arith, is, owner_least n t least))
            ∙ (ap (λ (y : Letter (List ℕ)). out j y ∷ []) (made_here n id down (as_follower x t) down_stands j) ∙ ap (λ (k : ℕ). out k (here t) ∷ []) is);
        unsettled = ap (λ (y : Header Kind). y.unsettled) e;
        since = ap (λ (y : Header Kind). y.since) e;
        applied = said_applied down j TellTerm ∙ down_applied;
      }

  pub followed_enters : (loud : Bool) → Enters n id m (followed m h t loud) (outcome (as_follower x t) (saying n id t loud))
  unfolding followed
  followed_enters loud = followed_by loud

  told_by_log : (loud : Bool) → log_of (told loud down h t) ≡ log_of down
  told_by_log true = said_log down h TellTerm
  told_by_log false = told_log down (owner_at h.size.0 t) TellTerm

  pub followed_log : (loud : Bool) → log_of (followed m h t loud) ≡ log_of m
  unfolding followed
  followed_log loud =
      told_by_log loud
      ∙ header_log m down (length_stored m (in_term h t (Follower (ticks 0) false))) (λ i l. stored_other m (in_term h t (Follower (ticks 0) false)) i (omega arith))

-- one that leads now has entered a term
leads_room : (n id : ℕ) (y : Machine (List ℕ)) → Room (become_leader (conf n) id y).now → Room (new_leader (conf n) id y)
unfolding become_leader
leads_room n id y r = r

leads_enters : (n id : ℕ) (m m₁ : List ℕ) (y : Machine (List ℕ)) → LeadsNow n id m (loaded m) m₁ y → Enters n id m m₁ (become_leader (conf n) id y)
unfolding become_leader
leads_enters n id m m₁ y r = record { stands = r.stands; sent = r.sent; unsettled = r.unsettled; since = r.since; applied = r.applied }

-- WHAT THE THEORY DOES in a new term
module _ (n id : ℕ) (x : Machine (List ℕ)) (t : ℕ) (o : List (Out (List ℕ))) (own : id < n) where
  abbrev asks : List (Out (List ℕ))
  asks = broadcast (conf n) id (λ _. request_of (as_follower x t))

  enter_owns : eqb (owner (conf n) t) id ≡ true → enter (conf n) id x t o ≡ poll (conf n) id (as_follower x t) (λ j. eqb j id) asks
  unfolding enter
  enter_owns e = ap (λ (b : Bool). pick b (poll (conf n) id (as_follower x t) (λ j. eqb j id) asks) (outcome (as_follower x t) o)) e

  pub enter_follows : eqb (owner (conf n) t) id ≡ false → enter (conf n) id x t o ≡ outcome (as_follower x t) o
  unfolding enter
  enter_follows e = ap (λ (b : Bool). pick b (poll (conf n) id (as_follower x t) (λ j. eqb j id) asks) (outcome (as_follower x t) o)) e

  poll_waits : 2 ≤ n → poll (conf n) id (as_follower x t) (λ j. eqb j id) asks ≡ outcome (as_candidate (as_follower x t) (λ j. eqb j id)) asks
  unfolding poll
  poll_waits many =
      ap (λ (b : Bool). pick (b && ltb 2 10) (become_leader (conf n) id (as_follower x t)) (outcome (as_candidate (as_follower x t) (λ j. eqb j id)) asks)) (one_is_few n id many own)

  poll_leads : n ≡ 1 → poll (conf n) id (as_follower x t) (λ j. eqb j id) asks ≡ become_leader (conf n) id (as_follower x t)
  unfolding poll
  poll_leads alone =
      ap (λ (b : Bool). pick (b && ltb 2 10) (become_leader (conf n) id (as_follower x t)) (outcome (as_candidate (as_follower x t) (λ j. eqb j id)) asks)) (one_is_most n id alone own)

  pub enter_stands : eqb (owner (conf n) t) id ≡ true → 2 ≤ n → enter (conf n) id x t o ≡ outcome (as_candidate (as_follower x t) (λ j. eqb j id)) asks
  enter_stands e many = enter_owns e ∙ poll_waits many

  pub enter_leads : n ≡ 1 → enter (conf n) id x t o ≡ become_leader (conf n) id (as_follower x t)
  enter_leads alone = enter_owns (eq-eqb (owner (conf n) t) id (omega (arith, owner_least n t (omega arith)))) ∙ poll_leads alone

-- WHAT MEMORY DOES
module _ (n id : ℕ) (m : List ℕ) (t : ℕ) (least : 1 ≤ n) (size : (loaded m).size.0 ≡ n) (self : (loaded m).id.0 ≡ id) (loud : Bool) where
  owns : eqb (owner_at (loaded m).size.0 t) (loaded m).id.0 ≡ eqb (owner (conf n) t) id
  owns = (λ i. eqb (owner_at (size i) t) (self i)) ∙ ap (λ (k : ℕ). eqb k id) (owner_same n t least)

  pub entered_follows : eqb (owner (conf n) t) id ≡ false → term_entered m (loaded m) t loud ≡ followed m (loaded m) t loud
  unfolding term_entered
  entered_follows e = cond-false (eqb (owner_at (loaded m).size.0 t) (loaded m).id.0) (campaigned m (loaded m) t) (followed m (loaded m) t loud) (owns ∙ e)

  entered_owns : eqb (owner (conf n) t) id ≡ true → term_entered m (loaded m) t loud ≡ campaigned m (loaded m) t
  unfolding term_entered
  entered_owns e = cond-true (eqb (owner_at (loaded m).size.0 t) (loaded m).id.0) (campaigned m (loaded m) t) (followed m (loaded m) t loud) (owns ∙ e)

  pub entered_stands : eqb (owner (conf n) t) id ≡ true → 2 ≤ n → term_entered m (loaded m) t loud ≡ stood m (loaded m) t
  unfolding campaigned
  entered_stands e many =
      entered_owns e ∙ cond-false (most_of 1 (loaded m).size.0) (led m (loaded m) t) (stood m (loaded m) t) (le-ltb (loaded m).size.0 2 (omega arith))

  pub entered_leads : id < n → n ≡ 1 → term_entered m (loaded m) t loud ≡ led m (loaded m) t
  unfolding campaigned
  entered_leads own alone =
      entered_owns (eq-eqb (owner (conf n) t) id (omega (arith, owner_least n t least)))
      ∙ cond-true (most_of 1 (loaded m).size.0) (led m (loaded m) t) (stood m (loaded m) t) (lt-ltb (loaded m).size.0 2 (omega arith))

-- ONE MACHINE ALONE: to enter a term is to lead
pub entered_alone :
    (n id : ℕ) (m : List ℕ) (x : Machine (List ℕ)) (t : ℕ) (loud : Bool) → n ≡ 1 → id < n → Stands n id m x → Room (enter (conf n) id x t (saying n id t loud)).now →
    Enters n id m (term_entered m (loaded m) t loud) (enter (conf n) id x t (saying n id t loud))
entered_alone n id m x t loud alone own s room =
    let least : 1 ≤ n = omega arith in
    let a = entered_leads n id m t least s.size s.self loud own alone in
    let b = enter_leads n id x t (saying n id t loud) own alone in
    let r = led_leads n id m (loaded m) t (as_follower x t) (omega arith) s.tidy (loaded_held m) s.size s.self refl s.log s.commit
    (leads_room n id (as_follower x t) (subst (λ (d : Outcome (List ℕ)). Room d.now) b room)) in
    subst (λ (d : Outcome (List ℕ)). Enters n id m (term_entered m (loaded m) t loud) d) (sym b)
    (subst (λ (m₁ : List ℕ). Enters n id m m₁ (become_leader (conf n) id (as_follower x t))) (sym a) (leads_enters n id m (led m (loaded m) t) (as_follower x t) r))

-- SEVERAL MACHINES: to enter a term is to stand or to follow
pub entered_many :
    (n id : ℕ) (m : List ℕ) (x : Machine (List ℕ)) (t : ℕ) (loud : Bool) → 2 ≤ n → n ≤ 7 → id < n → Stands n id m x →
    Enters n id m (term_entered m (loaded m) t loud) (enter (conf n) id x t (saying n id t loud))
entered_many n id m x t loud many few own s =
    let least : 1 ≤ n = omega arith in
    elim (cases_Bool (eqb (owner (conf n) t) id)) [
      | inl e ↦
          let a = entered_stands n id m t least s.size s.self loud e many in
          let b = enter_stands n id x t (saying n id t loud) own e many in
          subst (λ (d : Outcome (List ℕ)). Enters n id m (term_entered m (loaded m) t loud) d) (sym b)
          (subst (λ (m₁ : List ℕ). Enters n id m m₁ (outcome (as_candidate (as_follower x t) (λ j. eqb j id)) (broadcast (conf n) id (λ _. request_of (as_follower x t))))) (sym a)
          (stood_enters n id m x least few own s t))
      | inr e ↦
          let a = entered_follows n id m t least s.size s.self loud e in
          let b = enter_follows n id x t (saying n id t loud) own e in
          subst (λ (d : Outcome (List ℕ)). Enters n id m (term_entered m (loaded m) t loud) d) (sym b)
          (subst (λ (m₁ : List ℕ). Enters n id m m₁ (outcome (as_follower x t) (saying n id t loud))) (sym a) (followed_enters n id m x least few own s t loud))
    ]

-- the rows of the log are as they were
pub entered_rows :
    (n id : ℕ) (m : List ℕ) (x : Machine (List ℕ)) (t : ℕ) (loud : Bool) → 2 ≤ n → n ≤ 7 → id < n → Stands n id m x → log_of (term_entered m (loaded m) t loud) ≡ log_of m
entered_rows n id m x t loud many few own s =
    let least : 1 ≤ n = omega arith in
    elim (cases_Bool (eqb (owner (conf n) t) id)) [
      | inl e ↦ ap log_of (entered_stands n id m t least s.size s.self loud e many) ∙ stood_log n id m x least few own s t
      | inr e ↦ ap log_of (entered_follows n id m t least s.size s.self loud e) ∙ followed_log n id m x least few own s t loud
    ]

-- ANY NUMBER OF MACHINES
pub entered_does :
    (n id : ℕ) (m : List ℕ) (x : Machine (List ℕ)) (t : ℕ) (loud : Bool) → 1 ≤ n → n ≤ 7 → id < n → Stands n id m x → Room (enter (conf n) id x t (saying n id t loud)).now →
    Enters n id m (term_entered m (loaded m) t loud) (enter (conf n) id x t (saying n id t loud))
entered_does n id m x t loud least few own s room =
    elim (cases_eq n 1) [
      | inl e ↦ entered_alone n id m x t loud e own s room
      | inr ne ↦ entered_many n id m x t loud (omega arith) few own s
    ]

abbrev pub NotLeader : Role → Type 0
NotLeader follower = Unit {0}
NotLeader (candidate v) = Unit {0}
NotLeader (leader a b) = ⊥

pub enter_low : (n id : ℕ) (x : Machine (List ℕ)) (t : ℕ) (o : List (Out (List ℕ))) → 2 ≤ n → id < n → NotLeader (enter (conf n) id x t o).now.role
enter_low n id x t o many own =
    elim (cases_Bool (eqb (owner (conf n) t) id)) [
      | inl e ↦ subst (λ (d : Outcome (List ℕ)). NotLeader d.now.role) (sym (enter_stands n id x t o own e many)) tt
      | inr e ↦ subst (λ (d : Outcome (List ℕ)). NotLeader d.now.role) (sym (enter_follows n id x t o own e)) tt
    ]

-- entering does not change the log nor what is decided
pub enter_log : (n id : ℕ) (x : Machine (List ℕ)) (t : ℕ) (o : List (Out (List ℕ))) → 2 ≤ n → id < n → (enter (conf n) id x t o).now.log ≡ x.log
enter_log n id x t o many own =
    elim (cases_Bool (eqb (owner (conf n) t) id)) [
      | inl e ↦ ap (λ (d : Outcome (List ℕ)). d.now.log) (enter_stands n id x t o own e many)
      | inr e ↦ ap (λ (d : Outcome (List ℕ)). d.now.log) (enter_follows n id x t o own e)
    ]

pub enter_at : (n id : ℕ) (x : Machine (List ℕ)) (t : ℕ) (o : List (Out (List ℕ))) → 2 ≤ n → id < n → (enter (conf n) id x t o).now.term ≡ t
enter_at n id x t o many own =
    elim (cases_Bool (eqb (owner (conf n) t) id)) [
      | inl e ↦ ap (λ (d : Outcome (List ℕ)). d.now.term) (enter_stands n id x t o own e many)
      | inr e ↦ ap (λ (d : Outcome (List ℕ)). d.now.term) (enter_follows n id x t o own e)
    ]

-- A TERM ENTERED BECAUSE OF A LETTER: the machine does not lead, and its log is as it was
pub record EnteredByLetter (n id : ℕ) (m m₁ : List ℕ) (x : Machine (List ℕ)) (t : ℕ) : Type 0 where
  pub enters : Enters n id m m₁ (enter_higher (conf n) id x t)
  pub low : NotLeader (enter_higher (conf n) id x t).now.role
  pub log : (enter_higher (conf n) id x t).now.log ≡ x.log
  pub rows : log_of m₁ ≡ log_of m
  pub term : (enter_higher (conf n) id x t).now.term ≡ t

pub entered_by_letter :
    (n id : ℕ) (m : List ℕ) (x : Machine (List ℕ)) (t : ℕ) → 2 ≤ n → n ≤ 7 → id < n → Stands n id m x → EnteredByLetter n id m (term_entered m (loaded m) t false) x t
entered_by_letter n id m x t many few own s =
    record {
      enters = entered_many n id m x t false many few own s;
      low = enter_low n id x t (saying n id t false) many own;
      log = enter_log n id x t (saying n id t false) many own;
      rows = entered_rows n id m x t false many few own s;
      term = enter_at n id x t (saying n id t false) many own;
    }
