-- A machine that comes to lead, and what a leader's rows stand for once what is decided is told from them.
use Rattle.std.proofs.Common.{◌≡◌, ℕ, suc, ◌+◌, ◌<◌, ◌≤◌, Bool, true, false, cond, eqb, List, length, get_or, set, sym, refl, ap, ◌∙◌, subst, inl, inr, arith}
use Rattle.std.proofs.lemmas.List.{get_or-set_same, get_or-set_other}
use Rattle.std.proofs.lemmas.Bool.{cond-true, cases_eq, le-leb, eq-eqb, ne_eqb}
use Rattle.raft_log.specs.Layout.{memory_words}
use Rattle.raft_log.specs.View.{log_of, Tidy}
use Rattle.raft_log.specs.Entries.{commit_index, applied_number, empty_place, empty_fits, empty_appended}
use Rattle.raft_log.proofs.AcceptLaws.{commit_tidy}
use Rattle.raft_log.proofs.LogChanges.{header_log, header_tidy}
use Rattle.raft_log.proofs.AppendLaws.{length_empty, empty_header, empty_applied}
use Rattle.raft_log.proofs.LogAppends.{empty_appended_log, empty_appended_tidy, renew_place_log}
use Rattle.raft.specs.declared.header.Role.{Role as Kind}
use Rattle.raft.specs.declared.header.Role.TheVariants.{Follower, Leader}
use Rattle.raft.specs.declared.header.Machine.{Machine as Header}
use Rattle.raft.specs.declared.say.Due.{Due}
use Rattle.raft.specs.declared.say.Due.TheVariants.{Append}
use Rattle.raft.specs.Header.{ticks, loaded, stored}
use Rattle.raft.specs.Rows.{row_set, only}
use Rattle.raft.specs.Say.{said_to_others}
use Rattle.raft.specs.Commit.{maybe_committed}
use Rattle.raft.specs.Header.{in_term}
use Rattle.raft.specs.Election.{rows_begun, led_with_room, led}
use Rattle.raft.proofs.HeaderLaws.{Held, loaded_stored, loaded_alike}
use Rattle.raft.proofs.RowLaws.{length_row_put, row_put_other, row_put_same}
use Rattle.protocol.specs.Lists.{upd}
use Rattle.protocol.specs.Log.{renew, renew_index}
use Rattle.protocol.proofs.Logs.{renew_length}
use Rattle.protocol.proofs.Updates.{upd_at, upd_other}
use Rattle.machine.specs.Machine.{Machine, leader}
use Rattle.machine.specs.Step.{broadcast, append_at, maybe_commit, leading, renewed, new_leader, become_leader}
use Rattle.join_several.specs.Stands.{conf, lift_log, Leads, RoleStands, Stands}
use Rattle.join_several.specs.Does.{posted, Room}
use Rattle.join_several.proofs.Frames.{commit_alike, applied_alike, due_row_long, due_row_before, due_row_behind, stands_stored, stands_said_others}
use Rattle.join_several.proofs.Answered.{stored_applied}
use Rattle.join_several.proofs.Outs.{letter_of, to_others_cong, posted_others, made_append}
use Rattle.join_several.proofs.Lifts.{lift_renew_index, lift_renewed}
use Rattle.join_several.proofs.Commits.{maybe_other, maybe_log, maybe_tidy, maybe_applied, maybe_commit_same}

-- in a tidy memory the commit is the word itself
pub commit_word : (m m₁ : List ℕ) → Tidy m → Tidy m₁ → get_or m₁ 65 0 ≡ get_or m 65 0 → commit_index m₁ ≡ commit_index m
commit_word m m₁ d d₁ e = commit_tidy m₁ d₁ ∙ (e ∙ sym (commit_tidy m d))

-- one word of a row is set: what the row says is updated there
pub set_row :
    {A : Type 0} (p : ℕ → A) (m : List ℕ) (base f w : ℕ) (a : ℕ → A) (n : ℕ) → base + n ≤ length m → f < n → ((j : ℕ) → j < n → p (get_or m (base + j) 0) ≡ a j) →
    (j : ℕ) → j < n → p (get_or (set m (base + f) w) (base + j) 0) ≡ upd a f (p w) j
set_row p m base f w a n long l row j b =
    elim (cases_eq j f) [
      | inl e ↦
          ap (λ (k : ℕ). p (get_or (set m (base + f) w) (base + k) 0)) e ∙ (ap p (get_or-set_same m (base + f) w 0 (omega arith)) ∙ sym (upd_at a f (p w) j e))
      | inr ne ↦ ap p (get_or-set_other m (base + f) (base + j) w 0 (omega arith)) ∙ (row j b ∙ sym (upd_other a f (p w) j ne))
    ]

-- A MEMORY THAT IS READY for a leader with the log and commit of z, to whom a is acknowledged and who sends b next
pub record Ready (n : ℕ) (m : List ℕ) (z : Machine (List ℕ)) (a b : ℕ → ℕ) : Type 0 where
  pub tidy : Tidy m
  pub log : lift_log (log_of m) ≡ z.log
  pub commit : commit_index m ≡ z.commit
  pub matched : (j : ℕ) → j < n → get_or m (15 + j) 0 ≡ a j
  pub sent : (j : ℕ) → j < n → get_or m (22 + j) 0 ≡ b j
  pub acked_most : (j : ℕ) → j < n → a j ≤ length z.log
  pub next_most : (j : ℕ) → j < n → b j ≤ suc (length z.log)

module _ (n : ℕ) (m : List ℕ) (z : Machine (List ℕ)) (a b : ℕ → ℕ) (few : n ≤ 7) (t : ℕ) (own : t ≡ z.term) (r : Ready n m z a b) where
  -- what is decided then
  pub ready_commit : commit_index (maybe_committed m n t) ≡ maybe_commit (conf n) z.term z.log a z.commit
  ready_commit =
      maybe_commit_same m n t z.log a few r.tidy r.log r.matched
      ∙ (ap (λ (u : ℕ). maybe_commit (conf n) u z.log a (commit_index m)) own ∙ ap (maybe_commit (conf n) z.term z.log a) r.commit)

  pub ready_leads : Leads n (maybe_committed m n t) (leading (conf n) z a b)
  ready_leads =
      record {
        acked = a;
        next = b;
        role = refl;
        matched = λ j l. maybe_other m n t (15 + j) (omega arith) ∙ r.matched j l;
        sent = λ j l. maybe_other m n t (22 + j) (omega arith) ∙ r.sent j l;
        acked_most = r.acked_most;
        next_most = r.next_most;
      }

  -- with a new struct
  pub ready_stored :
      (id : ℕ) (h : Header Kind) → Held h → h.size.0 ≡ n → h.id.0 ≡ id → h.term.0 ≡ z.term → h.role ≡ Leader →
      Stands n id (stored (maybe_committed m n t) h) (leading (conf n) z a b)
  ready_stored id h held size self term role =
      stands_stored n id (maybe_committed m n t) h (leading (conf n) z a b) few (maybe_tidy m n t r.tidy) held size self term (ap lift_log (maybe_log m n t) ∙ r.log) ready_commit
      (subst (λ (k : Kind). RoleStands n (maybe_committed m n t) k (leading (conf n) z a b)) (sym role) ready_leads)

  -- with the struct as it is
  pub ready_stands :
      (id : ℕ) → (loaded m).size.0 ≡ n → (loaded m).id.0 ≡ id → (loaded m).term.0 ≡ z.term → (loaded m).role ≡ Leader →
      Stands n id (maybe_committed m n t) (leading (conf n) z a b)
  ready_stands id size self term role =
      let e : loaded (maybe_committed m n t) ≡ loaded m = loaded_alike m (maybe_committed m n t) (λ i l. maybe_other m n t i (omega arith)) in
      record {
        tidy = maybe_tidy m n t r.tidy;
        size = ap (λ (y : Header Kind). y.size.0) e ∙ size;
        self = ap (λ (y : Header Kind). y.id.0) e ∙ self;
        term = ap (λ (y : Header Kind). y.term.0) e ∙ term;
        log = ap lift_log (maybe_log m n t) ∙ r.log;
        commit = ready_commit;
        role = subst (λ (k : Kind). RoleStands n (maybe_committed m n t) k (leading (conf n) z a b)) (sym (ap (λ (y : Header Kind). y.role) e ∙ role)) ready_leads;
      }

-- APPENDS TO ALL OTHERS are due
pub posted_appends :
    (n id : ℕ) (m : List ℕ) (x : Machine (List ℕ)) (h : Header Kind) (a b : ℕ → ℕ) → n ≤ 7 → Stands n id m x → h.size.0 ≡ n → h.id.0 ≡ id → x.role ≡ leader a b →
    posted (said_to_others m h Append) ≡ broadcast (conf n) id (λ j. append_at (conf n) x (b j))
posted_appends n id m x h a b few s size self is =
    posted_others m s.tidy.entries.long h n id Append few size self
    ∙ to_others_cong id (letter_of m Append) (λ j. append_at (conf n) x (b j)) n (λ j l. made_append n id m x s a b is j l)

-- what is said leaves the struct and what was applied
pub said_others_loaded : (m : List ℕ) (h : Header Kind) (d : Due) → loaded (said_to_others m h d) ≡ loaded m
unfolding said_to_others
said_others_loaded m h d = loaded_alike m (said_to_others m h d) (λ i l. due_row_before m _ i (omega arith))

pub said_others_applied : (m : List ℕ) (h : Header Kind) (d : Due) → applied_number (said_to_others m h d) ≡ applied_number m
unfolding said_to_others
said_others_applied m h d = applied_alike m (said_to_others m h d) (due_row_long m _) (λ i l. due_row_behind m _ i (omega arith))

-- THE ROWS OF A NEW LEADER
module _ (m : List ℕ) (id i : ℕ) where
  pub begun_length : length (rows_begun m id i) ≡ length m
  unfolding rows_begun
  begun_length = length_row_put (row_set m 15 (only id i)) 22 (λ _. i) 7 ∙ length_row_put m 15 (only id i) 7

  pub begun_behind : (k : ℕ) → 29 ≤ k → get_or (rows_begun m id i) k 0 ≡ get_or m k 0
  unfolding rows_begun
  begun_behind k l = row_put_other (row_set m 15 (only id i)) 22 (λ _. i) 7 k (λ j b. omega arith) ∙ row_put_other m 15 (only id i) 7 k (λ j b. omega arith)

  pub begun_matched : (j : ℕ) → j < 7 → 22 ≤ length m → get_or (rows_begun m id i) (15 + j) 0 ≡ only id i j
  unfolding rows_begun
  begun_matched j l long =
      row_put_other (row_set m 15 (only id i)) 22 (λ _. i) 7 (15 + j) (λ k b. omega arith) ∙ row_put_same m 15 (only id i) 7 j l (omega arith)

  pub begun_next : (j : ℕ) → j < 7 → 29 ≤ length m → get_or (rows_begun m id i) (22 + j) 0 ≡ i
  unfolding rows_begun
  begun_next j l long = row_put_same (row_set m 15 (only id i)) 22 (λ _. i) 7 j l (omega (arith, length_row_put m 15 (only id i) 7))

only_upd : (id i j : ℕ) → only id i j ≡ upd (λ _. 0) id i j
only_upd id i j =
    elim (cases_eq j id) [
      | inl e ↦ cond-true (eqb j id) i 0 (eq-eqb j id e) ∙ sym (upd_at (λ _. 0) id i j e)
      | inr ne ↦ ap (λ (b : Bool). cond b i 0) (ne_eqb j id ne) ∙ sym (upd_other (λ _. 0) id i j ne)
    ]

-- what one machine has is raised, and no more than k is had by any
pub upd_within : (a : ℕ → ℕ) (id i j k : ℕ) → i ≤ k → a j ≤ k → upd a id i j ≤ k
upd_within a id i j k l b = elim (cases_eq j id) [ inl e ↦ omega (arith, upd_at a id i j e) | inr ne ↦ omega (arith, upd_other a id i j ne) ]

-- A NEW LEADER'S MEMORY
pub record LeadsNow (n id : ℕ) (m : List ℕ) (h : Header Kind) (m₁ : List ℕ) (y : Machine (List ℕ)) : Type 0 where
  pub stands : Stands n id m₁ (new_leader (conf n) id y)
  pub sent : posted m₁ ≡ (become_leader (conf n) id y).sent
  pub unsettled : (loaded m₁).unsettled ≡ true
  pub since : (loaded m₁).since ≡ h.since
  pub applied : applied_number m₁ ≡ applied_number m

module _ (n id : ℕ) (m : List ℕ) (h : Header Kind) (t : ℕ) (y : Machine (List ℕ)) (few : n ≤ 7) (tidy : Tidy m) (held : Held h) (size : h.size.0 ≡ n) (self : h.id.0 ≡ id)
    (own : y.term ≡ t) (log : lift_log (log_of m) ≡ y.log) (commit : commit_index m ≡ y.commit) (room : Room (new_leader (conf n) id y)) where
  place_is : empty_place m ≡ length (renew y.term y.log)
  place_is =
      sym (renew_place_log m) ∙ (ap suc (lift_renew_index (log_of m) ∙ ap renew_index log) ∙ sym (renew_length y.term y.log))

  fits : empty_fits m ≡ true
  fits = le-leb (empty_place m) 8193 (omega (arith, place_is, room.long))

  abbrev m₁ : List ℕ
  m₁ = empty_appended m t

  abbrev m₂ : List ℕ
  m₂ = rows_begun m₁ id (empty_place m)

  long₁ : length m₁ ≡ memory_words
  long₁ = length_empty m t tidy.entries.long fits ∙ tidy.entries.long

  tidy₁ : Tidy m₁
  tidy₁ = empty_appended_tidy m t tidy fits

  log₁ : lift_log (log_of m₁) ≡ renew y.term y.log
  log₁ =
      ap lift_log (empty_appended_log m t tidy.entries fits) ∙ (lift_renewed t (log_of m) ∙ (ap (λ (u : ℕ). renew u (lift_log (log_of m))) (sym own) ∙ ap (renew y.term) log))

  commit₁ : commit_index m₁ ≡ y.commit
  commit₁ = commit_word m m₁ tidy tidy₁ (empty_header m t tidy.entries.long fits 65 (omega arith) (omega arith)) ∙ commit

  abbrev behind₂ : (i : ℕ) → 64 ≤ i → get_or m₂ i 0 ≡ get_or m₁ i 0
  behind₂ i l = begun_behind m₁ id (empty_place m) i (omega arith)

  ready : Ready n m₂ (renewed y) (upd (λ _. 0) id (length (renew y.term y.log))) (λ _. length (renew y.term y.log))
  ready =
      record {
        tidy = header_tidy m₁ m₂ (begun_length m₁ id (empty_place m)) behind₂ tidy₁;
        log = ap lift_log (header_log m₁ m₂ (begun_length m₁ id (empty_place m)) behind₂) ∙ log₁;
        commit = commit_alike m₁ m₂ (begun_length m₁ id (empty_place m)) behind₂ ∙ commit₁;
        matched = λ j l.
            begun_matched m₁ id (empty_place m) j (omega arith) (omega (arith, long₁))
            ∙ (only_upd id (empty_place m) j ∙ ap (λ (i : ℕ). upd (λ _. 0) id i j) place_is);
        sent = λ j l. begun_next m₁ id (empty_place m) j (omega arith) (omega (arith, long₁)) ∙ place_is;
        acked_most = λ j l. upd_within (λ _. 0) id (length (renew y.term y.log)) j (length (renew y.term y.log)) (omega arith) (omega arith);
        next_most = λ j l. omega arith;
      }

  held_leader : Held (in_term h t Leader)
  held_leader = record { some = held.some; few = held.few; one = held.one; waits = omega arith }

  abbrev m₃ : List ℕ
  m₃ = stored (maybe_committed m₂ n t) (in_term h t Leader)

  stands₃ : Stands n id m₃ (new_leader (conf n) id y)
  stands₃ =
      ready_stored n m₂ (renewed y) (upd (λ _. 0) id (length (renew y.term y.log))) (λ _. length (renew y.term y.log)) few t (sym own) ready id (in_term h t Leader)
      held_leader size self (sym own) refl

  loaded₃ : loaded m₃ ≡ in_term h t Leader
  loaded₃ = loaded_stored (maybe_committed m₂ n t) (in_term h t Leader) (maybe_tidy m₂ n t ready.tidy).entries.long held_leader

  applied₃ : applied_number m₃ ≡ applied_number m
  applied₃ =
      stored_applied (maybe_committed m₂ n t) (in_term h t Leader)
      ∙ (maybe_applied m₂ n t ∙ (applied_alike m₁ m₂ (begun_length m₁ id (empty_place m)) behind₂ ∙ empty_applied m t tidy.entries.long fits))

  led_is : led m h t ≡ said_to_others m₃ h Append
  unfolding led led_with_room
  led_is =
      cond-true (empty_fits m) (led_with_room m h t) (stored m (in_term h t (Follower (ticks 0) false))) fits
      ∙ (λ i. said_to_others (stored (maybe_committed (rows_begun m₁ (self i) (empty_place m)) (size i) t) (in_term h t Leader)) h Append)

  leads_then : LeadsNow n id m h (said_to_others m₃ h Append) y
  unfolding become_leader
  leads_then =
      let e : loaded (said_to_others m₃ h Append) ≡ in_term h t Leader = said_others_loaded m₃ h Append ∙ loaded₃ in
      record {
        stands = stands_said_others m₃ h Append n id (new_leader (conf n) id y) few stands₃;
        sent =
            posted_appends n id m₃ (new_leader (conf n) id y) h (upd (λ _. 0) id (length (renew y.term y.log))) (λ _. length (renew y.term y.log)) few stands₃ size self refl;
        unsettled = ap (λ (z : Header Kind). z.unsettled) e;
        since = ap (λ (z : Header Kind). z.since) e;
        applied = said_others_applied m₃ h Append ∙ applied₃;
      }

  -- IT LEADS in term t, with the log and commit of y
  pub led_leads : LeadsNow n id m h (led m h t) y
  led_leads = subst (λ (z : List ℕ). LeadsNow n id m h z y) (sym led_is) leads_then
