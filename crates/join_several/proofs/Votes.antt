-- A candidate gets a vote: it waits for more, or it leads.
use Rattle.std.proofs.Common.{◌≡◌, ℕ, zero, suc, ◌+◌, ◌*◌, ◌<◌, ◌≤◌, Bool, true, false, ◌&&◌, eqb, ltb, ◌≢◌, List, [], ◌∷◌, length, get_or, set, sym, refl, ap, ◌∙◌, subst, inl, inr, arith}
use Rattle.std.proofs.lemmas.List.{length-set, get_or-set_other, length-append}
use Rattle.std.proofs.lemmas.Bool.{lt-ltb, le-ltb, ne_eqb, cases_eq, cases_lt, cases_Bool, cond-true, cond-false, true≢false}
use Rattle.raft_log.specs.Layout.{memory_words}
use Rattle.raft.specs.declared.header.Ticks.{Ticks}
use Rattle.raft.specs.declared.header.Role.{Role as Kind}
use Rattle.raft.specs.declared.header.Role.TheVariants.{Candidate}
use Rattle.raft.specs.declared.header.Machine.{Machine as Header}
use Rattle.raft.specs.Header.{loaded}
use Rattle.raft.specs.Rows.{vote_count, most_of}
use Rattle.raft.specs.Election.{led, wins_now, vote_taken}
use Rattle.raft.proofs.HeaderLaws.{loaded_alike, loaded_held}
use Rattle.protocol.specs.Lists.{pick, upd}
use Rattle.protocol.specs.History.{count}
use Rattle.machine.specs.Machine.{Machine, Role, follower, candidate, leader, Letter, Out, out, Outcome, outcome}
use Rattle.machine.specs.Step.{is_majority, to_others, append_at, new_leader, become_leader, as_candidate, poll}
use Rattle.join_several.specs.Stands.{conf, Stood, RoleStands, Stands}
use Rattle.join_several.specs.Does.{posted, Room, Told, says, keeps, Handles}
use Rattle.join_several.proofs.Frames.{stands_from, applied_alike}
use Rattle.join_several.proofs.Outs.{posted_alike}
use Rattle.join_several.proofs.Commits.{count_row}
use Rattle.join_several.proofs.Leads.{set_row, led_leads}

-- LETTERS TO ALL OTHERS are some, where there is another machine f
pub others_some : (id f : ℕ) (g : ℕ → Letter (List ℕ)) (n : ℕ) → f < n → f ≢ id → 0 < length (to_others id g n)
unfolding to_others
others_some id f g zero l ne = omega arith
others_some id f g (suc n) l ne =
    let long = length-append (to_others id g n) (pick (eqb n id) [] (out n (g n) ∷ [])) in
    elim (cases_eq f n) [
      | inl e ↦
          let last : length (pick (eqb n id) [] (out n (g n) ∷ [])) ≡ 1 = ap (λ (b : Bool). length (pick b [] (out n (g n) ∷ []))) (ne_eqb n id (λ q. ne (e ∙ q))) in
          omega arith
      | inr other ↦ omega (arith, others_some id f g n (omega arith) ne)
    ]

pub told_some : (m m₁ : List ℕ) (o : List (Out (List ℕ))) → 0 < length o → posted m₁ ≡ o → Told m m₁ o
told_some m m₁ [] l p = absurd (omega arith)
told_some m m₁ (y ∷ ys) l p = says y ys refl p

-- the votes that a candidate has
abbrev votes_of : Role → ℕ → Bool
votes_of follower = λ _. false
votes_of (candidate v) = v
votes_of (leader a b) = λ _. false

early : (e k : ℕ) → e ≡ k → ltb e 8 ≡ ltb (k + 2) 10
early e k same =
    elim (cases_lt e 8) [ inl l ↦ lt-ltb e 8 l ∙ sym (lt-ltb (k + 2) 10 (omega arith)) | inr l ↦ le-ltb e 8 l ∙ sym (le-ltb (k + 2) 10 (omega arith)) ]

module _ (n id f : ℕ) (few : n ≤ 7) (sender : f < n) (other : f ≢ id) (m : List ℕ) (x : Machine (List ℕ)) (e : Ticks) (v : ℕ → Bool) (s : Stands n id m x)
    (role : (loaded m).role ≡ Candidate e) (is : x.role ≡ candidate v) where
  stood : Stood n m e.0 x
  stood = subst (λ (k : Kind). RoleStands n m k x) role s.role

  abbrev m₁ : List ℕ
  m₁ = set m (8 + f) 1

  long : length m ≡ memory_words
  long = s.tidy.entries.long

  long₁ : length m₁ ≡ length m
  long₁ = length-set m (8 + f) 1

  other₁ : (i : ℕ) → i ≢ 8 + f → get_or m₁ i 0 ≡ get_or m i 0
  other₁ i ne = get_or-set_other m (8 + f) i 1 0 ne

  behind₁ : (i : ℕ) → 64 ≤ i → get_or m₁ i 0 ≡ get_or m i 0
  behind₁ i l = other₁ i (omega arith)

  loaded₁ : loaded m₁ ≡ loaded m
  loaded₁ = loaded_alike m m₁ (λ i l. other₁ i (omega arith))

  -- the row of votes
  counted₁ : (j : ℕ) → j < n → eqb 1 (get_or m₁ (8 + j) 0) ≡ upd v f true j
  counted₁ j l =
      set_row (eqb 1) m 8 f 1 v n (omega (arith, long)) sender (λ k q. stood.counted k q ∙ ap (λ (r : Role). votes_of r k) (sym stood.role ∙ is)) j l

  wins_same : wins_now m₁ (loaded m) e ≡ (is_majority (conf n) (upd v f true) && ltb (x.elapsed + 2) 10)
  unfolding is_majority
  wins_same =
      let size = s.size in
      let num : vote_count m₁ n ≡ count (upd v f true) n = count_row (eqb 1) (upd v f true) m₁ 8 n (omega (arith, long, long₁)) counted₁ in
      let soon = early e.0 x.elapsed stood.elapsed in
      (λ i. most_of (vote_count m₁ (size i)) (size i) && ltb e.0 8) ∙ (λ i. ltb n (2 * num i) && soon i)

  -- it waits for more votes
  stands₁ : Stands n id m₁ (as_candidate x (upd v f true))
  stands₁ =
      stands_from n id m m₁ (loaded m) (as_candidate x (upd v f true)) long₁ behind₁ loaded₁ s.tidy s.size s.self s.term s.log s.commit
      (subst (λ (k : Kind). RoleStands n m₁ k (as_candidate x (upd v f true))) (sym role) (record { votes = upd v f true; role = refl; elapsed = stood.elapsed; counted = counted₁ }))

  waits_on : Handles n id m m₁ x (outcome (as_candidate x (upd v f true)) [])
  waits_on =
      record {
        stands = stands₁;
        told = keeps refl (posted_alike m m₁ (ap (λ (y : Header Kind). y.term.0) loaded₁) (λ i a b. other₁ i (omega arith)) behind₁);
        still_unsettled = λ u. ap (λ (y : Header Kind). y.unsettled) loaded₁ ∙ u;
        safe = λ u. record { term = refl; log = refl };
        since = ap (λ (y : Header Kind). y.since) loaded₁;
        applied = applied_alike m m₁ long₁ behind₁;
      }

  -- it leads
  leads : Room (new_leader (conf n) id x) → Handles n id m (led m₁ (loaded m) (loaded m).term.0) x (become_leader (conf n) id x)
  unfolding become_leader
  leads room =
      let l = led_leads n id m₁ (loaded m) (loaded m).term.0 x few stands₁.tidy (loaded_held m) s.size s.self (sym s.term) stands₁.log stands₁.commit room in
      record {
        stands = l.stands;
        told = told_some m (led m₁ (loaded m) (loaded m).term.0) (become_leader (conf n) id x).sent
            (others_some id f (λ _. append_at (conf n) (new_leader (conf n) id x) (length (new_leader (conf n) id x).log)) n sender other) l.sent;
        still_unsettled = λ u. l.unsettled;
        safe = λ u. absurd (true≢false (sym l.unsettled ∙ u));
        since = l.since;
        applied = l.applied ∙ applied_alike m m₁ long₁ behind₁;
      }

  -- A VOTE
  pub vote_handled : Room (poll (conf n) id x (upd v f true) []).now → Handles n id m (vote_taken m (loaded m) e f) x (poll (conf n) id x (upd v f true) [])
  unfolding vote_taken poll become_leader
  vote_handled room =
      elim (cases_Bool (wins_now m₁ (loaded m) e)) [
        | inl w ↦
            let p : poll (conf n) id x (upd v f true) [] ≡ become_leader (conf n) id x =
            ap (λ (b : Bool). pick b (become_leader (conf n) id x) (outcome (as_candidate x (upd v f true)) [])) (sym wins_same ∙ w) in
            subst (λ (z : List ℕ). Handles n id m z x (poll (conf n) id x (upd v f true) []))
            (sym (cond-true (wins_now m₁ (loaded m) e) (led m₁ (loaded m) (loaded m).term.0) m₁ w))
            (subst (λ (d : Outcome (List ℕ)). Handles n id m (led m₁ (loaded m) (loaded m).term.0) x d) (sym p) (leads (subst (λ (d : Outcome (List ℕ)). Room d.now) p room)))
        | inr w ↦
            let p : poll (conf n) id x (upd v f true) [] ≡ outcome (as_candidate x (upd v f true)) [] =
            ap (λ (b : Bool). pick b (become_leader (conf n) id x) (outcome (as_candidate x (upd v f true)) [])) (sym wins_same ∙ w) in
            subst (λ (z : List ℕ). Handles n id m z x (poll (conf n) id x (upd v f true) []))
            (sym (cond-false (wins_now m₁ (loaded m) e) (led m₁ (loaded m) (loaded m).term.0) m₁ w))
            (subst (λ (d : Outcome (List ℕ)). Handles n id m m₁ x d) (sym p) waits_on)
      ]
