-- A leader hears what another machine has, or that it lacks what was sent. Where an acknowledgement asks for no letter, none may be due before: what is sent next has risen.
use Rattle.std.proofs.Common.{◌≡◌, ℕ, suc, ◌+◌, ◌<◌, ◌≤◌, min, max, Bool, true, false, cond, ◌&&◌, eqb, ltb, leb, ◌≢◌, List, [], ◌∷◌, length, get_or, set, sym, refl, ap, ◌∙◌, subst, inl, inr, arith}
use Rattle.std.proofs.lemmas.List.{length-set, get_or-set_other}
use Rattle.std.proofs.lemmas.Bool.{lt-ltb, le-ltb, ltb-true, ltb-false, leb-true, eqb-true, eq-eqb, ne_eqb, and_parts, cases_eq, cases_lt, cases_Bool, cond-true, cond-false, cond_both, true≢false}
use Rattle.raft_log.specs.Layout.{memory_words}
use Rattle.raft_log.specs.Entries.{last_index, commit_index, applied_number}
use Rattle.raft_log.proofs.LogLaws.{last_most}
use Rattle.raft_log.proofs.LogChanges.{header_log, header_tidy}
use Rattle.raft.specs.declared.header.Role.{Role as Kind}
use Rattle.raft.specs.declared.header.Role.TheVariants.{Leader}
use Rattle.raft.specs.declared.header.Machine.{Machine as Header}
use Rattle.raft.specs.declared.say.Due.TheVariants.{Append}
use Rattle.raft.specs.Header.{at_least, loaded}
use Rattle.raft.specs.Rows.{matched_at, next_at}
use Rattle.raft.specs.Say.{said_to_others, said_to}
use Rattle.raft.specs.Commit.{maybe_committed}
use Rattle.raft.specs.Outbox.{mail_due}
use Rattle.raft.specs.Progress.{after, matched_then, next_then, matched_raised, spread, ack_taken, next_below as row_Below, rejects_next, reject_taken}
use Rattle.raft.proofs.HeaderLaws.{loaded_alike}
use Rattle.protocol.specs.Lists.{pick, upd}
use Rattle.protocol.specs.Log.{Log, term_before}
use Rattle.protocol.proofs.Updates.{pick_both, upd_same}
use Rattle.machine.specs.Machine.{Conf, Machine, machine, Role, follower, candidate, leader, Letter, out, Outcome, outcome}
use Rattle.machine.specs.Step.{broadcast, append_at, majority_index, maybe_commit, leading, matched, next_after, handle_ack, next_below, handle_reject}
use Rattle.join_several.specs.Stands.{conf, lift_log, Leads, RoleStands, Stands}
use Rattle.join_several.specs.Does.{says, keeps, Handles}
use Rattle.join_several.proofs.Frames.{stands_from, commit_alike, applied_alike, stands_said, stands_said_others}
use Rattle.join_several.proofs.Outs.{letter_of, posted_quiet, none_alike, posted_to, next_of, made_append}
use Rattle.join_several.proofs.Answered.{said_loaded, said_applied}
use Rattle.join_several.proofs.Requests.{nothing_handled}
use Rattle.join_several.proofs.Commits.{maybe_other, maybe_applied}
use Rattle.join_several.proofs.Leads.{upd_within, set_row, Ready, ready_stands, posted_appends, said_others_loaded, said_others_applied}
use Rattle.join_several.proofs.Votes.{others_some, told_some}
use Rattle.join_several.proofs.Lifts.{lift_last}

-- the larger and the smaller of two, as the code tells them
at_least_max : (n limit : ℕ) → at_least n limit ≡ max limit n
at_least_max n limit = cond_both (ltb limit n) n limit (λ (k : ℕ). k ≡ max limit n) (λ e. omega (arith, ltb-true limit n e)) (λ e. omega (arith, ltb-false limit n e))

hint_min : (h p : ℕ) → cond (ltb h p) (h + 1) p ≡ min p (suc h)
hint_min h p = cond_both (ltb h p) (h + 1) p (λ (k : ℕ). k ≡ min p (suc h)) (λ e. omega (arith, ltb-true h p e)) (λ e. omega (arith, ltb-false h p e))

-- the index after k, which a log of this size always has
after_suc : (k : ℕ) → k ≤ 8194 → after k ≡ suc k
after_suc k l = cond-true (ltb k 18446744073709551615) (k + 1) k (lt-ltb k 18446744073709551615 (omega arith)) ∙ omega arith

after_same : (k p : ℕ) → k ≤ 8194 → eqb k (after p) ≡ eqb (suc p) k
after_same k p l =
    elim (cases_lt p 18446744073709551615) [
      | inl b ↦
          let e : after p ≡ suc p = cond-true (ltb p 18446744073709551615) (p + 1) p (lt-ltb p 18446744073709551615 b) ∙ omega arith in
          elim (cases_eq k (suc p)) [
            | inl q ↦ ap (eqb k) e ∙ (eq-eqb k (suc p) q ∙ sym (eq-eqb (suc p) k (sym q)))
            | inr q ↦ ap (eqb k) e ∙ (ne_eqb k (suc p) q ∙ sym (ne_eqb (suc p) k (λ w. q (sym w))))
          ]
      | inr b ↦
          let e : after p ≡ p = cond-false (ltb p 18446744073709551615) (p + 1) p (le-ltb p 18446744073709551615 b) in
          ap (eqb k) e ∙ (ne_eqb k p (λ w. omega arith) ∙ sym (ne_eqb (suc p) k (λ w. omega arith)))
    ]

-- a commit that does not rise stays
commit_stays : {A : Type 0} (c : Conf) (t : ℕ) (l : Log A) (a : ℕ → ℕ) (k : ℕ) → ltb k (maybe_commit c t l a k) ≡ false → maybe_commit c t l a k ≡ k
unfolding maybe_commit
commit_stays c t l a k =
    pick_both (λ (q : ℕ). ltb k q ≡ false → q ≡ k) (ltb k (majority_index c a (length l)) && eqb (term_before l (majority_index c a (length l))) t) (majority_index c a (length l)) k
    (λ e f. absurd (true≢false (sym (and_parts (ltb k (majority_index c a (length l))) (eqb (term_before l (majority_index c a (length l))) t) e).0 ∙ f))) (λ e f. refl)

-- what a leader knows is what its memory says
abbrev acked_of : Role → ℕ → ℕ
acked_of follower = λ _. 0
acked_of (candidate v) = λ _. 0
acked_of (leader a b) = a

module _ (n id f : ℕ) (few : n ≤ 7) (sender : f < n) (other : f ≢ id) (m : List ℕ) (x : Machine (List ℕ)) (a b : ℕ → ℕ) (s : Stands n id m x)
    (role : (loaded m).role ≡ Leader) (is : x.role ≡ leader a b) where
  lead : Leads n m x
  lead = subst (λ (k : Kind). RoleStands n m k x) role s.role

  same_role : leader lead.acked lead.next ≡ leader a b
  same_role = sym lead.role ∙ is

  row_a : (j : ℕ) → j < n → matched_at m j ≡ a j
  row_a j l = lead.matched j l ∙ ap (λ (r : Role). acked_of r j) same_role

  row_b : (j : ℕ) → j < n → next_at m j ≡ b j
  row_b j l = lead.sent j l ∙ ap (λ (r : Role). next_of r j) same_role

  most_a : (j : ℕ) → j < n → a j ≤ length x.log
  most_a j l = subst (λ (k : ℕ). k ≤ length x.log) (ap (λ (r : Role). acked_of r j) same_role) (lead.acked_most j l)

  most_b : (j : ℕ) → j < n → b j ≤ suc (length x.log)
  most_b j l = subst (λ (k : ℕ). k ≤ suc (length x.log)) (ap (λ (r : Role). next_of r j) same_role) (lead.next_most j l)

  long : length m ≡ memory_words
  long = s.tidy.entries.long

  last_is : last_index m ≡ length x.log
  last_is = lift_last m x.log s.log

  short : length x.log ≤ 8193
  short = omega (arith, last_is, last_most m)

  -- A REJECTION
  module _ (p h : ℕ) where
    abbrev below : ℕ
    below = next_below a f p h

    below_is : row_Below m f p h ≡ below
    below_is =
        at_least_max (cond (ltb h p) (h + 1) p) (matched_at m f + 1)
        ∙ (ap (max (matched_at m f + 1)) (hint_min h p) ∙ ap (λ (k : ℕ). max k (min p (suc h))) (omega (arith, row_a f sender)))

    rejects_same : rejects_next m f p ≡ (eqb (suc p) (b f) && ltb (a f) p)
    rejects_same =
        let nx = row_b f sender in
        let mt = row_a f sender in
        (λ i. eqb (nx i) (after p) && ltb (mt i) p) ∙ ap (λ (y : Bool). y && ltb (a f) p) (after_same (b f) p (omega (arith, most_b f sender, short)))

    abbrev r₁ : List ℕ
    r₁ = set m (22 + f) below

    r_other : (i : ℕ) → i ≢ 22 + f → get_or r₁ i 0 ≡ get_or m i 0
    r_other i ne = get_or-set_other m (22 + f) i below 0 ne

    r_long : length r₁ ≡ length m
    r_long = length-set m (22 + f) below

    r_behind : (i : ℕ) → 64 ≤ i → get_or r₁ i 0 ≡ get_or m i 0
    r_behind i l = r_other i (omega arith)

    r_loaded : loaded r₁ ≡ loaded m
    r_loaded = loaded_alike m r₁ (λ i l. r_other i (omega arith))

    abbrev x₁ : Machine (List ℕ)
    x₁ = machine x.term (leader a (upd b f below)) x.heard x.elapsed x.log x.commit

    r_leads : p < b f → Leads n r₁ x₁
    r_leads up =
        let fits : below ≤ suc (length x.log) = omega (arith, most_a f sender, most_b f sender) in
        record {
          acked = a;
          next = upd b f below;
          role = refl;
          matched = λ j l. r_other (15 + j) (omega arith) ∙ row_a j l;
          sent = λ j l. set_row (λ (w : ℕ). w) m 22 f below b n (omega (arith, long)) sender row_b j l;
          acked_most = most_a;
          next_most = λ j l. upd_within b f below j (suc (length x.log)) fits (most_b j l);
        }

    r_stands : p < b f → Stands n id r₁ x₁
    r_stands up =
        stands_from n id m r₁ (loaded m) x₁ r_long r_behind r_loaded s.tidy s.size s.self s.term s.log s.commit (subst (λ (k : Kind). RoleStands n r₁ k x₁) (sym role) (r_leads up))

    r_says : p < b f → Handles n id m (said_to r₁ f Append) x (outcome x₁ (out f (append_at (conf n) x below) ∷ []))
    r_says up =
        let st = r_stands up in
        let e : loaded (said_to r₁ f Append) ≡ loaded m = said_loaded r₁ f Append ∙ r_loaded in
        let letter : letter_of r₁ Append f ≡ append_at (conf n) x below = made_append n id r₁ x₁ st a (upd b f below) refl f sender ∙ ap (append_at (conf n) x) (upd_same b f below) in
        record {
          stands = stands_said r₁ f Append n id x₁ few st;
          told = says (out f (append_at (conf n) x below)) [] refl
              (posted_to r₁ (r_long ∙ long) f Append (omega arith) ∙ ap (λ (y : Letter (List ℕ)). out f y ∷ []) letter);
          still_unsettled = λ u. ap (λ (y : Header Kind). y.unsettled) e ∙ u;
          safe = λ u. record { term = refl; log = refl };
          since = ap (λ (y : Header Kind). y.since) e;
          applied = said_applied r₁ f Append ∙ applied_alike m r₁ r_long r_behind;
        }

    pub reject_handled : Handles n id m (reject_taken m f p h) x (handle_reject (conf n) f x p h a b)
    unfolding reject_taken handle_reject
    reject_handled =
        elim (cases_Bool (eqb (suc p) (b f) && ltb (a f) p)) [
          | inl y ↦
              let up : p < b f = omega (arith, eqb-true (suc p) (b f) (and_parts (eqb (suc p) (b f)) (ltb (a f) p) y).0) in
              let q : reject_taken m f p h ≡ said_to r₁ f Append =
              cond-true (rejects_next m f p) (said_to (set m (22 + f) (row_Below m f p h)) f Append) m (rejects_same ∙ y) ∙ ap (λ (w : ℕ). said_to (set m (22 + f) w) f Append) below_is in
              let d : handle_reject (conf n) f x p h a b ≡ outcome x₁ (out f (append_at (conf n) x below) ∷ []) =
              ap (λ (t : Bool). pick t (outcome x₁ (out f (append_at (conf n) x below) ∷ [])) (outcome x [])) y in
              subst (λ (z : List ℕ). Handles n id m z x (handle_reject (conf n) f x p h a b)) (sym q)
              (subst (λ (o : Outcome (List ℕ)). Handles n id m (said_to r₁ f Append) x o) (sym d) (r_says up))
          | inr y ↦
              let q : reject_taken m f p h ≡ m = cond-false (rejects_next m f p) (said_to (set m (22 + f) (row_Below m f p h)) f Append) m (rejects_same ∙ y) in
              let d : handle_reject (conf n) f x p h a b ≡ outcome x [] =
              ap (λ (t : Bool). pick t (outcome x₁ (out f (append_at (conf n) x below) ∷ [])) (outcome x [])) y in
              subst (λ (z : List ℕ). Handles n id m z x (handle_reject (conf n) f x p h a b)) (sym q)
              (subst (λ (o : Outcome (List ℕ)). Handles n id m m x o) (sym d) (nothing_handled n id m x s))
        ]

  -- AN ACKNOWLEDGEMENT of i, which the log reaches
  module _ (i : ℕ) where
    abbrev a₁ : ℕ → ℕ
    a₁ = matched a f i

    abbrev next₁ : ℕ
    next₁ = next_after a b f i

    abbrev b₁ : ℕ → ℕ
    b₁ = upd b f next₁

    abbrev k₁ : ℕ
    k₁ = maybe_commit (conf n) x.term x.log a₁ x.commit

    abbrev then : Machine (List ℕ)
    then = leading (conf n) x a₁ b₁

    module _ (within : i ≤ length x.log) where
      matched_is : matched_then m f i ≡ max (a f) i
      matched_is = at_least_max i (matched_at m f) ∙ ap (λ (k : ℕ). max k i) (row_a f sender)

      next_is : next_then m f i ≡ next₁
      next_is =
          let e : after (matched_then m f i) ≡ suc (max (a f) i) = ap after matched_is ∙ after_suc (max (a f) i) (omega (arith, most_a f sender, short)) in
          at_least_max (after (matched_then m f i)) (next_at m f) ∙ (ap (max (next_at m f)) e ∙ ap (λ (k : ℕ). max k (suc (max (a f) i))) (row_b f sender))

      abbrev m₀ : List ℕ
      m₀ = set m (15 + f) (max (a f) i)

      abbrev m₁ : List ℕ
      m₁ = set m₀ (22 + f) next₁

      raised_is : matched_raised m f i ≡ m₁
      unfolding matched_raised
      raised_is = let p = matched_is in let q = next_is in λ j. set (set m (15 + f) (p j)) (22 + f) (q j)

      long₁ : length m₁ ≡ length m
      long₁ = length-set m₀ (22 + f) next₁ ∙ length-set m (15 + f) (max (a f) i)

      other₁ : (j : ℕ) → j ≢ 15 + f → j ≢ 22 + f → get_or m₁ j 0 ≡ get_or m j 0
      other₁ j p q = get_or-set_other m₀ (22 + f) j next₁ 0 q ∙ get_or-set_other m (15 + f) j (max (a f) i) 0 p

      behind₁ : (j : ℕ) → 64 ≤ j → get_or m₁ j 0 ≡ get_or m j 0
      behind₁ j l = other₁ j (omega arith) (omega arith)

      loaded₁ : loaded m₁ ≡ loaded m
      loaded₁ = loaded_alike m m₁ (λ j l. other₁ j (omega arith) (omega arith))

      ready : Ready n m₁ x a₁ b₁
      ready =
          let top : max (a f) i ≤ length x.log = omega (arith, most_a f sender) in
          let fits : next₁ ≤ suc (length x.log) = omega (arith, most_a f sender, most_b f sender) in
          record {
            tidy = header_tidy m m₁ long₁ behind₁ s.tidy;
            log = ap lift_log (header_log m m₁ long₁ behind₁) ∙ s.log;
            commit = commit_alike m m₁ long₁ behind₁ ∙ s.commit;
            matched = λ j l.
                get_or-set_other m₀ (22 + f) (15 + j) next₁ 0 (omega arith) ∙ set_row (λ (w : ℕ). w) m 15 f (max (a f) i) a n (omega (arith, long)) sender row_a j l;
            sent = λ j l.
                set_row (λ (w : ℕ). w) m₀ 22 f next₁ b n (omega (arith, long, length-set m (15 + f) (max (a f) i))) sender
                (λ k q. get_or-set_other m (15 + f) (22 + k) (max (a f) i) 0 (omega arith) ∙ row_b k q) j l;
            acked_most = λ j l. upd_within a f (max (a f) i) j (length x.log) top (most_a j l);
            next_most = λ j l. upd_within b f next₁ j (suc (length x.log)) fits (most_b j l);
          }

      abbrev t : ℕ
      t = (loaded m).term.0

      abbrev m₂ : List ℕ
      m₂ = maybe_committed m₁ n t

      stands₂ : Stands n id m₂ then
      stands₂ =
          ready_stands n m₁ x a₁ b₁ few t s.term ready id (ap (λ (y : Header Kind). y.size.0) loaded₁ ∙ s.size) (ap (λ (y : Header Kind). y.id.0) loaded₁ ∙ s.self)
          (ap (λ (y : Header Kind). y.term.0) loaded₁ ∙ s.term) (ap (λ (y : Header Kind). y.role) loaded₁ ∙ role)

      loaded₂ : loaded m₂ ≡ loaded m
      loaded₂ = loaded_alike m₁ m₂ (λ j l. maybe_other m₁ n t j (omega arith)) ∙ loaded₁

      applied₂ : applied_number m₂ ≡ applied_number m
      applied₂ = maybe_applied m₁ n t ∙ applied_alike m m₁ long₁ behind₁

      next₂ : next_at m₂ f ≡ next₁
      next₂ = maybe_other m₁ n t (22 + f) (omega arith) ∙ (ready.sent f sender ∙ upd_same b f next₁)

      -- commit rose: all hear of it
      all_hear : Handles n id m (said_to_others m₂ (loaded m) Append) x (outcome then (broadcast (conf n) id (λ j. append_at (conf n) then (b₁ j))))
      all_hear =
          let e : loaded (said_to_others m₂ (loaded m) Append) ≡ loaded m = said_others_loaded m₂ (loaded m) Append ∙ loaded₂ in
          record {
            stands = stands_said_others m₂ (loaded m) Append n id then few stands₂;
            told = told_some m (said_to_others m₂ (loaded m) Append) (broadcast (conf n) id (λ j. append_at (conf n) then (b₁ j)))
                (others_some id f (λ j. append_at (conf n) then (b₁ j)) n sender other) (posted_appends n id m₂ then (loaded m) a₁ b₁ few stands₂ s.size s.self refl);
            still_unsettled = λ u. ap (λ (y : Header Kind). y.unsettled) e ∙ u;
            safe = λ u. record { term = refl; log = refl };
            since = ap (λ (y : Header Kind). y.since) e;
            applied = said_others_applied m₂ (loaded m) Append ∙ applied₂;
          }

      -- it did not, and f gets what it lacks
      one_hears : k₁ ≡ x.commit → Handles n id m (said_to m₂ f Append) x (outcome then (out f (append_at (conf n) x next₁) ∷ []))
      one_hears stays =
          let e : loaded (said_to m₂ f Append) ≡ loaded m = said_loaded m₂ f Append ∙ loaded₂ in
          let letter : letter_of m₂ Append f ≡ append_at (conf n) x next₁ =
          made_append n id m₂ then stands₂ a₁ b₁ refl f sender
          ∙ (ap (append_at (conf n) then) (upd_same b f next₁) ∙ ap (λ (k : ℕ). append_at (conf n) (machine x.term x.role x.heard x.elapsed x.log k) next₁) stays) in
          record {
            stands = stands_said m₂ f Append n id then few stands₂;
            told = says (out f (append_at (conf n) x next₁)) [] refl
                (posted_to m₂ stands₂.tidy.entries.long f Append (omega arith) ∙ ap (λ (y : Letter (List ℕ)). out f y ∷ []) letter);
            still_unsettled = λ u. ap (λ (y : Header Kind). y.unsettled) e ∙ u;
            safe = λ u. record { term = refl; log = refl };
            since = ap (λ (y : Header Kind). y.since) e;
            applied = said_applied m₂ f Append ∙ applied₂;
          }

      -- f lacks nothing
      none_hears : mail_due m ≡ [] → Handles n id m m₂ x (outcome then [])
      none_hears none =
          let none₂ : mail_due m₂ ≡ [] = none_alike m m₂ (λ j l. maybe_other m₁ n t (29 + j) (omega arith) ∙ other₁ (29 + j) (omega arith) (omega arith)) none in
          record {
            stands = stands₂;
            told = keeps refl (posted_quiet m₂ none₂ ∙ sym (posted_quiet m none));
            still_unsettled = λ u. ap (λ (y : Header Kind). y.unsettled) loaded₂ ∙ u;
            safe = λ u. record { term = refl; log = refl };
            since = ap (λ (y : Header Kind). y.since) loaded₂;
            applied = applied₂;
          }

      -- which letters the theory sends, by its two tests
      abbrev sends : Bool → Bool → Outcome (List ℕ)
      sends up lacks =
          outcome then (pick up (broadcast (conf n) id (λ j. append_at (conf n) then (b₁ j))) (pick lacks (out f (append_at (conf n) x next₁) ∷ []) []))

      up_same : ltb (commit_index m) (commit_index m₂) ≡ ltb x.commit k₁
      up_same = let p = s.commit in let q = stands₂.commit in λ j. ltb (p j) (q j)

      lacks_same : leb (next_at m₂ f) (last_index m₂) ≡ leb next₁ (length x.log)
      lacks_same = let p = next₂ in let q = lift_last m₂ then.log stands₂.log in λ j. leb (p j) (q j)

      spread_handled :
          mail_due m ≡ [] → Handles n id m (spread m₂ (loaded m) f (commit_index m)) x (sends (ltb x.commit k₁) (leb next₁ (length x.log)))
      unfolding spread
      spread_handled none =
          subst (λ (u : Bool). Handles n id m (cond u (said_to_others m₂ (loaded m) Append) (cond (leb (next_at m₂ f) (last_index m₂)) (said_to m₂ f Append) m₂)) x
          (sends (ltb x.commit k₁) (leb next₁ (length x.log)))) (sym up_same)
          (subst (λ (w : Bool). Handles n id m (cond (ltb x.commit k₁) (said_to_others m₂ (loaded m) Append) (cond w (said_to m₂ f Append) m₂)) x
          (sends (ltb x.commit k₁) (leb next₁ (length x.log)))) (sym lacks_same)
          (by (ltb x.commit k₁) (leb next₁ (length x.log)) (λ e. commit_stays (conf n) x.term x.log a₁ x.commit e)))
        where
          by : (u w : Bool) → (u ≡ false → k₁ ≡ x.commit) → Handles n id m (cond u (said_to_others m₂ (loaded m) Append) (cond w (said_to m₂ f Append) m₂)) x (sends u w)
          by true w stays = all_hear
          by false true stays = one_hears (stays refl)
          by false false stays = none_hears none

    -- where no letter is due before
    pub ack_handled : mail_due m ≡ [] → Handles n id m (ack_taken m (loaded m) f i) x (handle_ack (conf n) id f x i a b)
    unfolding ack_taken handle_ack
    ack_handled none =
        elim (cases_Bool (leb i (length x.log))) [
          | inl y ↦
              let within : i ≤ length x.log = leb-true i (length x.log) y in
              let q : ack_taken m (loaded m) f i ≡ spread (m₂ within) (loaded m) f (commit_index m) =
              cond-true (leb i (last_index m)) (spread (maybe_committed (matched_raised m f i) (loaded m).size.0 (t within)) (loaded m) f (commit_index m)) m (ap (leb i) last_is ∙ y)
              ∙ (let r = raised_is within in let w = s.size in λ j. spread (maybe_committed (r j) (w j) (t within)) (loaded m) f (commit_index m)) in
              let d : handle_ack (conf n) id f x i a b ≡ sends within (ltb x.commit k₁) (leb next₁ (length x.log)) =
              ap (λ (u : Bool). pick u (sends within (ltb x.commit k₁) (leb next₁ (length x.log))) (outcome x [])) y in
              subst (λ (z : List ℕ). Handles n id m z x (handle_ack (conf n) id f x i a b)) (sym q)
              (subst (λ (o : Outcome (List ℕ)). Handles n id m (spread (m₂ within) (loaded m) f (commit_index m)) x o) (sym d) (spread_handled within none))
          | inr y ↦
              let q : ack_taken m (loaded m) f i ≡ m =
              cond-false (leb i (last_index m)) (spread (maybe_committed (matched_raised m f i) (loaded m).size.0 (loaded m).term.0) (loaded m) f (commit_index m)) m (ap (leb i) last_is ∙ y) in
              let d : handle_ack (conf n) id f x i a b ≡ outcome x [] =
              ap (λ (u : Bool). pick u (outcome then (pick (ltb x.commit k₁) (broadcast (conf n) id (λ j. append_at (conf n) then (b₁ j)))
              (pick (leb next₁ (length x.log)) (out f (append_at (conf n) x next₁) ∷ []) []))) (outcome x [])) y in
              subst (λ (z : List ℕ). Handles n id m z x (handle_ack (conf n) id f x i a b)) (sym q)
              (subst (λ (o : Outcome (List ℕ)). Handles n id m m x o) (sym d) (nothing_handled n id m x s))
        ]
