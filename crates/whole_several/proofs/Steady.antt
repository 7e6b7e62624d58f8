-- Memory never grows, nor do its numbers beyond 64 bits, whatever the event.
use Rattle.std.proofs.Common.{◌≡◌, ℕ, zero, suc, ◌+◌, ◌-◌, ◌<◌, ◌≤◌, Bool, true, false, cond, not, ◌&&◌, ◌||◌, eqb, ltb, leb, List, length, set, Ok, Err, Result, refl, arith, lit≤}
use mathlib.Core.Option.{Option as Maybe, none, some}
use Rattle.std.proofs.lemmas.Bool.{ltb-true, leb-true, and_parts, cond_both}
use Rattle.raft_log.specs.Layout.{at_most}
use Rattle.raft_log.specs.Entries.{last_index, commit_index, applied_number, values, value_fits, value_appended, empty_place, empty_fits, empty_appended, commit_raised, applied_set, term_at}
use Rattle.raft_log.specs.Block.{Entry, EntriesFit}
use Rattle.raft_log.specs.View.{log_of, term_before}
use Rattle.raft_log.specs.Conflict.{has_term, is_up_to_date}
use Rattle.raft_log.specs.Accept.{merges, accepts, accepted, hint}
use Rattle.raft_log.proofs.ValueLaws.{at_most_le}
use Rattle.raft_log.proofs.LogLaws.{last_most, applied_most}
use Rattle.raft_log.proofs.ViewLaws.{length_log}
use Rattle.raft_log.proofs.MergeLaws.{by_term_most}
use Rattle.messages.specs.Letter.{Letter, append, append_response, append_reject, request_vote, request_vote_response, term_notice, letter_of, LetterFits}
use Rattle.messages.proofs.OneToOne.{one_to_one}
use Rattle.raft.specs.declared.header.Ticks.{Ticks}
use Rattle.raft.specs.declared.header.Role.{Role}
use Rattle.raft.specs.declared.header.Role.TheVariants.{Follower, Candidate, Leader}
use Rattle.raft.specs.declared.header.Machine.{Machine}
use Rattle.raft.specs.declared.say.Due.{Due}
use Rattle.raft.specs.declared.say.Due.TheVariants.{Append, RequestVote, TellTerm, Grant, Deny, Accept, Reject}
use Rattle.raft.specs.declared.proposal.Refusal.{Refusal}
use Rattle.raft.specs.Header.{at_least, ticks, elapsed_word, loaded, stored}
use Rattle.raft.specs.Rows.{row_put, row_set, only, others, matched_at, next_at, most_of}
use Rattle.raft.specs.Say.{due_word, said_to_others, said_to, answered}
use Rattle.raft.specs.Commit.{quorum_index, maybe_committed}
use Rattle.raft.specs.Power.{belongs, restarted, powered}
use Rattle.raft.specs.Header.{with_role, in_term, older}
use Rattle.raft.proofs.HeaderLaws.{older_most}
use Rattle.raft.specs.Election.{owner, rows_begun, led_with_room, led, stood, campaigned, told, followed, term_entered, next_term_entered, reminded, waited, asked_again, tick_as, ticked, wins_now, vote_taken, vote_due}
use Rattle.raft.specs.Progress.{after, matched_then, next_then, matched_raised, spread, ack_taken, next_below, rejects_next, reject_taken}
use Rattle.raft.specs.Proposal.{with_unsettled, taken, proposed}
use Rattle.raft.specs.Receive.{letter_term, heard_from, log_changes, append_taken, append_as, request_as, vote_as, response_as, reject_as, handle_with, handled, old_taken, taken_by_term, another, received_from_another}
use Rattle.together.specs.House.{propose, how_far}
use Rattle.together.specs.Promise.{Steady, all_small, are_bytes, Event, on, said, came, tick, next}
use Rattle.together_several.specs.Machine.{after_proposal, letter_come, own_step}
use Rattle.together_several.specs.Entry.{own}
use Rattle.together.proofs.Lengths.{length_start}
use Rattle.together.proofs.Lists.{bytes_from}
use Rattle.together.proofs.Starts.{start_zero}
use Rattle.together.proofs.Smalls.{limit, Kept, kept, then_kept, small_word, in_term_small, with_role_small, unsettled_small}
use Rattle.together.proofs.KeptLogs.{accepted_kept, place_most, set_kept, appended_kept, emptied_kept, raised_kept, applied_kept}
use Rattle.whole_several.proofs.Smalls.{Small, kept_stored, kept_over, loaded_small, kept_go_on}
use Rattle.whole.proofs.Asked.{KeptProposed, kept_asked}
use Rattle.whole_several.proofs.Proposed.{asked}

due_small : (d : Due) → due_word d < limit
due_small Append = omega arith
due_small RequestVote = omega arith
due_small TellTerm = omega arith
due_small Grant = omega arith
due_small Deny = omega arith
due_small Accept = omega arith
due_small Reject = omega arith

at_least_small : (a c : ℕ) → a < limit → c < limit → at_least a c < limit
at_least_small a c p q = cond_both (ltb c a) a c (λ x. x < limit) (λ _. p) (λ _. q)

after_small : (k : ℕ) → k < limit → after k < limit
after_small k l = cond_both (ltb k 18446744073709551615) (k + 1) k (λ x. x < limit) (λ e. omega (arith, ltb-true k 18446744073709551615 e)) (λ _. l)

term_fits : (l : Letter) → LetterFits l → letter_term l < limit
term_fits (append t p q k es) f = f.0
term_fits (append_response t i) f = f.0
term_fits (append_reject t p h) f = f.0
term_fits (request_vote t i q) f = f.0
term_fits (request_vote_response t b) f = f
term_fits (term_notice t) f = f

-- b: the memory before all that is done to it
module _ (b : List ℕ) where
  abbrev IfSmall : Type 0 → Type 0
  IfSmall P = all_small b ≡ true → P

  stored_kept : (m : List ℕ) (x : Machine Role) → Kept b m → IfSmall (Small x) → Kept b (stored m x)
  stored_kept m x k s = kept_over b m x k s

  loaded_kept : (m : List ℕ) → Kept b m → IfSmall (Small (loaded m))
  loaded_kept m k h = loaded_small m (k.small h)

  -- a row, and what is due
  row_kept : (m : List ℕ) (base : ℕ) (f : ℕ → ℕ) (n : ℕ) → Kept b m → ((j : ℕ) → f j < limit) → Kept b (row_put m base f n)
  unfolding row_put
  row_kept m base f zero k l = k
  row_kept m base f (suc n) k l = set_kept b (row_put m base f n) (base + n) (f n) (row_kept m base f n k l) (λ _. l n)

  only_small : (i v j : ℕ) → v < limit → only i v j < limit
  only_small i v j l = cond_both (eqb j i) v 0 (λ x. x < limit) (λ _. l) (λ _. omega arith)

  others_small : (x : Machine Role) (v j : ℕ) → v < limit → others x v j < limit
  others_small x v j l = cond_both (ltb j x.size.0 && not (eqb j x.id.0)) v 0 (λ x. x < limit) (λ _. l) (λ _. omega arith)

  said_others_kept : (m : List ℕ) (x : Machine Role) (d : Due) → Kept b m → Kept b (said_to_others m x d)
  unfolding said_to_others
  said_others_kept m x d k = row_kept m 29 (others x (due_word d)) 7 k (λ j. others_small x (due_word d) j (due_small d))

  said_kept : (m : List ℕ) (i : ℕ) (d : Due) → Kept b m → Kept b (said_to m i d)
  unfolding said_to
  said_kept m i d k = row_kept m 29 (only i (due_word d)) 7 k (λ j. only_small i (due_word d) j (due_small d))

  answered_kept : (m : List ℕ) (i : ℕ) (d : Due) (p q : ℕ) → Kept b m → IfSmall (p < limit) → IfSmall (q < limit) → Kept b (answered m i d p q)
  unfolding answered
  answered_kept m i d p q k lp lq = set_kept b (set (said_to m i d) 36 p) 37 q (set_kept b (said_to m i d) 36 p (said_kept m i d k) lp) lq

  committed_kept : (m : List ℕ) (n t : ℕ) → Kept b m → Kept b (maybe_committed m n t)
  unfolding maybe_committed
  committed_kept m n t k =
      cond_both (eqb (term_at m (quorum_index m n)) t) (commit_raised m (quorum_index m n)) m (λ x. Kept b x) (λ _. raised_kept b m (quorum_index m n) k) (λ _. k)

  -- ELECTIONS: x is a struct whose numbers are small
  module _ (x : Machine Role) (small : IfSmall (Small x)) where
    small_in : (t : ℕ) (r : Role) → IfSmall (t < limit) → elapsed_word r ≤ 10 → IfSmall (Small (in_term x t r))
    small_in t r l w h = in_term_small elapsed_word x (small h) t r (l h) w

    small_role : (r : Role) → elapsed_word r ≤ 10 → IfSmall (Small (with_role x r))
    small_role r w h = with_role_small elapsed_word x (small h) r w

    begun_kept : (m : List ℕ) (id i : ℕ) → Kept b m → i ≤ 8193 → Kept b (rows_begun m id i)
    unfolding rows_begun
    begun_kept m id i k l =
        row_kept (row_set m 15 (only id i)) 22 (λ _. i) 7 (row_kept m 15 (only id i) 7 k (λ j. only_small id i j (omega arith))) (λ j. omega arith)

    module _ (m : List ℕ) (t : ℕ) (k : Kept b m) (l : IfSmall (t < limit)) where
      led_room_kept : empty_fits m ≡ true → Kept b (led_with_room m x t)
      unfolding led_with_room
      led_room_kept f =
          let m₁ : List ℕ = rows_begun (empty_appended m t) x.id.0 (empty_place m) in
          let k₁ : Kept b m₁ = begun_kept (empty_appended m t) x.id.0 (empty_place m) (emptied_kept b m t k l f) (place_most m f) in
          said_others_kept (stored (maybe_committed m₁ x.size.0 t) (in_term x t Leader)) x Append
          (stored_kept (maybe_committed m₁ x.size.0 t) (in_term x t Leader) (committed_kept m₁ x.size.0 t k₁) (small_in t Leader l (omega arith)))

      led_kept : Kept b (led m x t)
      unfolding led
      led_kept =
          cond_both (empty_fits m) (led_with_room m x t) (stored m (in_term x t (Follower (ticks 0) false))) (λ y. Kept b y) led_room_kept
          (λ _. stored_kept m _ k (small_in t (Follower (ticks 0) false) l (omega arith)))

      stood_kept : Kept b (stood m x t)
      unfolding stood
      stood_kept =
          let m₁ : List ℕ = stored m (in_term x t (Candidate (ticks 0))) in
          said_others_kept (row_set m₁ 8 (only x.id.0 1)) x RequestVote
          (row_kept m₁ 8 (only x.id.0 1) 7 (stored_kept m (in_term x t (Candidate (ticks 0))) k (small_in t (Candidate (ticks 0)) l (omega arith))) (λ j. only_small x.id.0 1 j (omega arith)))

      campaigned_kept : Kept b (campaigned m x t)
      unfolding campaigned
      campaigned_kept = cond_both (most_of 1 x.size.0) (led m x t) (stood m x t) (λ y. Kept b y) (λ _. led_kept) (λ _. stood_kept)

      told_kept : (loud : Bool) (m₁ : List ℕ) → Kept b m₁ → Kept b (told loud m₁ x t)
      told_kept true m₁ k₁ = said_others_kept m₁ x TellTerm k₁
      told_kept false m₁ k₁ = said_kept m₁ (owner x.size.0 t) TellTerm k₁

      followed_kept : (loud : Bool) → Kept b (followed m x t loud)
      unfolding followed
      followed_kept loud = told_kept loud _ (stored_kept m (in_term x t (Follower (ticks 0) false)) k (small_in t (Follower (ticks 0) false) l (omega arith)))

      entered_kept : (loud : Bool) → Kept b (term_entered m x t loud)
      unfolding term_entered
      entered_kept loud =
          cond_both (eqb (owner x.size.0 t) x.id.0) (campaigned m x t) (followed m x t loud) (λ y. Kept b y) (λ _. campaigned_kept) (λ _. followed_kept loud)

    module _ (m : List ℕ) (k : Kept b m) where
      next_kept : Kept b (next_term_entered m x)
      next_kept =
          cond_both (ltb x.term.0 18446744073709551615) (term_entered m x (x.term.0 + 1) true) m (λ y. Kept b y)
          (λ e. entered_kept m (x.term.0 + 1) k (λ _. omega (arith, ltb-true x.term.0 18446744073709551615 e)) true) (λ _. k)

      reminded_kept : (m₁ : List ℕ) (heard : Bool) → Kept b m₁ → Kept b (reminded m₁ x heard)
      unfolding reminded
      reminded_kept m₁ heard k₁ =
          cond_both (heard || eqb (owner x.size.0 x.term.0) x.id.0) m₁ (said_to m₁ (owner x.size.0 x.term.0) TellTerm) (λ y. Kept b y) (λ _. k₁)
          (λ _. said_kept m₁ (owner x.size.0 x.term.0) TellTerm k₁)

      waited_kept : (e : Ticks) (heard : Bool) → e.0 ≤ 10 → Kept b (waited m x e heard)
      waited_kept e heard w =
          cond_both (ltb e.0 10) (reminded (stored m (with_role x (Follower e heard))) x heard) (next_term_entered m x) (λ y. Kept b y)
          (λ _. reminded_kept (stored m (with_role x (Follower e heard))) heard (stored_kept m _ k (small_role (Follower e heard) w))) (λ _. next_kept)

      asked_kept : (e : Ticks) → e.0 ≤ 10 → Kept b (asked_again m x e)
      asked_kept e w =
          cond_both (ltb e.0 10) (said_to_others (stored m (with_role x (Candidate e))) x RequestVote) (next_term_entered m x) (λ y. Kept b y)
          (λ _. said_others_kept _ x RequestVote (stored_kept m (with_role x (Candidate e)) k (small_role (Candidate e) w))) (λ _. next_kept)

      tick_kept : (r : Role) → Kept b (tick_as m x r)
      tick_kept (Follower e heard) = waited_kept (older e) heard (older_most e)
      tick_kept (Candidate e) = asked_kept (older e) (older_most e)
      tick_kept Leader = said_others_kept m x Append k

      vote_kept : (e : Ticks) (f : ℕ) → Kept b (vote_taken m x e f)
      unfolding vote_taken
      vote_kept e f =
          let k₁ : Kept b (set m (8 + f) 1) = set_kept b m (8 + f) 1 k (λ _. omega arith) in
          cond_both (wins_now (set m (8 + f) 1) x e) (led (set m (8 + f) 1) x x.term.0) (set m (8 + f) 1) (λ y. Kept b y)
          (λ _. led_kept (set m (8 + f) 1) x.term.0 k₁ (λ h. (small h).term)) (λ _. k₁)

      -- ANSWERS to a leader
      matched_kept : (f i : ℕ) → i ≤ 8193 → Kept b (matched_raised m f i)
      unfolding matched_raised
      matched_kept f i l =
          let a : IfSmall (matched_then m f i < limit) = λ h. at_least_small i (matched_at m f) (omega arith) (small_word m (15 + f) (k.small h)) in
          set_kept b (set m (15 + f) (matched_then m f i)) (22 + f) (next_then m f i) (set_kept b m (15 + f) (matched_then m f i) k a)
          (λ h. at_least_small (after (matched_then m f i)) (next_at m f) (after_small (matched_then m f i) (a h)) (small_word m (22 + f) (k.small h)))

      spread_kept : (m₁ : List ℕ) (f c : ℕ) → Kept b m₁ → Kept b (spread m₁ x f c)
      unfolding spread
      spread_kept m₁ f c k₁ =
          cond_both (ltb c (commit_index m₁)) (said_to_others m₁ x Append) (cond (leb (next_at m₁ f) (last_index m₁)) (said_to m₁ f Append) m₁) (λ y. Kept b y)
          (λ _. said_others_kept m₁ x Append k₁)
          (λ _. cond_both (leb (next_at m₁ f) (last_index m₁)) (said_to m₁ f Append) m₁ (λ y. Kept b y) (λ _. said_kept m₁ f Append k₁) (λ _. k₁))

      ack_kept : (f i : ℕ) → Kept b (ack_taken m x f i)
      unfolding ack_taken
      ack_kept f i =
          cond_both (leb i (last_index m)) (spread (maybe_committed (matched_raised m f i) x.size.0 x.term.0) x f (commit_index m)) m (λ y. Kept b y)
          (λ e. spread_kept _ f (commit_index m) (committed_kept (matched_raised m f i) x.size.0 x.term.0 (matched_kept f i (omega (arith, last_most m, leb-true i (last_index m) e)))))
          (λ _. k)

      reject_kept : (f p h : ℕ) → p < limit → Kept b (reject_taken m f p h)
      unfolding reject_taken
      reject_kept f p h l =
          cond_both (rejects_next m f p) (said_to (set m (22 + f) (next_below m f p h)) f Append) m (λ y. Kept b y)
          (λ e. said_kept (set m (22 + f) (next_below m f p h)) f Append (set_kept b m (22 + f) (next_below m f p h) k (λ _. below e))) (λ _. k)
        where
          below : rejects_next m f p ≡ true → next_below m f p h < limit
          below e =
              at_least_small (cond (ltb h p) (h + 1) p) (matched_at m f + 1)
              (cond_both (ltb h p) (h + 1) p (λ y. y < limit) (λ q. omega (arith, ltb-true h p q)) (λ _. l))
              (omega (arith, ltb-true (matched_at m f) p (and_parts (eqb (next_at m f) (after p)) (ltb (matched_at m f) p) e).1))

      -- A PROPOSAL
      taken_kept : (v : List ℕ) → value_fits m (length v) ≡ true → Kept b (taken m x v)
      unfolding taken
      taken_kept v f =
          let short : length v ≤ 256 = leb-true (length v) 256 (and_parts (leb (length v) 256) (ltb (last_index m) 8193 && ltb (values m) 4096) f).0 in
          let m₁ : List ℕ = value_appended m x.term.0 v in
          let m₂ : List ℕ = set m₁ (15 + x.id.0) (last_index m + 1) in
          let k₁ : Kept b m₁ = appended_kept b m x.term.0 v k (λ h. (small h).term) short in
          let k₂ : Kept b m₂ = set_kept b m₁ (15 + x.id.0) (last_index m + 1) k₁ (λ _. omega (arith, last_most m)) in
          said_others_kept _ x Append
          (stored_kept (maybe_committed m₂ x.size.0 x.term.0) (with_unsettled x) (committed_kept m₂ x.size.0 x.term.0 k₂)
          (λ h. unsettled_small elapsed_word x (small h)))

  -- A LETTER whose numbers are words
  module _ (m : List ℕ) (x : Machine Role) (k : Kept b m) (small : IfSmall (Small x)) where
    small_heard : (c : Bool) → IfSmall (Small (heard_from x c))
    small_heard c h = record { size = (small h).size; id = (small h).id; term = (small h).term; since = (small h).since; waits = omega arith }

    append_kept : (f p q c : ℕ) (es : List Entry) → p < limit → length es ≤ 15 → EntriesFit es → Kept b (append_taken m x f p q c es)
    unfolding append_taken accepts has_term hint
    append_kept f p q c es l few fit =
        cond_both (accepts m p q es) (answered (stored (accepted m p c es) (heard_from x (log_changes m p es))) f Accept (p + length es) 0)
        (answered (stored m (heard_from x false)) f Reject p (hint (log_of m) p q)) (λ y. Kept b y)
        (λ e.
        let low : p ≤ 8193 = near e in
        answered_kept (stored (accepted m p c es) (heard_from x (log_changes m p es))) f Accept (p + length es) 0
        (stored_kept (accepted m p c es) (heard_from x (log_changes m p es)) (accepted_kept b m p c es k low few fit) (small_heard (log_changes m p es))) (λ _. omega arith) (λ _. omega arith))
        (λ _. answered_kept (stored m (heard_from x false)) f Reject p (hint (log_of m) p q) (stored_kept m (heard_from x false) k (small_heard false)) (λ _. l) (λ _. hinted))
      where
        near : accepts m p q es ≡ true → p ≤ 8193
        near e =
            let t = (and_parts (has_term (log_of m) p q) (merges m p es) e).0 in
            omega (arith, leb-true p (length (log_of m)) (and_parts (leb p (length (log_of m))) (eqb (term_before (log_of m) p) q) t).0, length_log m, last_most m)

        hinted : hint (log_of m) p q < limit
        hinted = omega (arith, by_term_most (log_of m) q (at_most (p - 1) (length (log_of m))), at_most_le (p - 1) (length (log_of m)), length_log m, last_most m)

    append_as_kept : (r : Role) (f p q c : ℕ) (es : List Entry) → p < limit → length es ≤ 15 → EntriesFit es → Kept b (append_as m x r f p q c es)
    append_as_kept (Follower e heard) f p q c es l few fit = append_kept f p q c es l few fit
    append_as_kept (Candidate e) f p q c es l few fit = k
    append_as_kept Leader f p q c es l few fit = k

    request_as_kept : (r : Role) (f i q : ℕ) → Kept b (request_as m r f i q)
    request_as_kept (Follower e heard) f i q = said_kept m f (vote_due (is_up_to_date (log_of m) i q && not heard)) k
    request_as_kept (Candidate e) f i q = k
    request_as_kept Leader f i q = k

    vote_as_kept : (r : Role) (f : ℕ) (g : Bool) → Kept b (vote_as m x r f g)
    vote_as_kept (Follower e heard) f g = k
    vote_as_kept (Candidate e) f g = cond_both g (vote_taken m x e f) m (λ y. Kept b y) (λ _. vote_kept x small m k e f) (λ _. k)
    vote_as_kept Leader f g = k

    response_as_kept : (r : Role) (f i : ℕ) → Kept b (response_as m x r f i)
    response_as_kept (Follower e heard) f i = k
    response_as_kept (Candidate e) f i = k
    response_as_kept Leader f i = ack_kept x small m k f i

    reject_as_kept : (r : Role) (f p h : ℕ) → p < limit → Kept b (reject_as m r f p h)
    reject_as_kept (Follower e heard) f p h l = k
    reject_as_kept (Candidate e) f p h l = k
    reject_as_kept Leader f p h l = reject_kept x small m k f p h l

    handle_kept : (f : ℕ) (l : Letter) → LetterFits l → Kept b (handle_with m x f l)
    handle_kept f (append t p q c es) g = append_as_kept x.role f p q c es g.1 g.4 g.5
    handle_kept f (append_response t i) g = response_as_kept x.role f i
    handle_kept f (append_reject t p h) g = reject_as_kept x.role f p h g.1
    handle_kept f (request_vote t i q) g = request_as_kept x.role f i q
    handle_kept f (request_vote_response t c) g = vote_as_kept x.role f c
    handle_kept f (term_notice t) g = k

  handled_kept : (m : List ℕ) (f : ℕ) (l : Letter) → Kept b m → LetterFits l → Kept b (handled m f l)
  unfolding handled
  handled_kept m f l k g = handle_kept m (loaded m) k (loaded_kept m k) f l g

  old_kept : (m : List ℕ) (f : ℕ) (l : Letter) → Kept b m → Kept b (old_taken m f l)
  old_kept m f (append t p q c es) k = said_kept m f TellTerm k
  old_kept m f (append_response t i) k = k
  old_kept m f (append_reject t p h) k = k
  old_kept m f (request_vote t i q) k = said_kept m f TellTerm k
  old_kept m f (request_vote_response t c) k = k
  old_kept m f (term_notice t) k = said_kept m f TellTerm k

  by_term_kept : (m : List ℕ) (x : Machine Role) (f : ℕ) (l : Letter) → Kept b m → IfSmall (Small x) → LetterFits l → Kept b (taken_by_term m x f l)
  by_term_kept m x f l k small g =
      cond_both (ltb x.term.0 (letter_term l)) (handled (term_entered m x (letter_term l) false) f l)
      (cond (ltb (letter_term l) x.term.0) (old_taken m f l) (handle_with m x f l)) (λ y. Kept b y)
      (λ _. handled_kept (term_entered m x (letter_term l) false) f l (entered_kept x small m (letter_term l) k (λ _. term_fits l g) false) g)
      (λ _. cond_both (ltb (letter_term l) x.term.0) (old_taken m f l) (handle_with m x f l) (λ y. Kept b y) (λ _. old_kept m f l k) (λ _. handle_kept m x k small f l g))

-- THE EVENTS
pub kept_powered : (m : List ℕ) (i n : ℕ) → Kept m (powered m i n)
unfolding powered
kept_powered m i n =
    cond_both (belongs i n) (row_set (applied_set (stored m (restarted (loaded m) i n (Follower (ticks 0) false))) (applied_number m - 1)) 29 (λ _. 0)) m (λ x. Kept m x)
    (λ e.
    let b = and_parts (leb n 7) (ltb i n) e in
    let low : n ≤ 7 = leb-true n 7 b.0 in
    let at : i < n = ltb-true i n b.1 in
    row_kept m (applied_set (stored m (restarted (loaded m) i n (Follower (ticks 0) false))) (applied_number m - 1)) 29 (λ _. 0) 7
    (applied_kept m _ (applied_number m - 1)
    (kept_stored m (restarted (loaded m) i n (Follower (ticks 0) false)) (λ h. record { size = omega arith; id = omega arith; term = (loaded_small m h).term; since = omega arith; waits = omega arith }))
    (omega (arith, applied_most m)))
    (λ j. omega arith))
    (λ _. kept m)

pub kept_ticked : (m : List ℕ) → Kept m (ticked m)
unfolding ticked
kept_ticked m = tick_kept m (loaded m) (loaded_small m) m (kept m) (loaded m).role

pub kept_taken : (m v : List ℕ) → value_fits m (length v) ≡ true → Kept m (taken m (loaded m) v)
kept_taken m v f = taken_kept m (loaded m) (loaded_small m) m (kept m) v f

pub kept_received : (m : List ℕ) (f : ℕ) (l : Letter) → LetterFits l → Kept m (received_from_another m f (some l))
unfolding received_from_another
kept_received m f l g =
    cond_both (another (loaded m) f) (taken_by_term m (loaded m) f l) m (λ y. Kept m y) (λ _. by_term_kept m m (loaded m) f l (kept m) (loaded_small m) g) (λ _. kept m)

pub kept_proposed : (m v : List ℕ) → KeptProposed m (proposed m v)
kept_proposed m v = kept_asked (λ f. kept_taken m v f) (asked m v)

kept_after : (m : List ℕ) (p : Result (List ℕ) Refusal) → KeptProposed m p → Kept m (after_proposal m p).memory
kept_after m (Ok m₁) k = then_kept k (kept_go_on m₁)
kept_after m (Err why) k = kept m

-- whatever bytes come: they are a letter whose numbers are words, or none
come_fits : (m : List ℕ) (f : ℕ) (bs : List ℕ) (o : Maybe Letter) → are_bytes bs ≡ true → letter_of bs ≡ o → Kept m (received_from_another m f o)
unfolding received_from_another
come_fits m f bs none b e = kept m
come_fits m f bs (some l) b e = kept_received m f l (one_to_one bs l (bytes_from bs b) e).1

pub kept_came : (m : List ℕ) (f : ℕ) (bs : List ℕ) → Kept m (received_from_another m f (letter_come bs))
unfolding received_from_another
kept_came m f bs =
    cond_both (are_bytes bs) (letter_of bs) none (λ o. Kept m (received_from_another m f o)) (λ b. come_fits m f bs (letter_of bs) b refl) (λ _. kept m)

pub kept_step : (m : List ℕ) (ev : Event) → Kept m (own_step m ev).memory
unfolding own_step
kept_step m (on i n) = then_kept (kept_powered m i n) (kept_go_on (powered m i n))
kept_step m (said (propose v)) = kept_after m (proposed m v) (kept_proposed m v)
kept_step m (said how_far) = kept m
kept_step m (came f bs) = then_kept (kept_came m f bs) (kept_go_on (received_from_another m f (letter_come bs)))
kept_step m tick = then_kept (kept_ticked m) (kept_go_on (ticked m))
kept_step m next = kept_go_on m

-- MEMORY IS STEADY
pub steady : Steady own
unfolding Steady own
steady = (rw length_start (lit≤ tt), start_zero, λ m ev. ((kept_step m ev).long, (kept_step m ev).small))
