-- An append that comes to a follower: what its memory makes of it is what the theory does.
use Rattle.std.proofs.Common.{◌≡◌, ℕ, ◌+◌, ◌-◌, ◌<◌, ◌≤◌, min, max, Bool, true, false, leb, List, [], ◌∷◌, ◌++◌, length, take, drop, is_some, Some, None, Option, sym, refl, ap, ◌∙◌, subst, inl, inr, arith}
use mathlib.Core.Option.{Option as Content, none, some}
use Rattle.std.proofs.lemmas.List.{length-append, length-take-le}
use Rattle.std.proofs.lemmas.Bool.{le-leb, and_from, and_left, or_parts, or_left, cond-true, cond-false, cases_Bool, both_ways}
use Rattle.raft_log.specs.declared.Index.{Index}
use Rattle.raft_log.specs.Layout.{memory_words}
use Rattle.raft_log.specs.Entries.{last_index, commit_index}
use Rattle.raft_log.specs.Block.{Entry as Row}
use Rattle.raft_log.specs.View.{log_of, TidyEntries, Tidy, with_content as row_with, decisions as row_decisions, Valid}
use Rattle.raft_log.specs.Conflict.{has_term, conflict, has_entries as row_has, spliced, Agreeing, merge as row_merge}
use Rattle.raft_log.specs.Accept.{truncated, merges, accepts, accepted, hint as row_hint}
use Rattle.raft_log.proofs.LogLaws.{same_applied, last_most}
use Rattle.raft_log.proofs.ViewLaws.{length_log, number_counts}
use Rattle.raft_log.proofs.LogChanges.{truncated_last, truncated_values}
use Rattle.raft_log.proofs.ConflictLaws.{conflict_within}
use Rattle.raft_log.proofs.TakeLaws.{entries_fit_from}
use Rattle.raft_log.proofs.MergeLaws.{prev_within, merges_none, merges_some, conflict_has, spliced_merge}
use Rattle.raft_log.proofs.AcceptLaws.{accepted_merge, accepted_header, accepted_commit_up, accepted_tidy}
use Rattle.raft.specs.declared.header.Role.{Role}
use Rattle.raft.specs.declared.header.Machine.{Machine as Header}
use Rattle.raft.specs.declared.say.Due.TheVariants.{Accept, Reject}
use Rattle.raft.specs.Header.{loaded, stored}
use Rattle.raft.specs.Say.{answered}
use Rattle.raft.specs.Receive.{heard_from, log_changes, append_taken}
use Rattle.raft.proofs.HeaderLaws.{Held, loaded_held, loaded_stored, length_stored}
use Rattle.protocol.specs.Lists.{pick}
use Rattle.protocol.specs.Log.{Log, merge, decisions}
use Rattle.machine.specs.Machine.{Machine, machine, follower, ack, reject, out, Outcome, outcome}
use Rattle.machine.specs.Step.{prev_matches, hint, handle_append}
use Rattle.join_several.specs.Stands.{conf, lift_log, Stands}
use Rattle.join_several.specs.Does.{Room, says, Handles}
use Rattle.join_several.proofs.Frames.{stands_stored, stands_answered}
use Rattle.join_several.proofs.Lifts.{lift_length, lift_has_term, lift_merge, lift_hint, lift_decisions}
use Rattle.join_several.proofs.Outs.{posted_accept, posted_reject}
use Rattle.join_several.proofs.Answered.{answered_loaded, answered_applied, stored_applied}

-- the values of two rows
decisions_both : (a b : List Row) → length (row_decisions (a ++ b)) ≡ length (row_decisions a) + length (row_decisions b)
unfolding row_decisions
decisions_both [] b = omega arith
decisions_both (e ∷ a) b = one e.content (row_decisions (a ++ b)) (row_decisions a) (decisions_both a b)
  where
    one : (o : Content (List ℕ)) (vs ws : List (List ℕ)) → length vs ≡ length ws + length (row_decisions b) → length (row_with o vs) ≡ length (row_with o ws) + length (row_decisions b)
    one none vs ws h = h
    one (some v) vs ws h = omega arith

-- THE ROOM that memory asks for is there if what comes of it is small enough
module _ (m : List ℕ) (p : ℕ) (es : List Row) (d : TidyEntries m) (within : p ≤ last_index m) (a : Agreeing (log_of m) p es)
    (long : length (row_merge (log_of m) p es) ≤ 8193) (few : length (row_decisions (row_merge (log_of m) p es)) ≤ 4096) where
  pub merges_room : merges m p es ≡ true
  merges_room = go (conflict (log_of m) p es) refl
    where
      go : (o : Option Index) → conflict (log_of m) p es ≡ o → merges m p es ≡ true
      go None e = merges_none m p es e
      go (Some c) e =
          let w = conflict_within (log_of m) p es c e in
          let k : ℕ = c.0 - 1 in
          let cut : k ≤ last_index m = omega (arith, length_log m, w.near (omega (arith, length_log m))) in
          let is : take k (log_of m) ++ drop (k - p) es ≡ row_merge (log_of m) p es = sym (ap (spliced (log_of m) p es) e) ∙ spliced_merge (log_of m) p es a in
          let sum = length-append (take k (log_of m)) (drop (k - p) es) in
          let front : length (take k (log_of m)) ≡ k = length-take-le k (log_of m) (omega (arith, length_log m)) in
          let sums = decisions_both (take k (log_of m)) (drop (k - p) es) in
          let count = number_counts m d k cut in
          merges_some m p es c e
          ∙ entries_fit_from (truncated m k) (drop (k - p) es) (omega (arith, truncated_last m k d.long cut, ap length is, sum, front))
          (omega (arith, truncated_values m k d.long cut, ap (λ (r : List Row). length (row_decisions r)) is, sums, count))

-- where nothing is missing the log stays
pub merge_none : (l : List Row) (p : ℕ) (es : List Row) → conflict l p es ≡ None → row_merge l p es ≡ l
unfolding row_merge
merge_none l p es e = cond-true (row_has l p es) l (take p l ++ es) (conflict_has l p es e)

-- no change of the log was told: then there is none
pub unchanged : (m : List ℕ) (p : ℕ) (es : List Row) → p ≤ last_index m → log_changes m p es ≡ false → row_merge (log_of m) p es ≡ log_of m
unchanged m p es within e = go (conflict (log_of m) p es) refl
  where
    go : (o : Option Index) → conflict (log_of m) p es ≡ o → row_merge (log_of m) p es ≡ log_of m
    go None c = merge_none (log_of m) p es c
    go (Some i) c =
        let y : log_changes m p es ≡ true =
        and_from (leb p 8193) (is_some (conflict (log_of m) p es)) (le-leb p 8193 (omega (arith, last_most m))) (ap (λ (o : Option Index). is_some o) c) in
        absurd (both_ways (log_changes m p es) e y)

-- the struct of one that heard from the leader
heard_held : (m : List ℕ) (b : Bool) → Held (heard_from (loaded m) b)
heard_held m b = let h = loaded_held m in record { some = h.some; few = h.few; one = h.one; waits = omega arith }

-- what is handled, by equal memories and outcomes
pub handles_by :
    (n id : ℕ) (m m₁ m₂ : List ℕ) (x : Machine (List ℕ)) (d d₁ : Outcome (List ℕ)) → m₁ ≡ m₂ → d ≡ d₁ → Handles n id m m₂ x d₁ → Handles n id m m₁ x d
handles_by n id m m₁ m₂ x d d₁ e g h =
    subst (λ (y : List ℕ). Handles n id m y x d) (sym e) (subst (λ (o : Outcome (List ℕ)). Handles n id m m₂ x o) (sym g) h)

module _ (n id : ℕ) (m : List ℕ) (x : Machine (List ℕ)) (f p q k : ℕ) (es : List Row) (few : n ≤ 7) (sender : f < n) (s : Stands n id m x) where
  -- what the log of the machine says of the row
  prev_same : has_term (log_of m) p q ≡ prev_matches x.log p q
  prev_same = lift_has_term (log_of m) p q ∙ ap (λ (l : Log (List ℕ)). prev_matches l p q) s.log

  merge_same : lift_log (row_merge (log_of m) p es) ≡ merge x.log p (lift_log es)
  merge_same = lift_merge (log_of m) p es ∙ ap (λ (l : Log (List ℕ)). merge l p (lift_log es)) s.log

  abbrev refusing : Outcome (List ℕ)
  refusing = outcome (machine x.term follower true 0 x.log x.commit) (out f (reject x.term p (hint (conf n) x.log p q)) ∷ [])

  abbrev refused_memory : List ℕ
  refused_memory = stored m (heard_from (loaded m) false)

  -- A REFUSAL
  refused : Handles n id m (answered refused_memory f Reject p (row_hint (log_of m) p q)) x refusing
  refused =
      let long : length refused_memory ≡ memory_words = length_stored m (heard_from (loaded m) false) ∙ s.tidy.entries.long in
      let is : loaded refused_memory ≡ heard_from (loaded m) false = loaded_stored m (heard_from (loaded m) false) s.tidy.entries.long (heard_held m false) in
      let head : loaded (answered refused_memory f Reject p (row_hint (log_of m) p q)) ≡ heard_from (loaded m) false =
      answered_loaded refused_memory f Reject p (row_hint (log_of m) p q) ∙ is in
      let t : (loaded refused_memory).term.0 ≡ x.term = ap (λ (y : Header Role). y.term.0) is ∙ s.term in
      let h : row_hint (log_of m) p q ≡ hint (conf n) x.log p q = lift_hint n (log_of m) p q ∙ ap (λ (l : Log (List ℕ)). hint (conf n) l p q) s.log in
      let now : Machine (List ℕ) = refusing.now in
      let stands : Stands n id refused_memory now =
      stands_stored n id m (heard_from (loaded m) false) now few s.tidy (heard_held m false) s.size s.self s.term s.log s.commit
      (record { role = refl; elapsed = refl; heard = refl }) in
      record {
        stands = stands_answered refused_memory f Reject p (row_hint (log_of m) p q) n id now few stands;
        told = says (out f (reject x.term p (hint (conf n) x.log p q))) [] refl
            (posted_reject refused_memory long f p (row_hint (log_of m) p q) (omega arith) ∙ (λ i. out f (reject (t i) p (h i)) ∷ []));
        still_unsettled = λ u. ap (λ (y : Header Role). y.unsettled) head ∙ or_left (loaded m).unsettled false u;
        safe = λ u. record { term = refl; log = refl };
        since = ap (λ (y : Header Role). y.since) head;
        applied = answered_applied refused_memory f Reject p (row_hint (log_of m) p q) ∙ stored_applied m (heard_from (loaded m) false);
      }

  abbrev taking : Outcome (List ℕ)
  taking =
      outcome (machine x.term follower true 0 (merge x.log p (lift_log es)) (max x.commit (min k (p + length (lift_log es)))))
      (out f (ack x.term (p + length (lift_log es))) ∷ [])

  abbrev taken_memory : List ℕ
  taken_memory = stored (accepted m p k es) (heard_from (loaded m) (log_changes m p es))

  -- AN APPEND THAT IS TAKEN; what is decided stays in the log
  module _ (valid : Valid es) (agree : Agreeing (log_of m) p es) (prev : has_term (log_of m) p q ≡ true) (room : Room taking.now) (reach : taking.now.commit ≤ length taking.now.log) where
    accepts_it : accepts m p q es ≡ true
    unfolding accepts
    accepts_it =
        let e : length (row_merge (log_of m) p es) ≡ length (merge x.log p (lift_log es)) = sym (lift_length (row_merge (log_of m) p es)) ∙ ap length merge_same in
        let g : length (row_decisions (row_merge (log_of m) p es)) ≡ length (decisions (merge x.log p (lift_log es))) =
        ap length (lift_decisions (row_merge (log_of m) p es)) ∙ ap (λ (l : Log (List ℕ)). length (decisions l)) merge_same in
        and_from (has_term (log_of m) p q) (merges m p es) prev
        (merges_room m p es s.tidy.entries (prev_within m p q prev) agree (omega (arith, room.long)) (omega (arith, room.values)))

    log_then : log_of (accepted m p k es) ≡ row_merge (log_of m) p es
    log_then = accepted_merge m p q k es s.tidy valid accepts_it agree

    taken_log : lift_log (log_of (accepted m p k es)) ≡ merge x.log p (lift_log es)
    taken_log = ap lift_log log_then ∙ merge_same

    taken_commit : commit_index (accepted m p k es) ≡ max x.commit (min k (p + length (lift_log es)))
    taken_commit =
        let len : length (log_of (accepted m p k es)) ≡ length (merge x.log p (lift_log es)) = sym (lift_length (log_of (accepted m p k es))) ∙ ap length taken_log in
        omega (arith, accepted_commit_up m p q k es s.tidy valid accepts_it (omega (arith, reach, len, s.commit)), s.commit, lift_length es)

    taken : Handles n id m (answered taken_memory f Accept (p + length es) 0) x taking
    taken =
        let y : Header Role = heard_from (loaded m) (log_changes m p es) in
        let m₁ : List ℕ = accepted m p k es in
        let tidy : Tidy m₁ = accepted_tidy m p q k es s.tidy valid accepts_it in
        let long : length taken_memory ≡ memory_words = length_stored m₁ y ∙ tidy.entries.long in
        let is : loaded taken_memory ≡ y = loaded_stored m₁ y tidy.entries.long (heard_held m (log_changes m p es)) in
        let head : loaded (answered taken_memory f Accept (p + length es) 0) ≡ y = answered_loaded taken_memory f Accept (p + length es) 0 ∙ is in
        let t : (loaded taken_memory).term.0 ≡ x.term = ap (λ (z : Header Role). z.term.0) is ∙ s.term in
        let i₁ : p + length es ≡ p + length (lift_log es) = omega (arith, lift_length es) in
        let stands : Stands n id taken_memory taking.now =
        stands_stored n id m₁ y taking.now few tidy (heard_held m (log_changes m p es)) s.size s.self s.term taken_log taken_commit
        (record { role = refl; elapsed = refl; heard = refl }) in
        record {
          stands = stands_answered taken_memory f Accept (p + length es) 0 n id taking.now few stands;
          told = says (out f (ack x.term (p + length (lift_log es)))) [] refl
              (posted_accept taken_memory long f (p + length es) 0 (omega arith) ∙ (λ i. out f (ack (t i) (i₁ i)) ∷ []));
          still_unsettled = λ u. ap (λ (z : Header Role). z.unsettled) head ∙ or_left (loaded m).unsettled (log_changes m p es) u;
          safe = λ u.
              let c = or_parts (loaded m).unsettled (log_changes m p es) (sym (ap (λ (z : Header Role). z.unsettled) head) ∙ u) in
              record { term = refl; log = sym s.log ∙ (ap lift_log (sym (unchanged m p es (prev_within m p q prev) c.1)) ∙ merge_same) };
          since = ap (λ (z : Header Role). z.since) head;
          applied = answered_applied taken_memory f Accept (p + length es) 0
              ∙ (stored_applied m₁ y ∙ same_applied m m₁ (accepted_header m p q k es s.tidy valid accepts_it 66 (omega arith) (omega arith) (omega arith)));
        }

  -- EITHER
  pub append_handled :
      Valid es → Agreeing (log_of m) p es → Room (handle_append (conf n) f x p q k (lift_log es)).now →
      (handle_append (conf n) f x p q k (lift_log es)).now.commit ≤ length (handle_append (conf n) f x p q k (lift_log es)).now.log →
      Handles n id m (append_taken m (loaded m) f p q k es) x (handle_append (conf n) f x p q k (lift_log es))
  unfolding append_taken handle_append accepts
  append_handled valid agree room reach =
      elim (cases_Bool (prev_matches x.log p q)) [
        | inl e ↦
            let d : handle_append (conf n) f x p q k (lift_log es) ≡ taking = ap (λ (b : Bool). pick b taking refusing) e in
            let prev : has_term (log_of m) p q ≡ true = prev_same ∙ e in
            let r : Room taking.now = subst (λ (o : Outcome (List ℕ)). Room o.now) d room in
            let c : taking.now.commit ≤ length taking.now.log = subst (λ (o : Outcome (List ℕ)). o.now.commit ≤ length o.now.log) d reach in
            handles_by n id m _ _ x _ _ (cond-true (accepts m p q es) _ _ (accepts_it valid agree prev r c)) d (taken valid agree prev r c)
        | inr e ↦
            let d : handle_append (conf n) f x p q k (lift_log es) ≡ refusing = ap (λ (b : Bool). pick b taking refusing) e in
            handles_by n id m _ _ x _ _ (cond-false (accepts m p q es) _ _ (and_left (has_term (log_of m) p q) (merges m p es) (prev_same ∙ e))) d refused
      ]
