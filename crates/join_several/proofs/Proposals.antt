-- A leader takes a proposal in.
use Rattle.std.proofs.Common.{◌≡◌, ℕ, ◌+◌, ◌<◌, ◌≤◌, Bool, true, ◌≢◌, List, [], ◌∷◌, ◌++◌, length, get_or, take, set, sym, refl, ap, ◌∙◌, subst, arith}
use mathlib.Core.Option.{some}
use Rattle.std.proofs.lemmas.List.{length-set, get_or-set_other, take_all}
use Rattle.std.proofs.lemmas.Bool.{lt-ltb, true≢false}
use Rattle.raft_log.specs.Layout.{memory_words}
use Rattle.raft_log.specs.View.{log_of, Tidy, decisions as row_decisions}
use Rattle.raft_log.specs.Block.{Entry as Row}
use Rattle.raft_log.specs.Entries.{last_index, commit_index, applied_number, values, value_fits, value_appended}
use Rattle.raft_log.proofs.ViewLaws.{length_log, number_counts}
use Rattle.raft_log.proofs.LogChanges.{header_log, header_tidy}
use Rattle.raft_log.proofs.AppendLaws.{fits_value, length_appended, appended_header, appended_applied}
use Rattle.raft_log.proofs.LogAppends.{value_appended_log, value_appended_tidy}
use Rattle.raft.specs.declared.header.Role.{Role as Kind}
use Rattle.raft.specs.declared.header.Role.TheVariants.{Leader}
use Rattle.raft.specs.declared.header.Machine.{Machine as Header}
use Rattle.raft.specs.declared.say.Due.TheVariants.{Append}
use Rattle.raft.specs.Header.{loaded, stored}
use Rattle.raft.specs.Say.{said_to_others}
use Rattle.raft.specs.Commit.{maybe_committed}
use Rattle.raft.specs.Proposal.{with_unsettled, taken}
use Rattle.raft.proofs.HeaderLaws.{Held, loaded_stored, loaded_held}
use Rattle.protocol.specs.Lists.{pick, upd}
use Rattle.protocol.specs.Log.{entry, Log, decisions}
use Rattle.protocol.proofs.Logs.{push_length}
use Rattle.machine.specs.Machine.{Machine, Outcome, outcome}
use Rattle.machine.specs.Step.{broadcast, append_at, extended, proposed, propose_as, append_proposal, on_proposal}
use Rattle.join_several.specs.Stands.{conf, lift_log, Leads, RoleStands, Stands}
use Rattle.join_several.specs.Does.{Does}
use Rattle.join_several.proofs.Frames.{commit_alike, applied_alike, stands_said_others}
use Rattle.join_several.proofs.Lifts.{lift_push, lift_decisions}
use Rattle.join_several.proofs.Answered.{stored_applied}
use Rattle.join_several.proofs.Commits.{maybe_tidy, maybe_applied}
use Rattle.join_several.proofs.Leads.{upd_within, commit_word, set_row, Ready, ready_stored, posted_appends, said_others_loaded, said_others_applied}
use Rattle.join_several.proofs.Lifts.{lift_last}

-- THE LOG of a memory that takes a value holds fewer than there is room for
pub values_few : (n id : ℕ) (m : List ℕ) (x : Machine (List ℕ)) → Stands n id m x → length (decisions x.log) ≡ values m
values_few n id m x s =
    let all : take (last_index m) (log_of m) ≡ log_of m = take_all (last_index m) (log_of m) (omega (arith, length_log m)) in
    ap (λ (l : Log (List ℕ)). length (decisions l)) (sym s.log)
    ∙ (ap length (sym (lift_decisions (log_of m))) ∙ (ap (λ (l : List Row). length (row_decisions l)) (sym all) ∙ number_counts m s.tidy.entries (last_index m) (omega arith)))

module _ (n id : ℕ) (m : List ℕ) (x : Machine (List ℕ)) (v : List ℕ) (few : n ≤ 7) (low : id < n) (s : Stands n id m x) (role : (loaded m).role ≡ Leader)
    (fits : value_fits m (length v) ≡ true) (bytes : (i : ℕ) → get_or v i 0 < 256) where
  lead : Leads n m x
  lead = subst (λ (k : Kind). RoleStands n m k x) role s.role

  abbrev a : ℕ → ℕ
  a = lead.acked

  abbrev b : ℕ → ℕ
  b = lead.next

  abbrev t : ℕ
  t = (loaded m).term.0

  long : length m ≡ memory_words
  long = s.tidy.entries.long

  proposal_is : on_proposal (conf n) id x v ≡ outcome (proposed (conf n) id x v a b) (broadcast (conf n) id (λ j. append_at (conf n) (proposed (conf n) id x v a b) (b j)))
  unfolding on_proposal append_proposal
  proposal_is =
      ap (λ (y : Bool). pick y (propose_as (conf n) id x v x.role) (outcome x []))
      (lt-ltb (length (decisions x.log)) 4096 (omega (arith, values_few n id m x s, fits_value m t v long fits)))
      ∙ ap (propose_as (conf n) id x v) lead.role

  abbrev m₁ : List ℕ
  m₁ = value_appended m t v

  abbrev m₂ : List ℕ
  m₂ = set m₁ (15 + id) (last_index m + 1)

  long₁ : length m₁ ≡ memory_words
  long₁ = length_appended m t v long fits ∙ long

  tidy₁ : Tidy m₁
  tidy₁ = value_appended_tidy m t v s.tidy fits

  log₁ : lift_log (log_of m₁) ≡ (extended x v).log
  log₁ =
      ap lift_log (value_appended_log m t v s.tidy.entries fits bytes)
      ∙ (lift_push (log_of m) t (some v) ∙ (ap (λ (l : Log (List ℕ)). l ++ entry t (some v) ∷ []) s.log ∙ ap (λ (u : ℕ). x.log ++ entry u (some v) ∷ []) s.term))

  commit₁ : commit_index m₁ ≡ x.commit
  commit₁ = commit_word m m₁ s.tidy tidy₁ (appended_header m t v long fits 65 (omega arith) (omega arith)) ∙ s.commit

  place_is : last_index m + 1 ≡ length (extended x v).log
  place_is = omega (arith, lift_last m x.log s.log, push_length x.log (entry x.term (some v)))

  long₂ : length m₂ ≡ length m₁
  long₂ = length-set m₁ (15 + id) (last_index m + 1)

  other₂ : (i : ℕ) → i ≢ 15 + id → get_or m₂ i 0 ≡ get_or m₁ i 0
  other₂ i ne = get_or-set_other m₁ (15 + id) i (last_index m + 1) 0 ne

  behind₂ : (i : ℕ) → 64 ≤ i → get_or m₂ i 0 ≡ get_or m₁ i 0
  behind₂ i l = other₂ i (omega arith)

  ready : Ready n m₂ (extended x v) (upd a id (length (extended x v).log)) b
  ready =
      record {
        tidy = header_tidy m₁ m₂ long₂ behind₂ tidy₁;
        log = ap lift_log (header_log m₁ m₂ long₂ behind₂) ∙ log₁;
        commit = commit_alike m₁ m₂ long₂ behind₂ ∙ commit₁;
        matched = λ j l.
            set_row (λ (w : ℕ). w) m₁ 15 id (last_index m + 1) a n (omega (arith, long₁)) low
            (λ k q. appended_header m t v long fits (15 + k) (omega arith) (omega arith) ∙ lead.matched k q) j l
            ∙ ap (λ (w : ℕ). upd a id w j) place_is;
        sent = λ j l. other₂ (22 + j) (omega arith) ∙ (appended_header m t v long fits (22 + j) (omega arith) (omega arith) ∙ lead.sent j l);
        acked_most = λ j l. upd_within a id (length (extended x v).log) j (length (extended x v).log) (omega arith)
            (omega (arith, lead.acked_most j l, push_length x.log (entry x.term (some v))));
        next_most = λ j l. omega (arith, lead.next_most j l, push_length x.log (entry x.term (some v)));
      }

  held : Held (with_unsettled (loaded m))
  held =
      let h = loaded_held m in
      record { some = h.some; few = h.few; one = h.one; waits = h.waits }

  abbrev m₃ : List ℕ
  m₃ = stored (maybe_committed m₂ n t) (with_unsettled (loaded m))

  stands₃ : Stands n id m₃ (proposed (conf n) id x v a b)
  stands₃ =
      ready_stored n m₂ (extended x v) (upd a id (length (extended x v).log)) b few t s.term ready id (with_unsettled (loaded m)) held s.size s.self s.term role

  loaded₃ : loaded m₃ ≡ with_unsettled (loaded m)
  loaded₃ = loaded_stored (maybe_committed m₂ n t) (with_unsettled (loaded m)) (maybe_tidy m₂ n t ready.tidy).entries.long held

  applied₃ : applied_number m₃ ≡ applied_number m
  applied₃ =
      stored_applied (maybe_committed m₂ n t) (with_unsettled (loaded m))
      ∙ (maybe_applied m₂ n t ∙ (applied_alike m₁ m₂ long₂ behind₂ ∙ appended_applied m t v long fits))

  taken_is : taken m (loaded m) v ≡ said_to_others m₃ (loaded m) Append
  unfolding taken
  taken_is =
      let size = s.size in
      let self = s.self in
      λ i. said_to_others (stored (maybe_committed (set m₁ (15 + self i) (last_index m + 1)) (size i) t) (with_unsettled (loaded m))) (loaded m) Append

  takes :
      Does n id m (said_to_others m₃ (loaded m) Append) x
      (outcome (proposed (conf n) id x v a b) (broadcast (conf n) id (λ j. append_at (conf n) (proposed (conf n) id x v a b) (b j))))
  takes =
      let e : loaded (said_to_others m₃ (loaded m) Append) ≡ with_unsettled (loaded m) = said_others_loaded m₃ (loaded m) Append ∙ loaded₃ in
      record {
        stands = stands_said_others m₃ (loaded m) Append n id (proposed (conf n) id x v a b) few stands₃;
        sent = posted_appends n id m₃ (proposed (conf n) id x v a b) (loaded m) (upd a id (length (extended x v).log)) b few stands₃ s.size s.self refl;
        safe = λ f. absurd (true≢false (sym (ap (λ (z : Header Kind). z.unsettled) e) ∙ f));
        since = ap (λ (z : Header Kind). z.since) e;
        applied = said_others_applied m₃ (loaded m) Append ∙ applied₃;
      }

  -- A PROPOSAL TAKEN is what the theory does
  pub taken_does : Does n id m (taken m (loaded m) v) x (on_proposal (conf n) id x v)
  taken_does =
      subst (λ (z : List ℕ). Does n id m z x (on_proposal (conf n) id x v)) (sym taken_is)
      (subst (λ (d : Outcome (List ℕ)). Does n id m (said_to_others m₃ (loaded m) Append) x d) (sym proposal_is) takes)
