-- What an append makes of the log that a memory stands for.
use Rattle.std.proofs.Common.{◌≡◌, ℕ, zero, suc, ◌+◌, ◌-◌, ◌<◌, ◌≤◌, min, max, true, ◌≢◌, List, [], ◌∷◌, ◌++◌, length, get_or, take, drop, Some, None, Option, sym, refl, ap, ◌∙◌, subst, inl, inr, add-one, arith}
use mathlib.Core.Option.{Option as Content, none, some}
use Rattle.std.proofs.lemmas.List.{append-nil, append_assoc, length-append, length-take, length-take-le, length-drop, take_all, get_or-take, get_or-drop, get_or_past, length-set, get_or-set_same, get_or-set_other}
use Rattle.std.proofs.lemmas.Bool.{and_parts, cases_lt}
use Rattle.raft_log.specs.declared.Index.{Index}
use Rattle.raft_log.specs.Layout.{memory_words, at_most}
use Rattle.raft_log.specs.Entries.{last_index, commit_index, values, entry_pushed}
use Rattle.raft_log.specs.Block.{Entry, row_code, row_length, value_offset, content_of, block_entries, block_fits}
use Rattle.raft_log.specs.View.{entry, log_of, TidyEntries, Tidy, no_entry, with_content, decisions, ValidContent, Valid}
use Rattle.raft_log.specs.Conflict.{has_term, conflict, spliced, Agreeing, merge}
use Rattle.raft_log.specs.Accept.{truncated, content_taken, entry_taken, entries_taken, entries_fit, merges, merged, commit_noted, accepts, accepted}
use Rattle.raft_log.proofs.ValueLaws.{at_most_same}
use Rattle.raft_log.specs.Bytes.{Bytes}
use Rattle.raft_log.proofs.LogLaws.{SameEntries, same_entries, commit_most}
use Rattle.raft_log.proofs.AppendLaws.{pushed_other, appended_header}
use Rattle.raft_log.proofs.ViewLaws.{length_log}
use Rattle.raft_log.proofs.LogChanges.{same_log, same_tidy, truncated_other, truncated_tidy, truncated_log}
use Rattle.raft_log.proofs.LogAppends.{value_appended_log, value_appended_tidy_entries, empty_pushed_log, empty_pushed_tidy}
use Rattle.raft_log.proofs.ConflictLaws.{conflict_within, length_block_entries, block_entries_at}
use Rattle.raft_log.proofs.TakeLaws.{Short, took, value_room, value_short, fit_entry, fit_values, entries_fit_from}
use Rattle.raft_log.proofs.MergeLaws.{at_most_min, prev_within, conflict_none_long, merges_some, merged_none, merged_some, spliced_merge}

pub valid_drop : (es : List Entry) (k : ℕ) → Valid es → Valid (drop k es)
valid_drop es k h i l =
    subst (λ (e : Entry). ValidContent e.content) (sym (get_or-drop k es i no_entry)) (h (k + i) (omega (arith, length-drop k es)))

-- the entries of a block of bytes are such
module _ (bs : List ℕ) (n : ℕ) (ok : block_fits bs n ≡ true) (bytes : Bytes bs) where
  bytes_part : (k a : ℕ) → Bytes (take k (drop a bs))
  bytes_part k a i =
      elim (cases_lt i k) [
        | inl l ↦ omega (arith, get_or-take k (drop a bs) i 0 l, get_or-drop a bs i 0, bytes (a + i))
        | inr l ↦ omega (arith, get_or_past (take k (drop a bs)) i 0 (omega (arith, length-take k (drop a bs))))
      ]

  pub valid_block : Valid (block_entries bs n)
  valid_block i l =
      let b : i < n = omega (arith, length_block_entries bs n) in
      subst (λ (e : Entry). ValidContent e.content) (sym (block_entries_at bs n i no_entry b))
      (go (row_code bs i) (take (row_length bs i) (drop (value_offset bs n i) bs)) (value_short bs n i ok b) (bytes_part (row_length bs i) (value_offset bs n i)))
    where
      go : (k : ℕ) (v : List ℕ) → length v ≤ 256 → Bytes v → ValidContent (content_of k v)
      go zero v s h = tt
      go (suc k) v s h = (s, h)

-- m₁ has the log l; of the words before the entries none but their number is another than in m
pub record Rewritten (m m₁ : List ℕ) (l : List Entry) : Type 0 where
  pub log : log_of m₁ ≡ l
  pub tidy : TidyEntries m₁
  pub header : (i : ℕ) → i < 72 → i ≢ 64 → get_or m₁ i 0 ≡ get_or m i 0

-- ENTRIES BEHIND THE LAST
taken_one :
    (m : List ℕ) (t : ℕ) (o : Content (List ℕ)) (vs : List (List ℕ)) → TidyEntries m → ValidContent o → last_index m < 8193 →
    values m + length (with_content o vs) ≤ 4096 → Rewritten m (content_taken m t o) (log_of m ++ entry t o ∷ [])
taken_one m t none vs d v a b =
    let e : entry_pushed m (last_index m + 1) t (values m) ≡ entry_pushed m (suc (last_index m)) t (values m) = ap (λ k. entry_pushed m k t (values m)) (add-one (last_index m)) in
    let front : take (last_index m) (log_of m) ≡ log_of m = take_all (last_index m) (log_of m) (omega (arith, length_log m)) in
    record {
      log = ap log_of e ∙ (empty_pushed_log m (last_index m) t d (omega arith) a refl ∙ ap (λ l. l ++ entry t none ∷ []) front);
      tidy = subst (λ (x : List ℕ). TidyEntries x) (sym e) (empty_pushed_tidy m (last_index m) t d (omega arith) a refl);
      header = λ i l ne. pushed_other m (last_index m + 1) t (values m) d.long (omega arith) (omega arith) i ne (omega arith) (omega arith);
    }
taken_one m t (some v) vs d s a b =
    let f = value_room m v s.0 a (omega arith) in
    record {
      log = value_appended_log m t v d f s.1;
      tidy = value_appended_tidy_entries m t v d f;
      header = λ i l ne. appended_header m t v d.long f i l ne;
    }

pub taken : (m : List ℕ) (es : List Entry) → TidyEntries m → Valid es → entries_fit m es ≡ true → Rewritten m (entries_taken m es) (log_of m ++ es)
unfolding entries_taken entry_taken
taken m [] d v f = record { log = sym (append-nil (log_of m)); tidy = d; header = λ i l ne. refl }
taken m (e ∷ es) d v f =
    let room = fit_entry m e es f in
    let few = fit_values m e es f in
    let first = taken_one m e.term e.content (decisions es) d (v 0 (omega arith)) (omega arith) few in
    let k = took m e.term e.content (decisions es) d.long (short e.content (v 0 (omega arith))) (omega arith) few in
    let m₁ : List ℕ = content_taken m e.term e.content in
    let fit : entries_fit m₁ es ≡ true = entries_fit_from m₁ es (omega (arith, k.last)) (omega (arith, k.held (decisions es))) in
    let rest = taken m₁ es first.tidy (λ i l. v (suc i) (omega arith)) fit in
    record {
      log = rest.log ∙ (ap (λ l. l ++ es) first.log ∙ append_assoc (log_of m) (e ∷ []) es);
      tidy = rest.tidy;
      header = λ i l ne. rest.header i l ne ∙ first.header i l ne;
    }
  where
    short : (o : Content (List ℕ)) → ValidContent o → Short o
    short none h = tt
    short (some v) h = h.0

-- WHERE THE LOG IS CUT
module _ (m : List ℕ) (p : ℕ) (es : List Entry) (d : TidyEntries m) (v : Valid es) (within : p ≤ last_index m) (ok : merges m p es ≡ true) where
  abbrev l : List Entry
  l = log_of m

  pub merged_rewritten : Rewritten m (merged m p es) (spliced l p es (conflict l p es))
  merged_rewritten = go (conflict l p es) refl
    where
      go : (o : Option Index) → conflict l p es ≡ o → Rewritten m (merged m p es) (spliced l p es (conflict l p es))
      go None e =
          let same = merged_none m p es e in
          record {
            log = ap log_of same ∙ sym (ap (spliced l p es) e);
            tidy = subst (λ (x : List ℕ). TidyEntries x) (sym same) d;
            header = λ i a ne. ap (λ x. get_or x i 0) same;
          }
      go (Some c) e =
          let w = conflict_within l p es c e in
          let k : ℕ = c.0 - 1 in
          let cut : k ≤ last_index m = omega (arith, length_log m, w.near (omega (arith, length_log m))) in
          let is = merged_some m p es c e in
          let t = taken (truncated m k) (drop (k - p) es) (truncated_tidy m k d.long cut d) (valid_drop es (k - p) v) (sym (merges_some m p es c e) ∙ ok) in
          record {
            log = ap log_of is ∙ (t.log ∙ (ap (λ x. x ++ drop (k - p) es) (truncated_log m k d.long cut d) ∙ sym (ap (spliced l p es) e)));
            tidy = subst (λ (x : List ℕ). TidyEntries x) (sym is) t.tidy;
            header = λ i a ne. ap (λ x. get_or x i 0) is ∙ (t.header i a ne ∙ truncated_other m k d.long cut i ne);
          }

  -- all that was compared is there
  pub merged_reaches : p + length es ≤ length (log_of (merged m p es))
  merged_reaches = go (conflict l p es) refl
    where
      go : (o : Option Index) → conflict l p es ≡ o → p + length es ≤ length (log_of (merged m p es))
      go None e = omega (arith, ap length (merged_rewritten.log ∙ ap (spliced l p es) e), conflict_none_long l p es (omega (arith, length_log m)) e)
      go (Some c) e =
          let w = conflict_within l p es c e in
          omega (
            arith,
            ap length (merged_rewritten.log ∙ ap (spliced l p es) e),
            length-append (take (c.0 - 1) l) (drop (c.0 - 1 - p) es),
            length-take-le (c.0 - 1) l (omega (arith, w.near (omega (arith, length_log m)))),
            length-drop (c.0 - 1 - p) es,
            w.behind,
            w.upto,
          )

commit_read : (m : List ℕ) → commit_index m ≡ at_most (get_or m 65 0) (last_index m)
unfolding commit_index
commit_read m = refl

pub commit_tidy : (m : List ℕ) → Tidy m → commit_index m ≡ get_or m 65 0
commit_tidy m d = commit_read m ∙ at_most_same (get_or m 65 0) (last_index m) d.commit

-- WHAT IS KNOWN TO BE DECIDED
module _ (m : List ℕ) (k : ℕ) (long : length m ≡ memory_words) where
  pub length_commit_noted : length (commit_noted m k) ≡ length m
  unfolding commit_noted
  length_commit_noted = length-set m 65 (max (commit_index m) k)

  pub commit_noted_other : (i : ℕ) → i ≢ 65 → get_or (commit_noted m k) i 0 ≡ get_or m i 0
  unfolding commit_noted
  commit_noted_other i ne = get_or-set_other m 65 i (max (commit_index m) k) 0 ne

  pub commit_noted_word : get_or (commit_noted m k) 65 0 ≡ max (commit_index m) k
  unfolding commit_noted
  commit_noted_word = get_or-set_same m 65 (max (commit_index m) k) 0 (omega arith)

  pub commit_noted_entries : SameEntries m (commit_noted m k)
  commit_noted_entries = same_entries m (commit_noted m k) (commit_noted_other 64 (omega arith)) (λ i a. commit_noted_other i (omega arith))

  pub commit_noted_commit : k ≤ last_index m → commit_index (commit_noted m k) ≡ max (commit_index m) k
  commit_noted_commit b =
      commit_read (commit_noted m k)
      ∙ (ap (λ x. at_most x (last_index (commit_noted m k))) commit_noted_word
      ∙ at_most_same (max (commit_index m) k) (last_index (commit_noted m k)) (omega (arith, commit_noted_entries.last, commit_most m)))

-- AN APPEND THAT IS TAKEN
module _ (m : List ℕ) (p q k : ℕ) (es : List Entry) (d : Tidy m) (v : Valid es) (ok : accepts m p q es ≡ true) where
  accepts_parts : (has_term (log_of m) p q ≡ true) × (merges m p es ≡ true)
  unfolding accepts
  accepts_parts = and_parts (has_term (log_of m) p q) (merges m p es) ok

  changed : Rewritten m (merged m p es) (spliced (log_of m) p es (conflict (log_of m) p es))
  changed = merged_rewritten m p es d.entries v (prev_within m p q accepts_parts.0) accepts_parts.1

  reaches : p + length es ≤ last_index (merged m p es)
  reaches = omega (arith, merged_reaches m p es d.entries v (prev_within m p q accepts_parts.0) accepts_parts.1, length_log (merged m p es))

  abbrev told : ℕ
  told = at_most k (p + length es)

  told_least : told ≡ min k (p + length es)
  told_least = at_most_min k (p + length es)

  same : SameEntries (merged m p es) (accepted m p k es)
  unfolding accepted
  same = commit_noted_entries (merged m p es) told changed.tidy.long

  pub accepted_log : log_of (accepted m p k es) ≡ spliced (log_of m) p es (conflict (log_of m) p es)
  accepted_log = same_log (merged m p es) (accepted m p k es) same ∙ changed.log

  -- where equal terms mean equal entries, as between machines that keep to the protocol
  pub accepted_merge : Agreeing (log_of m) p es → log_of (accepted m p k es) ≡ merge (log_of m) p es
  accepted_merge a = accepted_log ∙ spliced_merge (log_of m) p es a

  pub length_accepted : length (accepted m p k es) ≡ length m
  unfolding accepted
  length_accepted = length_commit_noted (merged m p es) told changed.tidy.long ∙ (changed.tidy.long ∙ sym d.entries.long)

  -- the machine's own words, and what was applied, stay
  pub accepted_header : (i : ℕ) → i < 72 → i ≢ 64 → i ≢ 65 → get_or (accepted m p k es) i 0 ≡ get_or m i 0
  unfolding accepted
  accepted_header i a b c = commit_noted_other (merged m p es) told changed.tidy.long i c ∙ changed.header i a b

  before : commit_index (merged m p es) ≡ min (commit_index m) (last_index (merged m p es))
  before =
      commit_read (merged m p es)
      ∙ (ap (λ x. at_most x (last_index (merged m p es))) (changed.header 65 (omega arith) (omega arith) ∙ sym (commit_tidy m d)) ∙ at_most_min (commit_index m) (last_index (merged m p es)))

  -- the commit rises to what the sender knows, as far as was compared; it stays within the log
  pub accepted_commit : commit_index (accepted m p k es) ≡ max (min (commit_index m) (length (log_of (accepted m p k es)))) (min k (p + length es))
  unfolding accepted
  accepted_commit =
      let c = commit_noted_commit (merged m p es) told changed.tidy.long (omega (arith, told_least, reaches)) in
      omega (arith, c, before, told_least, length_log (accepted m p k es), same.last)

  -- it never falls where the log still has all that is decided
  pub accepted_commit_up :
      commit_index m ≤ length (log_of (accepted m p k es)) → commit_index (accepted m p k es) ≡ max (commit_index m) (min k (p + length es))
  accepted_commit_up b = omega (arith, accepted_commit)

  pub accepted_tidy : Tidy (accepted m p k es)
  unfolding accepted
  accepted_tidy =
      let long = changed.tidy.long in
      record {
        entries =
            same_tidy (merged m p es) (accepted m p k es) (length_commit_noted (merged m p es) told long) (commit_noted_other (merged m p es) told long 64 (omega arith))
            (λ i a. commit_noted_other (merged m p es) told long i (omega arith)) changed.tidy;
        commit = omega (arith, commit_noted_word (merged m p es) told long, commit_most (merged m p es), told_least, reaches, same.last);
        applied = omega (arith, accepted_header 66 (omega arith) (omega arith) (omega arith), d.applied);
      }
