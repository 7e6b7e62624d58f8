-- What each change of a memory makes of the log that it stands for.
use Rattle.std.proofs.Common.{◌≡◌, ℕ, zero, suc, ◌+◌, ◌-◌, ◌<◌, ◌≤◌, ltb, leb, ◌≢◌, List, [], ◌∷◌, ◌++◌, map, length, get_or, take, set, sym, refl, ap, ◌∙◌, inl, inr, arith}
use mathlib.Core.Option.{some}
use Rattle.std.proofs.lemmas.List.{length-set, get_or-set_same, get_or-set_other}
use Rattle.std.proofs.lemmas.Bool.{leb-true, and_parts, cond_both, cases_eq}
use Rattle.std.specs.List.{range_with_len}
use Rattle.raft_log.specs.Layout.{memory_words, at_most, entry_row}
use Rattle.raft_log.specs.Block.{log_entry, log_entries}
use Rattle.raft_log.specs.Values.{value_at}
use Rattle.raft_log.specs.Entries.{last_index, commit_index, term_at, number_at, values, entry_put, entry_pushed, commit_rises, commit_raised, applied_set}
use Rattle.raft_log.specs.Accept.{truncated}
use Rattle.raft_log.specs.View.{entry, content_between, entry_of, entries_of, log_of, Rises, TidyEntries, Tidy}
use Rattle.raft_log.proofs.ValueLaws.{at_most_same, value_alike}
use Rattle.raft_log.proofs.LogLaws.{SameEntries, same_entries, last_most, number_none, term_none, commit_raised_entries, commit_raised_other, length_commit_raised, applied_set_entries, applied_set_other, length_applied_set}
use Rattle.raft_log.proofs.AppendLaws.{term_in, number_in, length_pushed, pushed_other, pushed_last, pushed_term, pushed_number, pushed_terms, pushed_numbers, pushed_held}
use Rattle.raft_log.proofs.ViewLaws.{content_none, content_some, entries_alike, entries_more, take_log, number_up}

-- two entries are the same by their term, their numbers and the value in their slot
pub entry_alike :
    (m m₁ : List ℕ) (j n : ℕ) → term_at m₁ (suc j) ≡ term_at m (suc j) → number_at m₁ j ≡ number_at m j → number_at m₁ (suc j) ≡ number_at m (suc j) →
    Rises (number_at m j) (number_at m (suc j)) → number_at m (suc j) ≤ n → ((k : ℕ) → k < n → value_at m₁ k ≡ value_at m k) → entry_of m₁ j ≡ entry_of m j
entry_alike m m₁ j n e a b r l held = cc (e, a, b, same)
  where
    same : content_between m₁ (number_at m j) (number_at m (suc j)) ≡ content_between m (number_at m j) (number_at m (suc j))
    same =
        elim (cases_eq (number_at m (suc j)) (number_at m j)) [
          | inl q ↦ content_none m₁ (number_at m j) (number_at m (suc j)) q ∙ sym (content_none m (number_at m j) (number_at m (suc j)) q)
          | inr ne ↦
              let up : number_at m j < number_at m (suc j) = omega (arith, r.least) in
              content_some m₁ (number_at m j) (number_at m (suc j)) up
              ∙ (ap some (held (number_at m (suc j) - 1) (omega arith)) ∙ sym (content_some m (number_at m j) (number_at m (suc j)) up))
        ]

-- THE ROWS OF THE ENTRIES ARE THE SAME, though perhaps not how many count
module _ (m m₁ : List ℕ) (rows : (i : ℕ) → 72 ≤ i → i < 16458 → get_or m₁ i 0 ≡ get_or m i 0) where
  pub rows_terms : (i : ℕ) → i ≤ last_index m → i ≤ last_index m₁ → term_at m₁ i ≡ term_at m i
  rows_terms zero a b = term_none m₁ ∙ sym (term_none m)
  rows_terms (suc i) a b =
      term_in m₁ (suc i) (omega arith) b ∙ (rows (entry_row (suc i)) (omega arith) (omega (arith, last_most m)) ∙ sym (term_in m (suc i) (omega arith) a))

  pub rows_numbers : (i : ℕ) → i ≤ last_index m → i ≤ last_index m₁ → number_at m₁ i ≡ number_at m i
  rows_numbers zero a b = number_none m₁ ∙ sym (number_none m)
  rows_numbers (suc i) a b =
      number_in m₁ (suc i) (omega arith) b
      ∙ (ap (λ x. at_most x 4096) (rows (entry_row (suc i) + 1) (omega arith) (omega (arith, last_most m))) ∙ sym (number_in m (suc i) (omega arith) a))

  pub rows_tidy : length m₁ ≡ length m → get_or m₁ 64 0 ≤ 8193 → last_index m₁ ≤ last_index m → TidyEntries m → TidyEntries m₁
  rows_tidy e w l t =
      record {
        long = e ∙ t.long;
        last = w;
        counts = λ i a b. omega (arith, rows (entry_row i + 1) (omega arith) (omega (arith, last_most m)), t.counts i a (omega arith));
        rises = λ j b.
            let p = rows_numbers j (omega arith) (omega arith) in
            let q = rows_numbers (suc j) (omega arith) (omega arith) in
            let r = t.rises j (omega arith) in
            record { least = omega arith; most = omega arith };
      }

  -- and so are the values that the first n of them hold
  pub rows_entries :
      (n : ℕ) → TidyEntries m → n ≤ last_index m → n ≤ last_index m₁ → ((k : ℕ) → k < number_at m n → value_at m₁ k ≡ value_at m k) → entries_of m₁ n ≡ entries_of m n
  rows_entries n t a b held =
      entries_alike m m₁ n
      (λ j l.
      entry_alike m m₁ j (number_at m n) (rows_terms (suc j) (omega arith) (omega arith)) (rows_numbers j (omega arith) (omega arith))
      (rows_numbers (suc j) (omega arith) (omega arith)) (t.rises j (omega arith)) (number_up m t (suc j) n l a) held)

pub log_is : (m : List ℕ) (n : ℕ) → last_index m ≡ n → log_of m ≡ entries_of m n
unfolding log_of
log_is m n e = ap (entries_of m) e

last_word : (m m₁ : List ℕ) → get_or m₁ 64 0 ≡ get_or m 64 0 → last_index m₁ ≡ last_index m
unfolding last_index
last_word m m₁ e = ap (λ x. at_most x 8193) e

-- WHAT LEAVES THE ENTRIES AND VALUES ALONE
pub same_log : (m m₁ : List ℕ) → SameEntries m m₁ → log_of m₁ ≡ log_of m
same_log m m₁ s =
    log_is m₁ (last_index m) s.last
    ∙ (entries_alike m m₁ (last_index m) (λ j l. cc (s.terms (suc j), s.numbers j, s.numbers (suc j), s.held (number_at m (suc j) - 1)))
    ∙ sym (log_is m (last_index m) refl))

-- so what a sender reads for a block is the same
log_entry_same : (m m₁ : List ℕ) → SameEntries m m₁ → (i : ℕ) → log_entry m₁ i ≡ log_entry m i
log_entry_same m m₁ s i = cc (s.terms i, s.numbers i, s.numbers (i - 1), s.held (number_at m i - 1))

pub log_entries_same : (m m₁ : List ℕ) → SameEntries m m₁ → (p n : ℕ) → log_entries m₁ p n ≡ log_entries m p n
unfolding log_entries
log_entries_same m m₁ s p n = λ i. map (λ (k : ℕ). log_entry_same m m₁ s k i) (range_with_len p n)

pub same_tidy :
    (m m₁ : List ℕ) → length m₁ ≡ length m → get_or m₁ 64 0 ≡ get_or m 64 0 → ((i : ℕ) → 72 ≤ i → get_or m₁ i 0 ≡ get_or m i 0) → TidyEntries m → TidyEntries m₁
same_tidy m m₁ l e rows t = rows_tidy m m₁ (λ i a b. rows i a) l (omega (arith, t.last)) (omega (arith, last_word m m₁ e)) t

-- the machine's own words are not the log's
module _ (m m₁ : List ℕ) (l : length m₁ ≡ length m) (behind : (i : ℕ) → 64 ≤ i → get_or m₁ i 0 ≡ get_or m i 0) where
  pub header_log : log_of m₁ ≡ log_of m
  header_log = same_log m m₁ (same_entries m m₁ (behind 64 (omega arith)) (λ i a. behind i (omega arith)))

  pub header_tidy : Tidy m → Tidy m₁
  header_tidy t =
      record {
        entries = same_tidy m m₁ l (behind 64 (omega arith)) (λ i a. behind i (omega arith)) t.entries;
        commit = omega (arith, behind 65 (omega arith), last_word m m₁ (behind 64 (omega arith)), t.commit);
        applied = omega (arith, behind 66 (omega arith), t.applied);
      }

-- THE COMMIT RISES
module _ (m : List ℕ) (i : ℕ) where
  pub commit_raised_log : log_of (commit_raised m i) ≡ log_of m
  commit_raised_log = same_log m (commit_raised m i) (commit_raised_entries m i)

  commit_raised_word : length m ≡ memory_words → get_or m 65 0 ≤ last_index m → get_or (commit_raised m i) 65 0 ≤ last_index m
  unfolding commit_raised
  commit_raised_word l b =
      cond_both (commit_rises m i) (set m 65 i) m (λ x. get_or x 65 0 ≤ last_index m)
      (λ e. omega (arith, get_or-set_same m 65 i 0 (omega arith), leb-true i (last_index m) (and_parts (ltb (commit_index m) i) (leb i (last_index m)) e).1)) (λ e. b)

  pub commit_raised_tidy : Tidy m → Tidy (commit_raised m i)
  commit_raised_tidy t =
      record {
        entries = same_tidy m (commit_raised m i) (length_commit_raised m i) (commit_raised_other m i 64 (omega arith)) (λ j a. commit_raised_other m i j (omega arith)) t.entries;
        commit = omega (arith, (commit_raised_entries m i).last, commit_raised_word t.entries.long t.commit);
        applied = omega (arith, commit_raised_other m i 66 (omega arith), t.applied);
      }

-- A DECISION WAS APPLIED
module _ (m : List ℕ) (k : ℕ) where
  pub applied_set_log : log_of (applied_set m k) ≡ log_of m
  applied_set_log = same_log m (applied_set m k) (applied_set_entries m k)

  pub applied_set_word : length m ≡ memory_words → get_or (applied_set m k) 66 0 ≡ k
  unfolding applied_set
  applied_set_word l = get_or-set_same m 66 k 0 (omega arith)

  pub applied_set_tidy : k ≤ 4096 → Tidy m → Tidy (applied_set m k)
  applied_set_tidy b t =
      record {
        entries = same_tidy m (applied_set m k) (length_applied_set m k) (applied_set_other m k 64 (omega arith)) (λ j a. applied_set_other m k j (omega arith)) t.entries;
        commit = omega (arith, applied_set_other m k 65 (omega arith), (applied_set_entries m k).last, t.commit);
        applied = omega (arith, applied_set_word t.entries.long);
      }

-- THE LOG IS CUT behind its first k entries
module _ (m : List ℕ) (k : ℕ) (long : length m ≡ memory_words) (within : k ≤ last_index m) where
  pub truncated_last : last_index (truncated m k) ≡ k
  unfolding truncated last_index
  truncated_last = ap (λ x. at_most x 8193) (get_or-set_same m 64 k 0 (omega arith)) ∙ at_most_same k 8193 (omega (arith, last_most m))

  pub truncated_other : (i : ℕ) → i ≢ 64 → get_or (truncated m k) i 0 ≡ get_or m i 0
  unfolding truncated
  truncated_other i ne = get_or-set_other m 64 i k 0 ne

  pub length_truncated : length (truncated m k) ≡ length m
  unfolding truncated
  length_truncated = length-set m 64 k

  truncated_word : get_or (truncated m k) 64 0 ≡ k
  unfolding truncated
  truncated_word = get_or-set_same m 64 k 0 (omega arith)

  pub truncated_tidy : TidyEntries m → TidyEntries (truncated m k)
  truncated_tidy t =
      rows_tidy m (truncated m k) (λ i a b. truncated_other i (omega arith)) length_truncated (omega (arith, truncated_word, last_most m)) (omega (arith, truncated_last)) t

  pub truncated_held : (j : ℕ) → value_at (truncated m k) j ≡ value_at m j
  truncated_held j = value_alike m (truncated m k) j (λ i a b. truncated_other i (omega arith))

  pub truncated_values : values (truncated m k) ≡ number_at m k
  truncated_values = ap (number_at (truncated m k)) truncated_last ∙ rows_numbers m (truncated m k) (λ i a b. truncated_other i (omega arith)) k within (omega (arith, truncated_last))

  pub truncated_log : TidyEntries m → log_of (truncated m k) ≡ take k (log_of m)
  truncated_log t =
      log_is (truncated m k) k truncated_last
      ∙ (rows_entries m (truncated m k) (λ i a b. truncated_other i (omega arith)) k t within (omega (arith, truncated_last)) (λ j l. truncated_held j)
      ∙ sym (take_log m k within))

-- AN ENTRY IS PUSHED behind the first k
module _ (m : List ℕ) (k t n : ℕ) (long : length m ≡ memory_words) (within : k ≤ last_index m) (room : suc k ≤ 8193) (few : n ≤ 4096) where
  abbrev pushed : List ℕ
  pushed = entry_pushed m (suc k) t n

  one : 1 ≤ suc k
  one = omega arith

  pub pushed_log : log_of pushed ≡ take k (log_of m) ++ entry t (content_between m (number_at m k) n) ∷ []
  pushed_log =
      log_is pushed (suc k) (pushed_last m (suc k) t n long one room)
      ∙ (entries_more pushed k ∙ cc (front, last))
    where
      front : entries_of pushed k ≡ take k (log_of m)
      front =
          entries_alike m pushed k
          (λ j l.
          cc (
            pushed_terms m (suc k) t n long one room (suc j) (omega arith) (omega arith),
            pushed_numbers m (suc k) t n long one room j (omega arith) (omega arith),
            pushed_numbers m (suc k) t n long one room (suc j) (omega arith) (omega arith),
            pushed_held m (suc k) t n long one room (number_at m (suc j) - 1),
          ))
          ∙ sym (take_log m k within)

      last : entry_of pushed k ≡ entry t (content_between m (number_at m k) n)
      last =
          cc (
            pushed_term m (suc k) t n long one room,
            pushed_numbers m (suc k) t n long one room k (omega arith) within,
            pushed_number m (suc k) t n long one room few,
            pushed_held m (suc k) t n long one room (n - 1),
          )

  pushed_word : get_or pushed 64 0 ≡ suc k
  pushed_word = get_or-set_same (entry_put m (suc k) t n) 64 (suc k) 0 (simp length-set (omega arith))

  pushed_count : get_or pushed (entry_row (suc k) + 1) 0 ≡ n
  pushed_count =
      get_or-set_other (entry_put m (suc k) t n) 64 (entry_row (suc k) + 1) (suc k) 0 (omega arith)
      ∙ get_or-set_same (set m (entry_row (suc k)) t) (entry_row (suc k) + 1) n 0 (simp length-set (omega arith))

  pub pushed_tidy : Rises (number_at m k) n → TidyEntries m → TidyEntries pushed
  pushed_tidy r d =
      record {
        long = length_pushed m (suc k) t n long one room ∙ long;
        last = omega (arith, pushed_word);
        counts = λ i a b. counts i a (omega (arith, pushed_last m (suc k) t n long one room));
        rises = λ j b. rises j (omega (arith, pushed_last m (suc k) t n long one room));
      }
    where
      counts : (i : ℕ) → 1 ≤ i → i ≤ suc k → get_or pushed (entry_row i + 1) 0 ≤ 4096
      counts i a b =
          elim (cases_eq i (suc k)) [
            | inl e ↦ rw e (omega (arith, pushed_count))
            | inr ne ↦ omega (arith, pushed_other m (suc k) t n long one room (entry_row i + 1) (omega arith) (omega arith) (omega arith), d.counts i a (omega arith))
          ]

      rises : (j : ℕ) → j < suc k → Rises (number_at pushed j) (number_at pushed (suc j))
      rises j b =
          elim (cases_eq j k) [
            | inl e ↦
                let p = pushed_numbers m (suc k) t n long one room k (omega arith) within in
                let q = pushed_number m (suc k) t n long one room few in
                rw e (record { least = omega (arith, r.least); most = omega (arith, r.most) })
            | inr ne ↦
                let p = pushed_numbers m (suc k) t n long one room j (omega arith) (omega arith) in
                let q = pushed_numbers m (suc k) t n long one room (suc j) (omega arith) (omega arith) in
                let s = d.rises j (omega arith) in
                record { least = omega arith; most = omega arith }
          ]
