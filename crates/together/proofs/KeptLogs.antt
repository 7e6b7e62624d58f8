-- What the log's changes keep: memory's length, and its words below 2 ^ 64.
use Rattle.std.proofs.Common.{drop, max, ◌-◌, Some, None, Option, refl, [], ◌∷◌, ◌≡◌, ℕ, zero, suc, ◌+◌, ◌<◌, ◌≤◌, true, ltb, leb, List, length, set, ◌∙◌, arith}
use Rattle.std.proofs.lemmas.List.{length-set}
use Rattle.std.proofs.lemmas.Bool.{leb-true, and_parts, cond_both}
use Rattle.raft_log.specs.Layout.{entry_row, value_row}
use Rattle.raft_log.specs.Values.{word_of, words_put, words_for, value_put}
use Rattle.raft_log.specs.Entries.{last_index, commit_index, values, entry_put, entry_pushed, value_appended, empty_place, empty_fits, empty_appended, commit_rises, commit_raised, applied_set}
use Rattle.raft_log.proofs.LogLaws.{last_most, number_most}
use Rattle.together.specs.Promise.{all_small}
use Rattle.together.proofs.Smalls.{limit, Kept, kept_set}
use mathlib.Core.Option.{Option as Maybe, none, some}
use Rattle.raft_log.specs.declared.Index.{Index}
use Rattle.raft_log.specs.Layout.{at_most}
use Rattle.raft_log.specs.Block.{Entry, ContentFits, EntriesFit}
use Rattle.raft_log.specs.View.{log_of}
use Rattle.raft_log.specs.Conflict.{conflict}
use Rattle.raft_log.specs.Accept.{truncated, content_taken, entry_taken, entries_taken, merged_at, merged, commit_noted, accepted}
use Rattle.raft_log.proofs.ValueLaws.{at_most_le}
use Rattle.raft_log.proofs.LogLaws.{commit_most}
use Rattle.raft_log.proofs.ConflictLaws.{conflict_within}

word_small : (v : List ℕ) (j : ℕ) → word_of v j < limit
word_small v j = omega arith

pub place_most : (m : List ℕ) → empty_fits m ≡ true → empty_place m ≤ 8193
place_most m f = leb-true (empty_place m) 8193 f

fit_drop : (n : ℕ) (es : List Entry) → EntriesFit es → EntriesFit (drop n es)
fit_drop zero es f = f
fit_drop (suc n) [] f = f
fit_drop (suc n) (e ∷ es) f = fit_drop n es f.2

-- b: the memory before all that is done to it
module _ (b : List ℕ) where
  abbrev IfSmall : Type 0 → Type 0
  IfSmall P = all_small b ≡ true → P

  pub set_kept : (m : List ℕ) (i x : ℕ) → Kept b m → IfSmall (x < limit) → Kept b (set m i x)
  set_kept m i x k l = record { long = length-set m i x ∙ k.long; small = λ h. (kept_set m i x (λ _. l h)).small (k.small h) }

  words_kept : (m : List ℕ) (base : ℕ) (v : List ℕ) (n : ℕ) → Kept b m → Kept b (words_put m base v n)
  unfolding words_put
  words_kept m base v zero k = k
  words_kept m base v (suc n) k = set_kept (words_put m base v n) (base + n) (word_of v n) (words_kept m base v n k) (λ _. word_small v n)

  value_kept : (m : List ℕ) (i : ℕ) (v : List ℕ) → Kept b m → length v ≤ 256 → Kept b (value_put m i v)
  unfolding value_put
  value_kept m i v k l =
      words_kept (set m (value_row i) (length v)) (value_row i + 1) v (words_for (length v)) (set_kept m (value_row i) (length v) k (λ _. omega arith))

  pub pushed_kept : (m : List ℕ) (i t n : ℕ) → Kept b m → IfSmall (t < limit) → i ≤ 8194 → n ≤ 4097 → Kept b (entry_pushed m i t n)
  pushed_kept m i t n k l p q =
      set_kept (entry_put m i t n) 64 i (set_kept (set m (entry_row i) t) (entry_row i + 1) n (set_kept m (entry_row i) t k l) (λ _. omega arith)) (λ _. omega arith)

  pub appended_kept : (m : List ℕ) (t : ℕ) (v : List ℕ) → Kept b m → IfSmall (t < limit) → length v ≤ 256 → Kept b (value_appended m t v)
  unfolding value_appended
  appended_kept m t v k l s =
      pushed_kept (value_put m (values m) v) (last_index m + 1) t (values m + 1) (value_kept m (values m) v k s) l (omega (arith, last_most m)) (omega (arith, number_most m (last_index m)))

  pub emptied_kept : (m : List ℕ) (t : ℕ) → Kept b m → IfSmall (t < limit) → empty_fits m ≡ true → Kept b (empty_appended m t)
  unfolding empty_appended
  emptied_kept m t k l f = pushed_kept m (empty_place m) t (values m) k l (omega (arith, place_most m f)) (omega (arith, number_most m (last_index m)))

  pub raised_kept : (m : List ℕ) (i : ℕ) → Kept b m → Kept b (commit_raised m i)
  unfolding commit_raised
  raised_kept m i k =
      cond_both (commit_rises m i) (set m 65 i) m (λ x. Kept b x)
      (λ e. set_kept m 65 i k (λ _. omega (arith, last_most m, leb-true i (last_index m) (and_parts (ltb (commit_index m) i) (leb i (last_index m)) e).1))) (λ _. k)

  pub applied_kept : (m : List ℕ) (k : ℕ) → Kept b m → k < limit → Kept b (applied_set m k)
  unfolding applied_set
  applied_kept m k p l = set_kept m 66 k p (λ _. l)

  -- ENTRIES OF A LEADER are taken
  entry_kept : (m : List ℕ) (t : ℕ) (o : Maybe (List ℕ)) → Kept b m → t < limit → ContentFits o → Kept b (content_taken m t o)
  entry_kept m t none k l f = pushed_kept m (last_index m + 1) t (values m) k (λ _. l) (omega (arith, last_most m)) (omega (arith, number_most m (last_index m)))
  entry_kept m t (some v) k l f = appended_kept m t v k (λ _. l) f.0

  entries_kept : (m : List ℕ) (es : List Entry) → Kept b m → EntriesFit es → Kept b (entries_taken m es)
  unfolding entries_taken entry_taken
  entries_kept m [] k f = k
  entries_kept m (e ∷ es) k f = entries_kept (entry_taken m e) es (entry_kept m e.term e.content k f.0 f.1) f.2

  merged_at_kept : (m : List ℕ) (p : ℕ) (es : List Entry) (o : Option Index) → Kept b m → EntriesFit es → ((c : Index) → o ≡ Some c → c.0 ≤ 8208) → Kept b (merged_at m p es o)
  unfolding truncated
  merged_at_kept m p es None k f l = k
  merged_at_kept m p es (Some c) k f l =
      entries_kept (truncated m (c.0 - 1)) (drop (c.0 - 1 - p) es) (set_kept m 64 (c.0 - 1) k (λ _. omega (arith, l c refl))) (fit_drop (c.0 - 1 - p) es f)

  pub accepted_kept : (m : List ℕ) (p c : ℕ) (es : List Entry) → Kept b m → p ≤ 8193 → length es ≤ 15 → EntriesFit es → Kept b (accepted m p c es)
  unfolding accepted commit_noted merged
  accepted_kept m p c es k l few f =
      let m₁ : List ℕ = merged m p es in
      set_kept m₁ 65 (max (commit_index m₁) (at_most c (p + length es)))
      (merged_at_kept m p es (conflict (log_of m) p es) k f (λ d e. omega (arith, (conflict_within (log_of m) p es d e).upto)))
      (λ _. omega (arith, commit_most m₁, last_most m₁, at_most_le c (p + length es)))
