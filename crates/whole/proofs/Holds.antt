-- A memory whose log is what the order says, all of it decided: so it is where one machine decides alone, and where nothing is decided.
use Rattle.std.proofs.Common.{◌≡◌, ℕ, ◌+◌, ◌-◌, ◌<◌, true, cond, ltb, List, [], ◌∷◌, ◌++◌, length, get_or, sym, ap, ◌∙◌, inl, inr, arith}
use Rattle.std.proofs.lemmas.List.{length_push, get_or_push, get_or_append_left}
use Rattle.std.proofs.lemmas.Bool.{ltb-true, and_parts, cases_lt}
use Rattle.raft_log.specs.Values.{value_at}
use Rattle.raft_log.specs.Entries.{last_index, commit_index, number_at, values, decided, last_is_empty, value_fits, value_appended, empty_place, empty_fits, empty_appended, commit_raised}
use Rattle.raft_log.proofs.LogLaws.{SameEntries, commit_most, length_commit_raised, commit_raised_entries, commit_raised_up}
use Rattle.raft_log.proofs.AppendLaws.{Roomy, roomy_appended, roomy_emptied, length_appended, appended_last, appended_values, appended_held, appended_value, length_empty, empty_last, empty_values, empty_held}
use Rattle.together.specs.House.{every, nth_value, all_apart, an_order}
use Rattle.together.specs.Promise.{are_bytes}
use Rattle.whole.proofs.Acts.{Long, SameLog}
use Rattle.together.proofs.Lists.{every_at, bytes_from}
use Rattle.whole.proofs.Orders.{nth_front, nth_last}

pub record Holds (ps : List (List ℕ)) (o m : List ℕ) : Type 0 where
  pub long : Long m
  pub roomy : Roomy m
  pub count : values m ≡ length o
  pub all : commit_index m ≡ last_index m
  pub held : (i : ℕ) → i < length o → value_at m i ≡ nth_value ps (get_or o i 0)

-- all that the order has is decided
pub holds_decided : (ps : List (List ℕ)) (o m : List ℕ) → Holds ps o m → decided m ≡ length o
holds_decided ps o m h = ap (number_at m) h.all ∙ h.count

same_values : (m m₁ : List ℕ) → SameEntries m m₁ → values m₁ ≡ values m
same_values m m₁ s = ap (number_at m₁) s.last ∙ s.numbers (last_index m)

same_empty : (m m₁ : List ℕ) → SameEntries m m₁ → last_is_empty m₁ ≡ last_is_empty m
same_empty m m₁ s = rw (same_values m m₁ s, s.last, s.numbers (last_index m - 1))

same_roomy : (m m₁ : List ℕ) → SameEntries m m₁ → Roomy m → Roomy m₁
same_roomy m m₁ s r =
    let e : ◌≡◌ {A = ℕ} (cond (last_is_empty m₁) 1 0) (cond (last_is_empty m) 1 0) = ap (λ b. cond b 1 0) (same_empty m m₁ s) in
    omega (arith, same_values m m₁ s, s.last)

-- memory with the same log
pub holds_same : (ps : List (List ℕ)) (o m m₁ : List ℕ) → Long m₁ → SameLog m m₁ → Holds ps o m → Holds ps o m₁
holds_same ps o m m₁ l s h =
    record {
      long = l;
      roomy = same_roomy m m₁ s.entries h.roomy;
      count = same_values m m₁ s.entries ∙ h.count;
      all = s.commit ∙ (h.all ∙ sym s.entries.last);
      held = λ i b. s.entries.held i ∙ h.held i b;
    }

-- all of a log is decided at once
committed_all : (ps : List (List ℕ)) (o m : List ℕ) (i : ℕ) → Long m → Roomy m → values m ≡ length o → last_index m ≡ i → ((j : ℕ) → j < length o → value_at m j ≡ nth_value ps (get_or o j 0)) →
    Holds ps o (commit_raised m i)
committed_all ps o m i long roomy count last held =
    let s = commit_raised_entries m i in
    record {
      long = length_commit_raised m i ∙ long;
      roomy = same_roomy m (commit_raised m i) s roomy;
      count = same_values m (commit_raised m i) s ∙ count;
      all = commit_raised_up m i long (omega (arith, commit_most m)) (omega arith) ∙ (sym last ∙ sym s.last);
      held = λ j b. s.held j ∙ held j b;
    }

-- A LEADER'S EMPTY ENTRY changes nothing of what is decided
pub holds_led : (ps : List (List ℕ)) (o m : List ℕ) (t : ℕ) → empty_fits m ≡ true → Holds ps o m → Holds ps o (commit_raised (empty_appended m t) (empty_place m))
holds_led ps o m t f h =
    committed_all ps o (empty_appended m t) (empty_place m) (length_empty m t h.long f ∙ h.long) (roomy_emptied m t h.long f h.roomy)
    (empty_values m t h.long f ∙ h.count) (empty_last m t h.long f) (λ j b. empty_held m t h.long f j ∙ h.held j b)

-- A PROPOSAL stands last in the order, and is decided
module _ (ps : List (List ℕ)) (o : List ℕ) (ordered : an_order ps o ≡ true) where
  order_at : (i : ℕ) → i < length o → get_or o i 0 < length ps
  order_at i l =
      ltb-true (get_or o i 0) (length ps) (every_at (λ j. ltb j (length ps)) o 0 i (and_parts (every (λ j. ltb j (length ps)) o) (all_apart o) ordered).0 l)

  -- more was proposed
  pub holds_later : (v m : List ℕ) → Holds ps o m → Holds (ps ++ v ∷ []) o m
  holds_later v m h =
      record { long = h.long; roomy = h.roomy; count = h.count; all = h.all; held = λ i l. h.held i l ∙ sym (nth_front ps v (get_or o i 0) (order_at i l)) }

  pub holds_taken : (m v : List ℕ) (t : ℕ) → value_fits m (length v) ≡ true → are_bytes v ≡ true → Holds ps o m →
      Holds (ps ++ v ∷ []) (o ++ length ps ∷ []) (commit_raised (value_appended m t v) (last_index m + 1))
  holds_taken m v t f bs h =
      committed_all (ps ++ v ∷ []) (o ++ length ps ∷ []) (value_appended m t v) (last_index m + 1) (length_appended m t v h.long f ∙ h.long)
      (roomy_appended m t v h.long f h.roomy) (appended_values m t v h.long f ∙ (ap (λ n. n + 1) h.count ∙ sym (length_push o (length ps)))) (appended_last m t v h.long f) held
    where
      held : (i : ℕ) → i < length (o ++ length ps ∷ []) → value_at (value_appended m t v) i ≡ nth_value (ps ++ v ∷ []) (get_or (o ++ length ps ∷ []) i 0)
      held i l =
          elim (cases_lt i (length o)) [
            | inl b ↦
                appended_held m t v h.long f i (omega (arith, h.count))
                ∙ (h.held i b ∙ (sym (nth_front ps v (get_or o i 0) (order_at i b)) ∙ ap (nth_value (ps ++ v ∷ [])) (sym (get_or_append_left o (length ps ∷ []) 0 i b))))
            | inr b ↦
                let e : i ≡ values m = omega (arith, length_push o (length ps), h.count) in
                let q : length o ≡ i = omega (arith, length_push o (length ps)) in
                ap (value_at (value_appended m t v)) e
                ∙ (appended_value m t v h.long f (bytes_from v bs) ∙ (sym (nth_last ps v) ∙ ap (nth_value (ps ++ v ∷ [])) (sym (get_or_push o (length ps) 0 i q))))
          ]
