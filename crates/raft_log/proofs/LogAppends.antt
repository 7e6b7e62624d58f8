-- What appending a value, or a new leader's empty entry, makes of the log that a memory stands for.
use Rattle.std.proofs.Common.{◌≡◌, ℕ, zero, suc, ◌+◌, ◌-◌, ◌≤◌, Bool, true, false, cond, ◌&&◌, eqb, leb, List, [], ◌∷◌, ◌++◌, length, get_or, take, sym, refl, ap, ◌∙◌, subst, inl, inr, add-one, arith}
use mathlib.Core.Option.{none, some}
use Rattle.std.proofs.lemmas.List.{take_all}
use Rattle.std.proofs.lemmas.Bool.{and_parts, and_left, eqb-true, le-leb, lt-leb, cond-true, cond-false, cases_Bool}
use Rattle.raft_log.specs.Layout.{memory_words}
use Rattle.raft_log.specs.Bytes.{Bytes}
use Rattle.raft_log.specs.Values.{value_at, value_put}
use Rattle.raft_log.specs.Entries.{last_index, number_at, values, last_is_empty, entry_pushed, value_fits, value_appended, empty_place, empty_fits, empty_appended}
use Rattle.raft_log.specs.Block.{Entry}
use Rattle.raft_log.specs.View.{entry, content_between, log_of, TidyEntries, Tidy, no_entry, is_none, renew_place, renewed}
use Rattle.raft_log.proofs.ValueLaws.{length_value_put, value_put_before, value_put_other, value_put_same}
use Rattle.raft_log.proofs.LogLaws.{number_most}
use Rattle.raft_log.proofs.AppendLaws.{put_last, put_numbers, fits_short, fits_entry, fits_value, appended_header, appended_last, empty_header, empty_last, empty_room}
use Rattle.raft_log.proofs.ViewLaws.{content_none, content_some, length_log, log_at}
use Rattle.raft_log.proofs.LogChanges.{rows_tidy, rows_entries, log_is, pushed_log, pushed_tidy}

-- A VALUE IS PUT INTO A SLOT that no entry has
module _ (m : List ℕ) (v : List ℕ) (d : TidyEntries m) (short : length v ≤ 256) where
  abbrev put : List ℕ
  put = value_put m (values m) v

  pub put_log : log_of put ≡ log_of m
  put_log =
      log_is put (last_index m) (put_last m (values m) v)
      ∙ (rows_entries m put (λ i a b. value_put_before m (values m) v i (omega arith)) (last_index m) d (omega arith) (omega (arith, put_last m (values m) v))
      (λ k l. value_put_other m (values m) v k short (omega arith))
      ∙ sym (log_is m (last_index m) refl))

  pub put_tidy : TidyEntries put
  put_tidy =
      rows_tidy m put (λ i a b. value_put_before m (values m) v i (omega arith)) (length_value_put m (values m) v)
      (omega (arith, value_put_before m (values m) v 64 (omega arith), d.last)) (omega (arith, put_last m (values m) v)) d

-- A VALUE IS APPENDED: one more entry
module _ (m : List ℕ) (t : ℕ) (v : List ℕ) (d : TidyEntries m) (fits : value_fits m (length v) ≡ true) where
  abbrev m₁ : List ℕ
  m₁ = value_put m (values m) v

  appended_is : value_appended m t v ≡ entry_pushed m₁ (suc (last_index m)) t (suc (values m))
  unfolding value_appended
  appended_is = cc (add-one (last_index m), add-one (values m))

  m₁_long : length m₁ ≡ memory_words
  m₁_long = length_value_put m (values m) v ∙ d.long

  m₁_last : last_index m ≤ last_index m₁
  m₁_last = omega (arith, put_last m (values m) v)

  m₁_values : number_at m₁ (last_index m) ≡ values m
  m₁_values = put_numbers m (values m) v (last_index m) (omega arith)

  brings : Bytes v → content_between m₁ (number_at m₁ (last_index m)) (suc (values m)) ≡ some v
  brings bs =
      let p : suc (values m) - 1 ≡ values m = omega arith in
      content_some m₁ (number_at m₁ (last_index m)) (suc (values m)) (omega (arith, m₁_values))
      ∙ ap some (ap (value_at m₁) p ∙ value_put_same m (values m) v d.long (fits_value m t v d.long fits) (fits_short m t v d.long fits) bs)

  front : take (last_index m) (log_of m₁) ≡ log_of m
  front =
      ap (take (last_index m)) (put_log m v d (fits_short m t v d.long fits)) ∙ take_all (last_index m) (log_of m) (omega (arith, length_log m))

  pub value_appended_log : Bytes v → log_of (value_appended m t v) ≡ log_of m ++ entry t (some v) ∷ []
  value_appended_log bs =
      ap log_of appended_is
      ∙ (pushed_log m₁ (last_index m) t (suc (values m)) m₁_long m₁_last (omega (arith, fits_entry m t v d.long fits)) (omega (arith, fits_value m t v d.long fits))
      ∙ cc (front, brings bs))

  pub value_appended_tidy_entries : TidyEntries (value_appended m t v)
  value_appended_tidy_entries =
      subst (λ (x : List ℕ). TidyEntries x) (sym appended_is)
      (pushed_tidy m₁ (last_index m) t (suc (values m)) m₁_long m₁_last (omega (arith, fits_entry m t v d.long fits)) (omega (arith, fits_value m t v d.long fits))
      (record { least = omega (arith, m₁_values); most = omega (arith, m₁_values) }) (put_tidy m v d (fits_short m t v d.long fits)))

pub value_appended_tidy : (m : List ℕ) (t : ℕ) (v : List ℕ) → Tidy m → value_fits m (length v) ≡ true → Tidy (value_appended m t v)
value_appended_tidy m t v d fits =
    let long = d.entries.long in
    record {
      entries = value_appended_tidy_entries m t v d.entries fits;
      commit = omega (arith, appended_header m t v long fits 65 (omega arith) (omega arith), appended_last m t v long fits, d.commit);
      applied = omega (arith, appended_header m t v long fits 66 (omega arith) (omega arith), d.applied);
    }

-- AN EMPTY ENTRY is pushed behind the first k, when as many values stand up to those
module _ (m : List ℕ) (k t : ℕ) (d : TidyEntries m) (within : k ≤ last_index m) (room : suc k ≤ 8193) (same : number_at m k ≡ values m) where
  few : values m ≤ 4096
  few = number_most m (last_index m)

  pub empty_pushed_log : log_of (entry_pushed m (suc k) t (values m)) ≡ take k (log_of m) ++ entry t none ∷ []
  empty_pushed_log =
      pushed_log m k t (values m) d.long within room few ∙ ap (λ o. take k (log_of m) ++ entry t o ∷ []) (content_none m (number_at m k) (values m) (sym same))

  pub empty_pushed_tidy : TidyEntries (entry_pushed m (suc k) t (values m))
  empty_pushed_tidy = pushed_tidy m k t (values m) d.long within room few (record { least = omega arith; most = omega arith }) d

-- WHERE A LEADER'S EMPTY ENTRY GOES is the same in memory and in the log
renew_none : (l : List Entry) → length l ≡ 0 → renew_place l ≡ 0
renew_none [] e = refl
renew_none (x ∷ l) e = absurd (omega arith)

renew_some : (l : List Entry) (n : ℕ) → length l ≡ suc n → renew_place l ≡ cond (is_none (get_or l n no_entry).content) n (suc n)
renew_some [] n e = absurd (omega arith)
renew_some (x ∷ l) n e = let q : length l ≡ n = omega arith in rw q

is_none_between : (m : List ℕ) (a b : ℕ) → is_none (content_between m a b) ≡ eqb b a
is_none_between m a b = elim (eqb b a) as (λ (x : Bool). is_none (cond x none (some (value_at m (b - 1)))) ≡ x) [ true ↦ refl | false ↦ refl ]

last_empty : (m : List ℕ) (n : ℕ) → last_index m ≡ suc n → last_is_empty m ≡ eqb (number_at m (suc n)) (number_at m n)
last_empty m n e =
    let p : last_index m - 1 ≡ n = omega arith in
    let q : leb 1 (last_index m) ≡ true = le-leb 1 (last_index m) (omega arith) in
    ap (λ x. x && eqb (values m) (number_at m (last_index m - 1))) q ∙ cc (p, e)

pub renew_place_log : (m : List ℕ) → suc (renew_place (log_of m)) ≡ empty_place m
renew_place_log m = go (last_index m) refl
  where
    go : (n : ℕ) → last_index m ≡ n → suc (renew_place (log_of m)) ≡ empty_place m
    go zero e =
        let f : last_is_empty m ≡ false = and_left (leb 1 (last_index m)) (eqb (values m) (number_at m (last_index m - 1))) (lt-leb 1 (last_index m) (omega arith)) in
        omega (arith, renew_none (log_of m) (length_log m ∙ e), cond-false (last_is_empty m) (last_index m) (last_index m + 1) f)
    go (suc n) e =
        let c : is_none (get_or (log_of m) n no_entry).content ≡ last_is_empty m =
        ap (λ (x : Entry). is_none x.content) (log_at m n no_entry (omega arith)) ∙ (is_none_between m (number_at m n) (number_at m (suc n)) ∙ sym (last_empty m n e)) in
        let p : renew_place (log_of m) ≡ cond (last_is_empty m) n (suc n) = renew_some (log_of m) n (length_log m ∙ e) ∙ ap (λ x. cond x n (suc n)) c in
        elim (cases_Bool (last_is_empty m)) [
          | inl y ↦ omega (arith, p, cond-true (last_is_empty m) n (suc n) y, cond-true (last_is_empty m) (last_index m) (last_index m + 1) y)
          | inr f ↦ omega (arith, p, cond-false (last_is_empty m) n (suc n) f, cond-false (last_is_empty m) (last_index m) (last_index m + 1) f)
        ]

-- A LEADER'S EMPTY ENTRY: one that is last is renewed, or else there is one more
module _ (m : List ℕ) (t : ℕ) (d : TidyEntries m) (fits : empty_fits m ≡ true) where
  abbrev k : ℕ
  k = renew_place (log_of m)

  place_within : k ≤ last_index m
  place_within =
      elim (cases_Bool (last_is_empty m)) [
        | inl y ↦ omega (arith, renew_place_log m, cond-true (last_is_empty m) (last_index m) (last_index m + 1) y)
        | inr f ↦ omega (arith, renew_place_log m, cond-false (last_is_empty m) (last_index m) (last_index m + 1) f)
      ]

  place_number : number_at m k ≡ values m
  place_number =
      elim (cases_Bool (last_is_empty m)) [
        | inl y ↦
            let p : k ≡ last_index m - 1 = omega (arith, renew_place_log m, cond-true (last_is_empty m) (last_index m) (last_index m + 1) y) in
            ap (number_at m) p ∙ sym (eqb-true (values m) (number_at m (last_index m - 1)) (and_parts (leb 1 (last_index m)) (eqb (values m) (number_at m (last_index m - 1))) y).1)
        | inr f ↦
            let p : k ≡ last_index m = omega (arith, renew_place_log m, cond-false (last_is_empty m) (last_index m) (last_index m + 1) f) in
            ap (number_at m) p
      ]

  empty_is : empty_appended m t ≡ entry_pushed m (suc k) t (values m)
  unfolding empty_appended
  empty_is = ap (λ i. entry_pushed m i t (values m)) (sym (renew_place_log m))

  place_room : suc k ≤ 8193
  place_room = omega (arith, renew_place_log m, empty_room m t d.long fits)

  pub empty_appended_log : log_of (empty_appended m t) ≡ renewed t (log_of m)
  unfolding renewed
  empty_appended_log = ap log_of empty_is ∙ empty_pushed_log m k t d place_within place_room place_number

  pub empty_appended_tidy_entries : TidyEntries (empty_appended m t)
  empty_appended_tidy_entries = subst (λ (x : List ℕ). TidyEntries x) (sym empty_is) (empty_pushed_tidy m k t d place_within place_room place_number)

pub empty_appended_tidy : (m : List ℕ) (t : ℕ) → Tidy m → empty_fits m ≡ true → Tidy (empty_appended m t)
empty_appended_tidy m t d fits =
    let long = d.entries.long in
    record {
      entries = empty_appended_tidy_entries m t d.entries fits;
      commit = omega (arith, empty_header m t long fits 65 (omega arith) (omega arith), empty_last m t long fits, place_within m t d.entries fits, renew_place_log m, d.commit, room m);
      applied = omega (arith, empty_header m t long fits 66 (omega arith) (omega arith), d.applied);
    }
  where
    room : (m : List ℕ) → last_index m ≤ empty_place m
    room m =
        elim (cases_Bool (last_is_empty m)) [
          | inl y ↦ omega (arith, cond-true (last_is_empty m) (last_index m) (last_index m + 1) y)
          | inr f ↦ omega (arith, cond-false (last_is_empty m) (last_index m) (last_index m + 1) f)
        ]
