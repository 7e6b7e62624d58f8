-- The log with one entry more, or with its last entry renewed.
use Rattle.std.proofs.Common.{◌≡◌, ℕ, zero, suc, ◌+◌, ◌-◌, ◌*◌, ◌<◌, ◌≤◌, true, cond, ◌&&◌, eqb, ltb, leb, ◌≢◌, List, length, get_or, set, sym, ap, ◌∙◌, inl, inr, arith}
use Rattle.std.proofs.lemmas.List.{length-set, get_or-set_same, get_or-set_other}
use Rattle.std.proofs.lemmas.Bool.{ltb-true, leb-true, eqb-true, le-leb, eq-eqb, and_parts, and_from, cond-true, cond-false, cond_both, cases_Bool}
use Rattle.raft_log.specs.Layout.{memory_words, at_most, entry_row}
use Rattle.raft_log.specs.Values.{value_at, value_put}
use Rattle.raft_log.specs.Entries.{last_index, applied_number, in_log, term_at, number_at, values, last_is_empty, entry_put, entry_pushed, value_fits, value_appended, empty_place, empty_fits, empty_appended}
use Rattle.raft_log.proofs.ValueLaws.{at_most_same, value_alike, length_value_put, value_put_before, value_put_other, value_put_same}
use Rattle.raft_log.specs.Bytes.{Bytes}
use Rattle.raft_log.proofs.LogLaws.{last_most, number_most, number_none, term_none, same_applied}

in_log_true : (m : List ℕ) (i : ℕ) → 1 ≤ i → i ≤ last_index m → in_log m i ≡ true
in_log_true m i a b = and_from (leb 1 i) (leb i (last_index m)) (le-leb 1 i a) (le-leb i (last_index m) b)

-- an entry of the log is read from its row
pub term_in : (m : List ℕ) (i : ℕ) → 1 ≤ i → i ≤ last_index m → term_at m i ≡ get_or m (entry_row i) 0
unfolding term_at
term_in m i a b = cond-true (in_log m i) (get_or m (entry_row i) 0) 0 (in_log_true m i a b)

pub number_in : (m : List ℕ) (i : ℕ) → 1 ≤ i → i ≤ last_index m → number_at m i ≡ at_most (get_or m (entry_row i + 1) 0) 4096
unfolding number_at
number_in m i a b = cond-true (in_log m i) (at_most (get_or m (entry_row i + 1) 0) 4096) 0 (in_log_true m i a b)

-- AN ENTRY IS PUSHED at i, behind the last or in its place
module _ (m : List ℕ) (i t n : ℕ) (long : length m ≡ memory_words) (some : 1 ≤ i) (room : i ≤ 8193) where
  abbrev pushed : List ℕ
  pushed = entry_pushed m i t n

  pub length_pushed : length pushed ≡ length m
  length_pushed = simp length-set

  pub pushed_other : (j : ℕ) → j ≢ 64 → j ≢ entry_row i → j ≢ entry_row i + 1 → get_or pushed j 0 ≡ get_or m j 0
  pushed_other j a b c =
      get_or-set_other (entry_put m i t n) 64 j i 0 a
      ∙ (get_or-set_other (set m (entry_row i) t) (entry_row i + 1) j n 0 c ∙ get_or-set_other m (entry_row i) j t 0 b)

  pub pushed_last : last_index pushed ≡ i
  unfolding last_index
  pushed_last = ap (λ x. at_most x 8193) (get_or-set_same (entry_put m i t n) 64 i 0 (simp length-set (omega arith))) ∙ at_most_same i 8193 room

  pub pushed_term : term_at pushed i ≡ t
  pushed_term =
      term_in pushed i some (omega (arith, pushed_last))
      ∙ (get_or-set_other (entry_put m i t n) 64 (entry_row i) i 0 (omega arith)
      ∙ (get_or-set_other (set m (entry_row i) t) (entry_row i + 1) (entry_row i) n 0 (omega arith) ∙ get_or-set_same m (entry_row i) t 0 (omega arith)))

  pub pushed_number : n ≤ 4096 → number_at pushed i ≡ n
  pushed_number b =
      number_in pushed i some (omega (arith, pushed_last))
      ∙ (ap (λ x. at_most x 4096)
      (get_or-set_other (entry_put m i t n) 64 (entry_row i + 1) i 0 (omega arith)
      ∙ get_or-set_same (set m (entry_row i) t) (entry_row i + 1) n 0 (simp length-set (omega arith)))
      ∙ at_most_same n 4096 b)

  pub pushed_values : n ≤ 4096 → values pushed ≡ n
  pushed_values b = ap (number_at pushed) pushed_last ∙ pushed_number b

  pub pushed_terms : (j : ℕ) → j < i → j ≤ last_index m → term_at pushed j ≡ term_at m j
  pushed_terms zero l b = term_none pushed ∙ sym (term_none m)
  pushed_terms (suc j) l b =
      term_in pushed (suc j) (omega arith) (omega (arith, pushed_last))
      ∙ (pushed_other (entry_row (suc j)) (omega arith) (omega arith) (omega arith) ∙ sym (term_in m (suc j) (omega arith) b))

  pub pushed_numbers : (j : ℕ) → j < i → j ≤ last_index m → number_at pushed j ≡ number_at m j
  pushed_numbers zero l b = number_none pushed ∙ sym (number_none m)
  pushed_numbers (suc j) l b =
      number_in pushed (suc j) (omega arith) (omega (arith, pushed_last))
      ∙ (ap (λ x. at_most x 4096) (pushed_other (entry_row (suc j) + 1) (omega arith) (omega arith) (omega arith)) ∙ sym (number_in m (suc j) (omega arith) b))

  pub pushed_held : (k : ℕ) → value_at pushed k ≡ value_at m k
  pushed_held k = value_alike m pushed k (λ j a b. pushed_other j (omega arith) (omega arith) (omega arith))

  pub pushed_applied : applied_number pushed ≡ applied_number m
  pushed_applied = same_applied m pushed (pushed_other 66 (omega arith) (omega arith) (omega arith))

-- a value that is put into a slot changes no entry
module _ (m : List ℕ) (k : ℕ) (v : List ℕ) where
  pub put_last : last_index (value_put m k v) ≡ last_index m
  unfolding last_index
  put_last = ap (λ x. at_most x 8193) (value_put_before m k v 64 (omega arith))

  pub put_terms : (i : ℕ) → i ≤ last_index m → term_at (value_put m k v) i ≡ term_at m i
  put_terms zero b = term_none (value_put m k v) ∙ sym (term_none m)
  put_terms (suc i) b =
      term_in (value_put m k v) (suc i) (omega arith) (omega (arith, put_last))
      ∙ (value_put_before m k v (entry_row (suc i)) (omega (arith, last_most m)) ∙ sym (term_in m (suc i) (omega arith) b))

  pub put_numbers : (i : ℕ) → i ≤ last_index m → number_at (value_put m k v) i ≡ number_at m i
  put_numbers zero b = number_none (value_put m k v) ∙ sym (number_none m)
  put_numbers (suc i) b =
      number_in (value_put m k v) (suc i) (omega arith) (omega (arith, put_last))
      ∙ (ap (λ x. at_most x 4096) (value_put_before m k v (entry_row (suc i) + 1) (omega (arith, last_most m))) ∙ sym (number_in m (suc i) (omega arith) b))

-- A VALUE IS APPENDED
module _ (m : List ℕ) (t : ℕ) (v : List ℕ) (long : length m ≡ memory_words) (fits : value_fits m (length v) ≡ true) where
  pub fits_short : length v ≤ 256
  fits_short = leb-true (length v) 256 (and_parts (leb (length v) 256) (ltb (last_index m) 8193 && ltb (values m) 4096) fits).0

  fits_rest : (ltb (last_index m) 8193 ≡ true) × (ltb (values m) 4096 ≡ true)
  fits_rest = and_parts (ltb (last_index m) 8193) (ltb (values m) 4096) (and_parts (leb (length v) 256) (ltb (last_index m) 8193 && ltb (values m) 4096) fits).1

  pub fits_entry : last_index m < 8193
  fits_entry = ltb-true (last_index m) 8193 fits_rest.0

  pub fits_value : values m < 4096
  fits_value = ltb-true (values m) 4096 fits_rest.1

  abbrev m₁ : List ℕ
  m₁ = value_put m (values m) v

  put_long : length m₁ ≡ memory_words
  put_long = length_value_put m (values m) v ∙ long

  one : 1 ≤ last_index m + 1
  one = omega arith

  within : last_index m + 1 ≤ 8193
  within = omega (arith, fits_entry)

  pub length_appended : length (value_appended m t v) ≡ length m
  unfolding value_appended
  length_appended = length_pushed m₁ (last_index m + 1) t (values m + 1) put_long one within ∙ length_value_put m (values m) v

  pub appended_header : (i : ℕ) → i < 72 → i ≢ 64 → get_or (value_appended m t v) i 0 ≡ get_or m i 0
  unfolding value_appended
  appended_header i l ne =
      pushed_other m₁ (last_index m + 1) t (values m + 1) put_long one within i ne (omega arith) (omega arith)
      ∙ value_put_before m (values m) v i (omega arith)

  pub appended_last : last_index (value_appended m t v) ≡ last_index m + 1
  unfolding value_appended
  appended_last = pushed_last m₁ (last_index m + 1) t (values m + 1) put_long one within

  pub appended_term : term_at (value_appended m t v) (last_index m + 1) ≡ t
  unfolding value_appended
  appended_term = pushed_term m₁ (last_index m + 1) t (values m + 1) put_long one within

  pub appended_terms : (i : ℕ) → i ≤ last_index m → term_at (value_appended m t v) i ≡ term_at m i
  unfolding value_appended
  appended_terms i b =
      pushed_terms m₁ (last_index m + 1) t (values m + 1) put_long one within i (omega arith) (omega (arith, put_last m (values m) v))
      ∙ put_terms m (values m) v i b

  pub appended_numbers : (i : ℕ) → i ≤ last_index m → number_at (value_appended m t v) i ≡ number_at m i
  unfolding value_appended
  appended_numbers i b =
      pushed_numbers m₁ (last_index m + 1) t (values m + 1) put_long one within i (omega arith) (omega (arith, put_last m (values m) v))
      ∙ put_numbers m (values m) v i b

  pub appended_values : values (value_appended m t v) ≡ values m + 1
  unfolding value_appended
  appended_values = pushed_values m₁ (last_index m + 1) t (values m + 1) put_long one within (omega (arith, fits_value))

  pub appended_held : (k : ℕ) → k < values m → value_at (value_appended m t v) k ≡ value_at m k
  unfolding value_appended
  appended_held k l =
      pushed_held m₁ (last_index m + 1) t (values m + 1) put_long one within k ∙ value_put_other m (values m) v k fits_short (omega arith)

  pub appended_value : Bytes v → value_at (value_appended m t v) (values m) ≡ v
  unfolding value_appended
  appended_value bs =
      pushed_held m₁ (last_index m + 1) t (values m + 1) put_long one within (values m) ∙ value_put_same m (values m) v long fits_value fits_short bs

  pub appended_applied : applied_number (value_appended m t v) ≡ applied_number m
  appended_applied = same_applied m (value_appended m t v) (appended_header 66 (omega arith) (omega arith))

-- A LEADER'S EMPTY ENTRY is put behind the last, or renews it
module _ (m : List ℕ) (t : ℕ) (long : length m ≡ memory_words) (fits : empty_fits m ≡ true) where
  pub empty_room : empty_place m ≤ 8193
  empty_room = leb-true (empty_place m) 8193 fits

  pub empty_some : 1 ≤ empty_place m
  empty_some =
      cond_both (last_is_empty m) (last_index m) (last_index m + 1) (λ x. 1 ≤ x)
      (λ e. leb-true 1 (last_index m) (and_parts (leb 1 (last_index m)) (eqb (values m) (number_at m (last_index m - 1))) e).0) (λ e. omega arith)

  pub length_empty : length (empty_appended m t) ≡ length m
  unfolding empty_appended
  length_empty = length_pushed m (empty_place m) t (values m) long empty_some empty_room

  pub empty_header : (i : ℕ) → i < 72 → i ≢ 64 → get_or (empty_appended m t) i 0 ≡ get_or m i 0
  unfolding empty_appended
  empty_header i l ne = pushed_other m (empty_place m) t (values m) long empty_some empty_room i ne (omega (arith, empty_some)) (omega (arith, empty_some))

  pub empty_last : last_index (empty_appended m t) ≡ empty_place m
  unfolding empty_appended
  empty_last = pushed_last m (empty_place m) t (values m) long empty_some empty_room

  pub empty_term : term_at (empty_appended m t) (empty_place m) ≡ t
  unfolding empty_appended
  empty_term = pushed_term m (empty_place m) t (values m) long empty_some empty_room

  pub empty_values : values (empty_appended m t) ≡ values m
  unfolding empty_appended
  empty_values = pushed_values m (empty_place m) t (values m) long empty_some empty_room (number_most m (last_index m))

  pub empty_held : (k : ℕ) → value_at (empty_appended m t) k ≡ value_at m k
  unfolding empty_appended
  empty_held k = pushed_held m (empty_place m) t (values m) long empty_some empty_room k

  pub empty_applied : applied_number (empty_appended m t) ≡ applied_number m
  empty_applied = same_applied m (empty_appended m t) (empty_header 66 (omega arith) (omega arith))

  pub empty_numbers : (j : ℕ) → j < empty_place m → j ≤ last_index m → number_at (empty_appended m t) j ≡ number_at m j
  unfolding empty_appended
  empty_numbers j l b = pushed_numbers m (empty_place m) t (values m) long empty_some empty_room j l b

  pub empty_terms : (j : ℕ) → j < empty_place m → j ≤ last_index m → term_at (empty_appended m t) j ≡ term_at m j
  unfolding empty_appended
  empty_terms j l b = pushed_terms m (empty_place m) t (values m) long empty_some empty_room j l b

-- ROOM: no two empty entries stand side by side, so there are few
abbrev pub Roomy : List ℕ → Type 0
Roomy m = last_index m ≤ 2 * values m + cond (last_is_empty m) 1 0

pub roomy_empty : (m : List ℕ) → Roomy m → empty_place m ≤ 2 * values m + 1
roomy_empty m r =
    elim (cases_Bool (last_is_empty m)) [
      | inl e ↦ rw (cond-true (last_is_empty m) (last_index m) (last_index m + 1) e) (omega (arith, rw e at r))
      | inr e ↦ rw (cond-false (last_is_empty m) (last_index m) (last_index m + 1) e) (omega (arith, rw e at r))
    ]

pub roomy_fits : (m : List ℕ) → Roomy m → empty_fits m ≡ true
roomy_fits m r = le-leb (empty_place m) 8193 (omega (arith, roomy_empty m r, number_most m (last_index m)))

pub roomy_last : (m : List ℕ) → Roomy m → last_index m ≤ 2 * values m + 1
roomy_last m r =
    elim (cases_Bool (last_is_empty m)) [ inl e ↦ omega (arith, rw e at r) | inr e ↦ omega (arith, rw e at r) ]

pub roomy_appended : (m : List ℕ) (t : ℕ) (v : List ℕ) → length m ≡ memory_words → value_fits m (length v) ≡ true → Roomy m → Roomy (value_appended m t v)
roomy_appended m t v long fits r = omega (arith, appended_last m t v long fits, appended_values m t v long fits, roomy_last m r)

module _ (m : List ℕ) (t : ℕ) (long : length m ≡ memory_words) (fits : empty_fits m ≡ true) where
  abbrev after : List ℕ
  after = empty_appended m t

  -- as many values stand up to the place before
  before_empty : number_at after (empty_place m - 1) ≡ values m
  before_empty =
      elim (cases_Bool (last_is_empty m)) [
        | inl e ↦
            let p : empty_place m ≡ last_index m = cond-true (last_is_empty m) (last_index m) (last_index m + 1) e in
            let b = and_parts (leb 1 (last_index m)) (eqb (values m) (number_at m (last_index m - 1))) e in
            empty_numbers m t long fits (empty_place m - 1) (omega (arith, empty_some m t long fits)) (omega arith)
            ∙ (ap (λ i. number_at m (i - 1)) p ∙ sym (eqb-true (values m) (number_at m (last_index m - 1)) b.1))
        | inr e ↦
            let p : empty_place m ≡ last_index m + 1 = cond-false (last_is_empty m) (last_index m) (last_index m + 1) e in
            let q : empty_place m - 1 ≡ last_index m = omega arith in
            empty_numbers m t long fits (empty_place m - 1) (omega arith) (omega arith) ∙ ap (number_at m) q
      ]

  pub empty_is_last : last_is_empty after ≡ true
  empty_is_last =
      and_from (leb 1 (last_index after)) (eqb (values after) (number_at after (last_index after - 1)))
      (le-leb 1 (last_index after) (omega (arith, empty_last m t long fits, empty_some m t long fits)))
      (eq-eqb (values after) (number_at after (last_index after - 1))
      (empty_values m t long fits ∙ sym (ap (λ i. number_at after (i - 1)) (empty_last m t long fits) ∙ before_empty)))

  pub roomy_emptied : Roomy m → Roomy after
  roomy_emptied r =
      let c : ◌≡◌ {A = ℕ} (cond (last_is_empty after) 1 0) 1 = cond-true (last_is_empty after) 1 0 empty_is_last in
      omega (arith, empty_last m t long fits, empty_values m t long fits, roomy_empty m r)
