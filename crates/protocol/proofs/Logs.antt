-- Facts on logs, whatever the entries hold. Assumes nothing.
use Rattle.std.proofs.Common.{◌≡◌, ℕ, zero, suc, ◌<◌, ◌≤◌, true, false, [], ◌∷◌, ◌++◌, length, take, sym, refl, ap, ◌∙◌, subst, inl, inr, arith}
use mathlib.Core.Option.{Option, none, some}
use Rattle.std.proofs.lemmas.List.{length-take-le, get_or-take, get_or_append_left, get_or_at, length-append, ext_get_or}
use Rattle.std.proofs.lemmas.Bool.{cases_lt, both_ways}
use Rattle.protocol.specs.Log.{Entry, entry, Log, entry_at, term_at, content_at, term_before, last_term, is_none, renew_index, renew, Covers}
use Rattle.protocol.proofs.Updates.{pick_cases}

pub term_same : {A : Type 0} (a b : Entry A) → a ≡ b → a.term ≡ b.term
term_same {A} a b e = ap (λ (x : Entry A). x.term) e

pub content_same : {A : Type 0} (a b : Entry A) → a ≡ b → a.content ≡ b.content
content_same {A} a b e = ap (λ (x : Entry A). x.content) e

pub is_none_true : {A : Type 0} (o : Option A) → is_none o ≡ true → o ≡ none
is_none_true none e = refl
is_none_true (some a) e = absurd (both_ways false refl e)

-- one more at the end
pub push_length : {A : Type 0} (l : Log A) (e : Entry A) → length (l ++ e ∷ []) ≡ suc (length l)
push_length l e = length-append l (e ∷ []) ∙ omega arith

pub push_front : {A : Type 0} (l : Log A) (e : Entry A) (i : ℕ) → i < length l → entry_at (l ++ e ∷ []) i ≡ entry_at l i
push_front l e i h = get_or_append_left l (e ∷ []) (entry 0 none) i h

pub push_last : {A : Type 0} (l : Log A) (e : Entry A) (i : ℕ) → length l ≡ i → entry_at (l ++ e ∷ []) i ≡ e
push_last l e i h = get_or_at l e [] (entry 0 none) i h

-- where a new leader's empty entry goes
pub record RenewIndexIs {A : Type 0} (l : Log A) : Type 0 where
  pub low : renew_index l ≤ length l
  pub high : length l ≤ suc (renew_index l)
  pub empty : renew_index l < length l → content_at l (renew_index l) ≡ none

pub renew_index_is : {A : Type 0} (l : Log A) → RenewIndexIs l
unfolding renew_index
renew_index_is [] = record { low = omega arith; high = omega arith; empty = λ h. refl }
renew_index_is {A} (e ∷ es) =
    elim (pick_cases (is_none (content_at (e ∷ es) (length es))) (length es) (suc (length es))) [
      | inl h ↦ record {
        low = omega arith;
        high = omega arith;
        empty = λ _. ap (λ (k : ℕ). content_at (e ∷ es) k) h.1 ∙ is_none_true (content_at (e ∷ es) (length es)) h.0;
      }
      | inr h ↦ record { low = omega arith; high = omega arith; empty = λ k. absurd (let z : suc (length es) < suc (length es) = omega arith in omega arith) }
    ]

pub renew_length : {A : Type 0} (t : ℕ) (l : Log A) → length (renew t l) ≡ suc (renew_index l)
unfolding renew
renew_length t l = push_length (take (renew_index l) l) (entry t none) ∙ ap suc (length-take-le (renew_index l) l (renew_index_is l).low)

pub renew_front : {A : Type 0} (t : ℕ) (l : Log A) (i : ℕ) → i < renew_index l → entry_at (renew t l) i ≡ entry_at l i
unfolding renew
renew_front t l i h =
    let e : length (take (renew_index l) l) ≡ renew_index l = length-take-le (renew_index l) l (renew_index_is l).low in
    push_front (take (renew_index l) l) (entry t none) i (omega arith) ∙ get_or-take (renew_index l) l i (entry 0 none) h

pub renew_last : {A : Type 0} (t : ℕ) (l : Log A) → entry_at (renew t l) (renew_index l) ≡ entry t none
unfolding renew
renew_last t l = push_last (take (renew_index l) l) (entry t none) (renew_index l) (length-take-le (renew_index l) l (renew_index_is l).low)

-- the term of the last entry
pub last_none : {A : Type 0} (l : Log A) → length l ≡ 0 → last_term l ≡ 0
unfolding last_term
last_none l h = ap (term_before l) h

pub last_some : {A : Type 0} (l : Log A) (i : ℕ) → length l ≡ suc i → last_term l ≡ term_at l i
unfolding last_term
last_some l i h = ap (term_before l) h

pub before_same : {A : Type 0} (a b : Log A) (p : ℕ) → ((i : ℕ) → i < p → entry_at a i ≡ entry_at b i) → term_before a p ≡ term_before b p
before_same a b zero s = refl
before_same a b (suc i) s = term_same _ _ (s i (omega arith))

-- first parts
pub take_same : {A : Type 0} (k : ℕ) (a b : Log A) → k ≤ length a → k ≤ length b → ((i : ℕ) → i < k → entry_at a i ≡ entry_at b i) → take k a ≡ take k b
take_same k a b ha hb s =
    let ea : length (take k a) ≡ k = length-take-le k a ha in
    let eb : length (take k b) ≡ k = length-take-le k b hb in
    ext_get_or (entry 0 none) (take k a) (take k b) (ea ∙ sym eb)
    (λ i h. get_or-take k a i (entry 0 none) (omega arith) ∙ s i (omega arith) ∙ sym (get_or-take k b i (entry 0 none) (omega arith)))

-- covers
pub covers_self : {A : Type 0} (m : ℕ) (p l : Log A) → m < length l → ((i : ℕ) → i ≤ m → entry_at l i ≡ entry_at p i) → Covers m p l
covers_self m p l h s =
    record {
      long = h;
      front = λ i k. s i (omega arith);
      same_content = content_same _ _ (s m (omega arith));
      term_up = let e : term_at l m ≡ term_at p m = term_same _ _ (s m (omega arith)) in omega arith;
    }

-- what a log covers, another log that has the same so far covers too
pub covers_on : {A : Type 0} (m : ℕ) (p l k : Log A) → Covers m p l → m < length k → ((i : ℕ) → i ≤ m → entry_at k i ≡ entry_at l i) → Covers m p k
covers_on m p l k c h s =
    let e = s m (omega arith) in
    record {
      long = h;
      front = λ i b. s i (omega arith) ∙ c.front i b;
      same_content = content_same _ _ e ∙ c.same_content;
      term_up = let f : term_at k m ≡ term_at l m = term_same _ _ e in omega (arith, c.term_up);
    }

pub covers_of : {A : Type 0} (m : ℕ) (p q l : Log A) → ((i : ℕ) → i ≤ m → entry_at q i ≡ entry_at p i) → Covers m p l → Covers m q l
covers_of m p q l s c =
    let e = s m (omega arith) in
    record {
      long = c.long;
      front = λ i b. c.front i b ∙ sym (s i (omega arith));
      same_content = c.same_content ∙ sym (content_same _ _ e);
      term_up = let f : term_at q m ≡ term_at p m = term_same _ _ e in omega (arith, c.term_up);
    }

pub covers_content : {A : Type 0} (m : ℕ) (p l : Log A) → Covers m p l → (i : ℕ) → i < suc m → content_at l i ≡ content_at p i
covers_content m p l c i h =
    elim (cases_lt i m) [
      | inl k ↦ content_same _ _ (c.front i k)
      | inr k ↦ let e : i ≡ m = omega arith in subst (λ (x : ℕ). content_at l x ≡ content_at p x) (sym e) c.same_content
    ]
