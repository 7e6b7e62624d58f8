-- Entries and logs, whatever the entries hold. Assumes nothing: these are definitions.
use Rattle.std.specs.Prelude.{◌≡◌, ℕ, zero, suc, ◌<◌, ◌≤◌, Bool, true, false, ◌&&◌, ◌⊎◌, List, [], ◌∷◌, ◌++◌, length, take, ◌==◌, nat_lt, slice_index_or}
use Rattle.std.proofs.Math.Option.{Option, none, some}
use Rattle.protocol.specs.Lists.{pick}

-- content is none in the empty entry that a leader begins its term with
pub record Entry (A : Type 0) : Type 0 where
  pub term : ℕ
  pub content : Option A

abbrev pub entry : {A : Type 0} → ℕ → Option A → Entry A
entry t o = record { term = t; content = o }

abbrev pub Log : Type 0 → Type 0
Log A = List (Entry A)

-- places count from 0; beyond the end stands an empty entry of term 0
abbrev pub entry_at : {A : Type 0} → Log A → ℕ → Entry A
entry_at l i = slice_index_or l i (entry 0 none)

abbrev pub term_at : {A : Type 0} → Log A → ℕ → ℕ
term_at l i = (entry_at l i).term

abbrev pub content_at : {A : Type 0} → Log A → ℕ → Option A
content_at l i = (entry_at l i).content

-- the term of the entry that a log of this length ends with, 0 of no entry
abbrev pub term_before : {A : Type 0} → Log A → ℕ → ℕ
term_before l zero = 0
term_before l (suc i) = term_at l i

unfoldable pub last_term : {A : Type 0} → Log A → ℕ
last_term l = term_before l (length l)

abbrev pub is_none : {A : Type 0} → Option A → Bool
is_none none = true
is_none (some a) = false

-- where a leader that takes over with the log l puts its empty entry: over one that stands last, or else behind all
unfoldable pub renew_index : {A : Type 0} → Log A → ℕ
renew_index [] = 0
renew_index (e ∷ es) = pick (is_none (content_at (e ∷ es) (length es))) (length es) (suc (length es))

unfoldable pub renew : {A : Type 0} → ℕ → Log A → Log A
renew t l = take (renew_index l) l ++ entry t none ∷ []

-- the log c is at least as far as l: by the last term, then by length
unfoldable pub UpToDate : {A : Type 0} → Log A → Log A → Type 0
UpToDate c l = (last_term l < last_term c) ⊎ ((last_term l ≡ last_term c) × (length l ≤ length c))

-- l has the first m entries of p, and behind them the entry at m, which may have been renewed since
pub record Covers {A : Type 0} (m : ℕ) (p l : Log A) : Type 0 where
  pub long : m < length l
  pub front : (i : ℕ) → i < m → entry_at l i ≡ entry_at p i
  pub same_content : content_at l m ≡ content_at p m
  pub term_up : term_at p m ≤ term_at l m

-- l has all of es from place p on, by their terms
unfoldable pub has_entries : {A : Type 0} → Log A → ℕ → Log A → Bool
has_entries l p [] = true
has_entries l p (e ∷ es) = (nat_lt p (length l) && term_at l p == e.term) && has_entries l (suc p) es

-- the log l after es came for place p: cut only where an entry differs or is missing
unfoldable pub merge : {A : Type 0} → Log A → ℕ → Log A → Log A
merge l p es = pick (has_entries l p es) l (take p l ++ es)

abbrev pub with_content : {A : Type 0} → Option A → List A → List A
with_content none xs = xs
with_content (some a) xs = a ∷ xs

-- what the entries hold, in turn, without the empty ones
unfoldable pub decisions : {A : Type 0} → Log A → List A
decisions [] = []
decisions (e ∷ es) = with_content e.content (decisions es)
