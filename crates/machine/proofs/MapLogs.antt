-- Logs with mapped contents. Assumes nothing.
use Rattle.std.proofs.Common.{◌≡◌, ℕ, zero, suc, Bool, true, false, ◌&&◌, eqb, ltb, List, [], ◌∷◌, ◌++◌, map, length, take, sym, refl, ap, ◌∙◌}
use mathlib.Core.Option.{Option, none, some}
use Rattle.std.proofs.lemmas.List.{length-map, map-append, take-map}
use Rattle.protocol.specs.Lists.{pick}
use Rattle.protocol.specs.Log.{Entry, entry, Log, entry_at, term_at, content_at, term_before, last_term, is_none, renew_index, renew, has_entries, merge, with_content, decisions}
use Rattle.machine.specs.Maps.{map_content, map_entry, map_log}

-- a function of a choice is a choice
pub map_pick : {A B : Type 0} (h : A → B) (b : Bool) (x y : A) → h (pick b x y) ≡ pick b (h x) (h y)
map_pick h true x y = refl
map_pick h false x y = refl

module _ {A B : Type 0} (f : A → B) where
  pub log_length : (l : Log A) → length (map_log f l) ≡ length l
  log_length l = length-map l (map_entry f)

  pub entry_map : (l : Log A) (i : ℕ) → entry_at (map_log f l) i ≡ map_entry f (entry_at l i)
  entry_map [] i = refl
  entry_map (e ∷ es) zero = refl
  entry_map (e ∷ es) (suc i) = entry_map es i

  pub term_map : (l : Log A) (i : ℕ) → term_at (map_log f l) i ≡ term_at l i
  term_map l i = ap (λ (e : Entry B). e.term) (entry_map l i)

  pub term_before_map : (l : Log A) (p : ℕ) → term_before (map_log f l) p ≡ term_before l p
  term_before_map l zero = refl
  term_before_map l (suc i) = term_map l i

  pub last_term_map : (l : Log A) → last_term (map_log f l) ≡ last_term l
  unfolding last_term
  last_term_map l = ap (term_before (map_log f l)) (log_length l) ∙ term_before_map l (length l)

  is_none_map : (o : Option A) → is_none (map_content f o) ≡ is_none o
  is_none_map none = refl
  is_none_map (some a) = refl

  renew_index_map : (l : Log A) → renew_index (map_log f l) ≡ renew_index l
  unfolding renew_index
  renew_index_map [] = refl
  renew_index_map (e ∷ es) =
      let len : length (map_log f es) ≡ length es = log_length es in
      let last : is_none (content_at (map_log f (e ∷ es)) (length (map_log f es))) ≡ is_none (content_at (e ∷ es) (length es)) =
      ap (λ (i : ℕ). is_none (content_at (map_log f (e ∷ es)) i)) len ∙ ap (λ (x : Entry B). is_none x.content) (entry_map (e ∷ es) (length es))
      ∙ is_none_map (content_at (e ∷ es) (length es)) in
      λ i. pick (last i) (len i) (suc (len i))

  pub renew_map : (t : ℕ) (l : Log A) → renew t (map_log f l) ≡ map_log f (renew t l)
  unfolding renew
  renew_map t l =
      ap (λ (k : ℕ). take k (map_log f l) ++ entry t none ∷ []) (renew_index_map l)
      ∙ ap (λ (x : Log B). x ++ entry t none ∷ []) (take-map (map_entry f) (renew_index l) l)
      ∙ sym (map-append (map_entry f) (take (renew_index l) l) (entry t none ∷ []))

  has_entries_map : (l : Log A) (p : ℕ) (es : Log A) → has_entries (map_log f l) p (map_log f es) ≡ has_entries l p es
  unfolding has_entries
  has_entries_map l p [] = refl
  has_entries_map l p (e ∷ es) =
      let len = log_length l in
      let tm = term_map l p in
      let r = has_entries_map l (suc p) es in
      λ i. (ltb p (len i) && eqb (tm i) e.term) && r i

  pub merge_map : (l : Log A) (p : ℕ) (es : Log A) → merge (map_log f l) p (map_log f es) ≡ map_log f (merge l p es)
  unfolding merge
  merge_map l p es =
      let cut : take p (map_log f l) ++ map_log f es ≡ map_log f (take p l ++ es) =
      ap (λ (x : Log B). x ++ map_log f es) (take-map (map_entry f) p l) ∙ sym (map-append (map_entry f) (take p l) es) in
      let has = has_entries_map l p es in
      let both : pick (has_entries (map_log f l) p (map_log f es)) (map_log f l) (take p (map_log f l) ++ map_log f es)
      ≡ pick (has_entries l p es) (map_log f l) (map_log f (take p l ++ es)) = λ i. pick (has i) (map_log f l) (cut i) in
      both ∙ sym (map_pick (map_log f) (has_entries l p es) l (take p l ++ es))

  with_content_map : (o : Option A) (xs : List A) → with_content (map_content f o) (map f xs) ≡ map f (with_content o xs)
  with_content_map none xs = refl
  with_content_map (some a) xs = refl

  pub decisions_map : (l : Log A) → decisions (map_log f l) ≡ map f (decisions l)
  unfolding decisions
  decisions_map [] = refl
  decisions_map (e ∷ es) = ap (with_content (map_content f e.content)) (decisions_map es) ∙ with_content_map e.content (decisions es)
