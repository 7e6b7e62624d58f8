-- What is read off a row of entries is the same in the log of the theory.
use Rattle.std.proofs.Common.{◌≡◌, ℕ, zero, suc, pred, ◌-◌, min, Bool, true, false, cond, ◌&&◌, ◌||◌, eqb, ltb, leb, List, [], ◌∷◌, ◌++◌, length, get_or, take, drop, sym, refl, ap, ◌∙◌, inl, inr}
use mathlib.Core.Option.{Option, none, some}
use Rattle.std.proofs.lemmas.List.{length-map, map-append, take-map, drop-map}
use Rattle.std.proofs.lemmas.Bool.{eq-eqb, ne_eqb, cases_eq}
use Rattle.raft_log.specs.Layout.{at_most}
use Rattle.raft_log.specs.Block.{Entry as Row}
use Rattle.raft_log.specs.View.{no_entry, term_before as row_term, is_none as row_none, renew_place, renewed, with_content as row_with, decisions as row_decisions, entry as row}
use Rattle.raft_log.specs.Conflict.{has_term, last_term as row_last_term, is_up_to_date as row_up_to_date, conflict_by_term, has_entries as row_has, merge as row_merge}
use Rattle.raft_log.specs.Accept.{hint as row_hint}
use Rattle.raft_log.proofs.MergeLaws.{at_most_min}
use Rattle.protocol.specs.Lists.{pick}
use Rattle.protocol.specs.Log.{Entry, entry, Log, entry_at, term_at, content_at, term_before, last_term, is_none, renew_index, renew, has_entries, merge, with_content, decisions}
use Rattle.machine.specs.Hints.{index_by_term}
use Rattle.machine.specs.Step.{is_up_to_date, prev_matches, hint}
use Rattle.join_several.specs.Stands.{conf, lift_entry, lift_log}
use Rattle.raft_log.specs.Entries.{last_index, term_at as term_at_index}
use Rattle.raft_log.specs.View.{log_of}
use Rattle.raft_log.proofs.ViewLaws.{length_log, log_term}
use Rattle.std.proofs.Math.Numerals.{sub-one}

-- a test of the code is a choice of the theory
pub cond_pick : {A : Type 0} (b : Bool) (x y : A) → cond b x y ≡ pick b x y
cond_pick true x y = refl
cond_pick false x y = refl

pub pick_lift : {A B : Type 0} (h : A → B) (b : Bool) (x y : A) → h (cond b x y) ≡ pick b (h x) (h y)
pick_lift h true x y = refl
pick_lift h false x y = refl

pub eqb_turn : (a b : ℕ) → eqb a b ≡ eqb b a
eqb_turn a b = elim (cases_eq a b) [ inl e ↦ eq-eqb a b e ∙ sym (eq-eqb b a (sym e)) | inr ne ↦ ne_eqb a b ne ∙ sym (ne_eqb b a (λ e. ne (sym e))) ]

-- LISTS
pub lift_length : (l : List Row) → length (lift_log l) ≡ length l
unfolding lift_log
lift_length l = length-map l lift_entry

pub lift_take : (k : ℕ) (l : List Row) → lift_log (take k l) ≡ take k (lift_log l)
unfolding lift_log
lift_take k l = sym (take-map lift_entry k l)

pub lift_drop : (k : ℕ) (l : List Row) → lift_log (drop k l) ≡ drop k (lift_log l)
unfolding lift_log
lift_drop k l = sym (drop-map lift_entry k l)

pub lift_append : (l r : List Row) → lift_log (l ++ r) ≡ lift_log l ++ lift_log r
unfolding lift_log
lift_append l r = map-append lift_entry l r

pub lift_one : (e : Row) → lift_log (e ∷ []) ≡ lift_entry e ∷ []
unfolding lift_log
lift_one e = refl

pub lift_push : (l : List Row) (t : ℕ) (o : Option (List ℕ)) → lift_log (l ++ row t o ∷ []) ≡ lift_log l ++ entry t o ∷ []
lift_push l t o = lift_append l (row t o ∷ []) ∙ ap (λ (r : Log (List ℕ)). lift_log l ++ r) (lift_one (row t o))

-- ENTRIES
pub lift_at : (l : List Row) (i : ℕ) → entry_at (lift_log l) i ≡ lift_entry (get_or l i no_entry)
unfolding lift_log
lift_at [] i = refl
lift_at (e ∷ es) zero = refl
lift_at (e ∷ es) (suc i) = lift_at es i

pub lift_term_at : (l : List Row) (i : ℕ) → term_at (lift_log l) i ≡ (get_or l i no_entry).term
lift_term_at l i = ap (λ (e : Entry (List ℕ)). e.term) (lift_at l i)

pub lift_term : (l : List Row) (i : ℕ) → term_before (lift_log l) i ≡ row_term l i
lift_term l zero = refl
lift_term l (suc i) = lift_term_at l i

pub lift_last_term : (l : List Row) → last_term (lift_log l) ≡ row_last_term l
unfolding last_term
lift_last_term l = ap (term_before (lift_log l)) (lift_length l) ∙ lift_term l (length l)

-- WHAT IS COMPARED
pub lift_has_term : (l : List Row) (p q : ℕ) → has_term l p q ≡ prev_matches (lift_log l) p q
unfolding has_term
lift_has_term l p q = let len = lift_length l in let tm = lift_term l p in sym (λ i. leb p (len i) && eqb (tm i) q)

pub lift_up_to_date : (l : List Row) (i q : ℕ) → row_up_to_date l i q ≡ is_up_to_date i q (lift_log l)
unfolding row_up_to_date is_up_to_date
lift_up_to_date l i q =
    let len = lift_length l in
    let tm = lift_last_term l in
    let e : (ltb (row_last_term l) q || (eqb q (row_last_term l) && leb (length l) i)) ≡ (ltb (row_last_term l) q || (eqb (row_last_term l) q && leb (length l) i)) =
    ap (λ (b : Bool). ltb (row_last_term l) q || (b && leb (length l) i)) (eqb_turn q (row_last_term l)) in
    e ∙ sym (λ j. ltb (tm j) q || (eqb (tm j) q && leb (len j) i))

pub lift_has_entries : (l : List Row) (p : ℕ) (es : List Row) → row_has l p es ≡ has_entries (lift_log l) p (lift_log es)
unfolding row_has has_entries has_term lift_log
lift_has_entries l p [] = refl
lift_has_entries l p (e ∷ es) =
    let len = lift_length l in
    let tm = lift_term_at l p in
    let r = lift_has_entries l (suc p) es in
    sym (λ i. (ltb p (len i) && eqb (tm i) e.term) && sym r i)

pub lift_merge : (l : List Row) (p : ℕ) (es : List Row) → lift_log (row_merge l p es) ≡ merge (lift_log l) p (lift_log es)
unfolding row_merge merge
lift_merge l p es =
    let cut : lift_log (take p l ++ es) ≡ take p (lift_log l) ++ lift_log es =
    lift_append (take p l) es ∙ ap (λ (x : Log (List ℕ)). x ++ lift_log es) (lift_take p l) in
    let has = lift_has_entries l p es in
    pick_lift lift_log (row_has l p es) l (take p l ++ es) ∙ (λ i. pick (has i) (lift_log l) (cut i))

lift_by_term : (l : List Row) (t i : ℕ) → conflict_by_term l t i ≡ index_by_term (term_before (lift_log l)) t i
unfolding conflict_by_term index_by_term
lift_by_term l t zero = refl
lift_by_term l t (suc i) =
    let tm : row_term l (suc i) ≡ term_before (lift_log l) (suc i) = sym (lift_term l (suc i)) in
    let r = lift_by_term l t i in
    cond_pick (leb (row_term l (suc i)) t) (suc i) (conflict_by_term l t i) ∙ (λ j. pick (leb (tm j) t) (suc i) (r j))

pub lift_hint : (n : ℕ) (l : List Row) (p q : ℕ) → row_hint l p q ≡ hint (conf n) (lift_log l) p q
unfolding row_hint
lift_hint n l p q =
    let e : at_most (p - 1) (length l) ≡ min (pred p) (length (lift_log l)) =
    at_most_min (p - 1) (length l) ∙ (ap (λ (x : ℕ). min x (length l)) (sub-one p) ∙ ap (min (pred p)) (sym (lift_length l))) in
    ap (conflict_by_term l q) e ∙ lift_by_term l q (min (pred p) (length (lift_log l)))

-- WHAT IS DECIDED
with_lift : (o : Option (List ℕ)) (vs ws : List (List ℕ)) → vs ≡ ws → row_with o vs ≡ with_content o ws
with_lift none vs ws e = e
with_lift (some v) vs ws e = ap (λ (xs : List (List ℕ)). v ∷ xs) e

pub lift_decisions : (l : List Row) → row_decisions l ≡ decisions (lift_log l)
unfolding row_decisions decisions lift_log
lift_decisions [] = refl
lift_decisions (e ∷ es) = with_lift e.content (row_decisions es) (decisions (lift_log es)) (lift_decisions es)

-- A NEW LEADER'S LOG
none_lift : (o : Option (List ℕ)) → row_none o ≡ is_none o
none_lift none = refl
none_lift (some v) = refl

pub lift_renew_index : (l : List Row) → renew_place l ≡ renew_index (lift_log l)
unfolding renew_index lift_log
lift_renew_index [] = refl
lift_renew_index (e ∷ es) =
    let len : length es ≡ length (lift_log es) = sym (lift_length es) in
    let last : row_none (get_or (e ∷ es) (length es) no_entry).content ≡ is_none (content_at (lift_log (e ∷ es)) (length (lift_log es))) =
    none_lift (get_or (e ∷ es) (length es) no_entry).content ∙ (ap (λ (x : Entry (List ℕ)). is_none x.content) (sym (lift_at (e ∷ es) (length es))) ∙ ap (λ (k : ℕ). is_none (content_at (lift_log (e ∷ es)) k)) len) in
    cond_pick (row_none (get_or (e ∷ es) (length es) no_entry).content) (length es) (suc (length es)) ∙ (λ i. pick (last i) (len i) (suc (len i)))

pub lift_renewed : (t : ℕ) (l : List Row) → lift_log (renewed t l) ≡ renew t (lift_log l)
unfolding renewed renew
lift_renewed t l =
    lift_push (take (renew_place l) l) t none
    ∙ (ap (λ (x : Log (List ℕ)). x ++ entry t none ∷ []) (lift_take (renew_place l) l)
    ∙ ap (λ (k : ℕ). take k (lift_log l) ++ entry t none ∷ []) (lift_renew_index l))

-- A MEMORY whose log is l
module _ (m : List ℕ) (l : Log (List ℕ)) (same : lift_log (log_of m) ≡ l) where
  pub lift_last : last_index m ≡ length l
  lift_last = sym (length_log m) ∙ (sym (lift_length (log_of m)) ∙ ap length same)

  pub lift_before : (i : ℕ) → term_at_index m i ≡ term_before l i
  lift_before i = sym (log_term m i) ∙ (sym (lift_term (log_of m) i) ∙ ap (λ (x : Log (List ℕ)). term_before x i) same)
