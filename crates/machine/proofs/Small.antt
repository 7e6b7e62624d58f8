-- Logs stay small. Assumes nothing.
use Rattle.std.proofs.Common.{◌≡◌, ℕ, suc, pred, ◌+◌, ◌*◌, ◌<◌, ◌≤◌, Bool, true, List, [], ◌∷◌, ◌++◌, length, take, drop, sym, refl, ap, ◌∙◌, subst, inl, inr, arith}
use mathlib.Core.Option.{none, some}
use Rattle.std.proofs.lemmas.List.{append-nil, length-append, length-take-le, get_or-take, ext_get_or, take-append-drop, take_all, drop_more, drop_all}
use Rattle.std.proofs.lemmas.Bool.{cases_lt, cases_eq}
use Rattle.protocol.specs.Lists.{pick, upd}
use Rattle.protocol.specs.Log.{entry, Log, entry_at, term_at, content_at, is_none, renew_index, renew, decisions}
use Rattle.protocol.specs.History.{History, extended, after_elect, after_propose}
use Rattle.protocol.specs.Invariant.{Matching, Inv}
use Rattle.protocol.specs.State.{ElectOk}
use Rattle.protocol.proofs.Lists.{begins_length}
use Rattle.protocol.proofs.Updates.{upd_all, upd_other}
use Rattle.protocol.proofs.Logs.{content_same, push_length, push_front, push_last, renew_index_is, renew_length, renew_front}
use Rattle.protocol.proofs.Decisions.{content_cases, none_some, decisions_none, decisions_empty, decisions_some, decisions-++, decisions_take}
use Rattle.machine.specs.Fits.{Small, AllSmall}

-- with no two empty entries side by side
pub small_short : (l : Log ℕ) → ((i : ℕ) → suc i < length l → content_at l i ≡ none → content_at l (suc i) ≡ none → ⊥) → length l ≤ 2 * length (decisions l) + 1
small_short [] h = omega arith
small_short (e ∷ []) h = omega arith
small_short (e ∷ f ∷ es) h =
    elim (content_cases e.content) [
      | inl z ↦
          elim (content_cases f.content) [
            | inl y ↦ absurd (h 0 (omega arith) z y)
            | inr y ↦
                let r = small_short es (λ i b x w. h (suc (suc i)) (omega arith) x w) in
                let a = ap length (decisions_empty e (f ∷ es) z) in
                let b = ap length (decisions_some f es y.0 y.1) in
                omega arith
          ]
      | inr z ↦
          let r = small_short (f ∷ es) (λ i b x y. h (suc i) (omega arith) x y) in
          let a = ap length (decisions_some e (f ∷ es) z.0 z.1) in
          omega arith
    ]

front_small : (room : ℕ) (l p : Log ℕ) → length l ≤ length p → ((i : ℕ) → i < length l → entry_at l i ≡ entry_at p i) → Small room p → Small room l
front_small room l p b s d =
    let cut : length (take (length l) p) ≡ length l = length-take-le (length l) p b in
    let is : l ≡ take (length l) p = ext_get_or (entry 0 none) l (take (length l) p) (sym cut) (λ i h. s i h ∙ sym (get_or-take (length l) p i (entry 0 none) h)) in
    let all : take (length p) p ≡ p = take_all (length p) p (omega arith) in
    let less : length (decisions (take (length l) p)) ≤ length (decisions (take (length p) p)) = begins_length _ _ (decisions_take p (length l) (length p) b) in
    record {
      values = omega (arith, ap (λ (x : Log ℕ). length (decisions x)) is, ap (λ (x : Log ℕ). length (decisions x)) all, d.values);
      apart = λ i h x y. d.apart i (omega arith) (content_same _ _ (sym (s i (omega arith))) ∙ x) (content_same _ _ (sym (s (suc i) h)) ∙ y);
    }

-- every log begins a leader's log
pub matching_small : (room : ℕ) (g : History) → AllSmall room g → (l : Log ℕ) → Matching g l → Small room l
matching_small room g r l good =
    elim (cases_eq (length l) 0) [
      | inl z ↦
          let n : length (decisions (take 0 l)) ≤ 0 = omega (arith, ap (λ (x : List ℕ). length x) decisions_none) in
          let all : take (length l) l ≡ l = take_all (length l) l (omega arith) in
          record {
            values = omega (arith, ap (λ (x : ℕ). length (decisions (take x l))) z, ap (λ (x : Log ℕ). length (decisions x)) all);
            apart = λ i h x y. omega arith;
          }
      | inr z ↦
          let m = good (pred (length l)) (omega arith) in
          front_small room l (g.lead (term_at l (pred (length l)))) (omega (arith, m.within)) (λ i h. m.same i (omega arith)) (r (term_at l (pred (length l))) m.led)
    ]

-- who puts its empty entry behind all has something last
full_index : (l : Log ℕ) (i : ℕ) → renew_index l ≡ length l → suc i ≡ length l → content_at l i ≡ none → ⊥
unfolding renew_index
full_index [] i e h z = omega arith
full_index (x ∷ xs) i e h z =
    let k : length xs ≡ i = omega arith in
    let w : is_none (content_at (x ∷ xs) (length xs)) ≡ true = ap (λ (q : ℕ). is_none (content_at (x ∷ xs) q)) k ∙ ap is_none z in
    let y : pick (is_none (content_at (x ∷ xs) (length xs))) (length xs) (suc (length xs)) ≡ length xs = ap (λ (b : Bool). pick b (length xs) (suc (length xs))) w in
    omega arith

-- a log whose last entry is empty has the values of the rest
rest_values : {A : Type 0} (k : ℕ) (l : Log A) → k < length l → length l ≤ suc k → content_at l k ≡ none → decisions (drop k l) ≡ []
rest_values k l b h z =
    ap decisions (drop_more l k (entry 0 none) b)
    ∙ decisions_empty (entry_at l k) (drop (k + 1) l) z
    ∙ ap decisions (drop_all (k + 1) l (omega arith))
    ∙ decisions_none

front_values : {A : Type 0} (k : ℕ) (l : Log A) → decisions (drop k l) ≡ [] → decisions (take k l) ≡ decisions l
front_values {A} k l e =
    sym (append-nil (decisions (take k l)))
    ∙ ap (λ (xs : List A). decisions (take k l) ++ xs) (sym e)
    ∙ sym (decisions-++ (take k l) (drop k l))
    ∙ ap decisions (take-append-drop k l)

index_values : {A : Type 0} (l : Log A) → decisions (take (renew_index l) l) ≡ decisions l
index_values l =
    let r = renew_index_is l in
    elim (cases_lt (renew_index l) (length l)) [
      | inl b ↦ front_values (renew_index l) l (rest_values (renew_index l) l b r.high (r.empty b))
      | inr b ↦ ap decisions (take_all (renew_index l) l b)
    ]

-- a new leader's empty entry is no value, and takes the place of none
pub renew_values : {A : Type 0} (t : ℕ) (l : Log A) → decisions (renew t l) ≡ decisions l
unfolding renew
renew_values {A} t l =
    decisions-++ (take (renew_index l) l) (entry t none ∷ [])
    ∙ ap (λ (xs : List A). decisions (take (renew_index l) l) ++ xs) (decisions_empty (entry t none) [] refl ∙ decisions_none)
    ∙ append-nil (decisions (take (renew_index l) l))
    ∙ index_values l

renew_small : (room t : ℕ) (l : Log ℕ) → Small room l → Small room (renew t l)
renew_small room t l d =
    let bi = renew_index_is l in
    record {
      values = omega (arith, ap length (renew_values t l), d.values);
      apart = λ i h x y.
          let low : i < renew_index l = omega (arith, renew_length t l) in
          let at_i : content_at l i ≡ none = sym (content_same _ _ (renew_front t l i low)) ∙ x in
          elim (cases_lt (suc i) (renew_index l)) [
            | inl k ↦ d.apart i (omega (arith, bi.low)) at_i (sym (content_same _ _ (renew_front t l (suc i) k)) ∙ y)
            | inr k ↦
                let is : renew_index l ≡ suc i = omega arith in
                elim (cases_lt (renew_index l) (length l)) [
                  | inl b ↦ d.apart i (omega arith) at_i (subst (λ (q : ℕ). content_at l q ≡ none) is (bi.empty b))
                  | inr b ↦ full_index l i (omega (arith, bi.low)) (omega (arith, bi.low)) at_i
                ]
          ];
    }

push_small : (room : ℕ) (l : Log ℕ) (t p : ℕ) → length (decisions l) < room → Small room l → Small room (l ++ entry t (some p) ∷ [])
push_small room l t p b d =
    let len = push_length l (entry t (some p)) in
    let e1 = ap length (decisions-++ l (entry t (some p) ∷ [])) in
    let e2 = length-append (decisions l) (decisions (entry t (some p) ∷ [])) in
    let e3 = ap length (decisions_some (entry t (some p)) [] p refl) in
    let e4 : length (decisions {A = ℕ} []) ≡ 0 = ap (λ (x : List ℕ). length x) decisions_none in
    record {
      values = omega arith;
      apart = λ i h x y.
          elim (cases_lt (suc i) (length l)) [
            | inl k ↦ d.apart i k (sym (content_same _ _ (push_front l (entry t (some p)) i (omega arith))) ∙ x) (sym (content_same _ _ (push_front l (entry t (some p)) (suc i) k)) ∙ y)
            | inr k ↦ none_some (content_at (l ++ entry t (some p) ∷ []) (suc i)) p y (content_same _ _ (push_last l (entry t (some p)) (suc i) (omega arith)))
          ];
    }

pub elect_small : (room n : ℕ) (g : History) (t : ℕ) → Inv g → ElectOk n g t → AllSmall room g → AllSmall room (after_elect g t)
elect_small room n g t inv ok r =
    upd_all g.lead t (renew t (g.cand t)) (λ u l. upd g.elected t true u ≡ true → Small room l)
    (λ _. renew_small room t (g.cand t) (matching_small room g r (g.cand t) (inv.match_cand t ok.stands)))
    (λ u ne e. r u (sym (upd_other g.elected t true u ne) ∙ e))

pub propose_small : (room : ℕ) (g : History) (t p : ℕ) → length (decisions (g.lead t)) < room → AllSmall room g → AllSmall room (after_propose g t p)
propose_small room g t p space r =
    upd_all g.lead t (extended g t p) (λ u l. g.elected u ≡ true → Small room l) (λ e. push_small room (g.lead t) t p space (r t e)) (λ u ne e. r u e)
