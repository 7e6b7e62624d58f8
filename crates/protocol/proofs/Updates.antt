-- Updated functions, and choices. Assumes nothing.
use Rattle.std.proofs.Common.{◌≡◌, ℕ, Bool, true, false, eqb, ◌⊎◌, sym, refl, ap, ◌∙◌, subst, inl, inr}
use Rattle.std.proofs.lemmas.Bool.{cases_Bool, cases_eq, eq-eqb, ne_eqb}
use Rattle.protocol.specs.Lists.{pick, upd, upd2}

-- a choice has what both its sides have
pub pick_both : {A : Type 0} (P : A → Type 0) (b : Bool) (x y : A) → (b ≡ true → P x) → (b ≡ false → P y) → P (pick b x y)
pick_both P true x y p q = p refl
pick_both P false x y p q = q refl

pub pick_cases : {A : Type 0} (b : Bool) (x y : A) → ((b ≡ true) × (pick b x y ≡ x)) ⊎ ((b ≡ false) × (pick b x y ≡ y))
pick_cases true x y = inl (refl, refl)
pick_cases false x y = inr (refl, refl)

pub upd_at : {A : Type 0} (f : ℕ → A) (t : ℕ) (v : A) (u : ℕ) → u ≡ t → upd f t v u ≡ v
unfolding upd
upd_at f t v u e = ap (λ (b : Bool). pick b v (f u)) (eq-eqb u t e)

pub upd_same : {A : Type 0} (f : ℕ → A) (t : ℕ) (v : A) → upd f t v t ≡ v
upd_same f t v = upd_at f t v t refl

pub upd_other : {A : Type 0} (f : ℕ → A) (t : ℕ) (v : A) (u : ℕ) → (u ≡ t → ⊥) → upd f t v u ≡ f u
unfolding upd
upd_other f t v u ne = ap (λ (b : Bool). pick b v (f u)) (ne_eqb u t ne)

-- at the place, or elsewhere
pub upd_cases : {A : Type 0} (f : ℕ → A) (t : ℕ) (v : A) (u : ℕ) → ((u ≡ t) × (upd f t v u ≡ v)) ⊎ ((u ≡ t → ⊥) × (upd f t v u ≡ f u))
upd_cases f t v u = elim (cases_eq u t) [ inl e ↦ inl (e, upd_at f t v u e) | inr e ↦ inr (e, upd_other f t v u e) ]

pub upd_all : {A : Type 0} (f : ℕ → A) (t : ℕ) (v : A) (P : ℕ → A → Type 0) → P t v → ((u : ℕ) → (u ≡ t → ⊥) → P u (f u)) → (u : ℕ) → P u (upd f t v u)
upd_all {A} f t v P new old u =
    elim (upd_cases f t v u) [
      | inl h ↦ subst (λ (x : A). P u x) (sym h.1) (subst (λ (x : ℕ). P x v) (sym h.0) new)
      | inr h ↦ subst (λ (x : A). P u x) (sym h.1) (old u h.0)
    ]

pub upd2_at : {A : Type 0} (f : ℕ → ℕ → A) (t j : ℕ) (v : A) (u i : ℕ) → u ≡ t → i ≡ j → upd2 f t j v u i ≡ v
unfolding upd2
upd2_at f t j v u i e k = ap (λ (b : Bool). pick b (pick (eqb i j) v (f u i)) (f u i)) (eq-eqb u t e) ∙ ap (λ (b : Bool). pick b v (f u i)) (eq-eqb i j k)

pub upd2_same : {A : Type 0} (f : ℕ → ℕ → A) (t j : ℕ) (v : A) → upd2 f t j v t j ≡ v
upd2_same f t j v = upd2_at f t j v t j refl refl

upd2_term : {A : Type 0} (f : ℕ → ℕ → A) (t j : ℕ) (v : A) (u i : ℕ) → (u ≡ t → ⊥) → upd2 f t j v u i ≡ f u i
unfolding upd2
upd2_term f t j v u i ne = ap (λ (b : Bool). pick b (pick (eqb i j) v (f u i)) (f u i)) (ne_eqb u t ne)

pub upd2_who : {A : Type 0} (f : ℕ → ℕ → A) (t j : ℕ) (v : A) (u i : ℕ) → (i ≡ j → ⊥) → upd2 f t j v u i ≡ f u i
unfolding upd2
upd2_who f t j v u i ne =
    elim (cases_Bool (eqb u t)) [
      | inl e ↦ ap (λ (b : Bool). pick b (pick (eqb i j) v (f u i)) (f u i)) e ∙ ap (λ (b : Bool). pick b v (f u i)) (ne_eqb i j ne)
      | inr e ↦ ap (λ (b : Bool). pick b (pick (eqb i j) v (f u i)) (f u i)) e
    ]

pub upd2_cases : {A : Type 0} (f : ℕ → ℕ → A) (t j : ℕ) (v : A) (u i : ℕ) →
    ((u ≡ t) × (i ≡ j) × (upd2 f t j v u i ≡ v)) ⊎ (((u ≡ t) × (i ≡ j) → ⊥) × (upd2 f t j v u i ≡ f u i))
upd2_cases f t j v u i =
    elim (cases_eq u t) [
      | inl e ↦ elim (cases_eq i j) [ inl k ↦ inl (e, k, upd2_at f t j v u i e k) | inr k ↦ inr (λ p. k p.1, upd2_who f t j v u i k) ]
      | inr e ↦ inr (λ p. e p.0, upd2_term f t j v u i e)
    ]
