-- Lists of which one begins another, and what holds of all in a list. Assumes nothing.
use Rattle.std.proofs.Common.{◌≡◌, ℕ, zero, suc, ◌<◌, ◌≤◌, List, [], ◌∷◌, ◌++◌, length, get_or, take, sym, refl, ap, ◌∙◌, subst, inl, inr, arith}
use Rattle.std.proofs.lemmas.List.{append-nil, append_assoc, length-append, nil_from_length, get_or_append_left}
use Rattle.protocol.specs.Lists.{In, All, Begins, Alike}

-- all in a list
pub all_map : {A : Type 0} (P Q : A → Type 0) → ((x : A) → P x → Q x) → (xs : List A) → All P xs → All Q xs
all_map P Q f [] h = tt
all_map P Q f (x ∷ xs) h = (f x h.0, all_map P Q f xs h.1)

pub all_both : {A : Type 0} (P : A → Type 0) (xs ys : List A) → All P xs → All P ys → All P (xs ++ ys)
all_both P [] ys h k = k
all_both P (x ∷ xs) ys h k = (h.0, all_both P xs ys h.1 k)

pub all_take : {A : Type 0} (P : A → Type 0) (k : ℕ) (xs : List A) → All P xs → All P (take k xs)
all_take P zero xs h = tt
all_take P (suc k) [] h = tt
all_take P (suc k) (x ∷ xs) h = (h.0, all_take P k xs h.1)

pub all_in : {A : Type 0} (P : A → Type 0) (x : A) (xs : List A) → All P xs → In x xs → P x
all_in P x [] h i = absurd i
all_in {A} P x (y ∷ ys) h i = elim i [ inl e ↦ subst (λ (z : A). P z) e h.0 | inr k ↦ all_in P x ys h.1 k ]

-- one that begins another
pub begins_refl : {A : Type 0} (xs : List A) → Begins xs xs
unfolding Begins
begins_refl xs = ([], append-nil xs)

pub begins_trans : {A : Type 0} (xs ys zs : List A) → Begins xs ys → Begins ys zs → Begins xs zs
unfolding Begins
begins_trans {A} xs ys zs p q = (p.0 ++ q.0, sym (append_assoc xs p.0 q.0) ∙ ap (λ (x : List A). x ++ q.0) p.1 ∙ q.1)

pub begins_length : {A : Type 0} (xs ys : List A) → Begins xs ys → length xs ≤ length ys
unfolding Begins
begins_length xs ys b = omega (arith, length-append xs b.0, ap length b.1)

pub begins_shorter : {A : Type 0} (xs ys : List A) → length ys ≤ length xs → Begins xs ys → Begins ys xs
unfolding Begins
begins_shorter {A} xs ys b p =
    let z : p.0 ≡ [] = nil_from_length p.0 (omega (arith, length-append xs p.0, ap length p.1)) in
    ([], append-nil ys ∙ sym p.1 ∙ ap (λ (x : List A). xs ++ x) z ∙ append-nil xs)

pub begins_at : {A : Type 0} (d : A) (xs ys : List A) (i : ℕ) → i < length xs → Begins xs ys → get_or xs i d ≡ get_or ys i d
unfolding Begins
begins_at {A} d xs ys i h b = sym (get_or_append_left xs b.0 d i h) ∙ ap (λ (x : List A). get_or x i d) b.1

-- two of which one begins the other
pub alike_swap : {A : Type 0} (xs ys : List A) → Alike xs ys → Alike ys xs
unfolding Alike
alike_swap xs ys (inl h) = inr h
alike_swap xs ys (inr h) = inl h

pub alike_nil : {A : Type 0} (xs ys : List A) → xs ≡ [] → Alike xs ys
unfolding Alike Begins
alike_nil {A} xs ys e = inl (ys, ap (λ (x : List A). x ++ ys) e)

pub alike_at : {A : Type 0} (d : A) (xs ys : List A) (i : ℕ) → i < length xs → i < length ys → Alike xs ys → get_or xs i d ≡ get_or ys i d
unfolding Alike
alike_at d xs ys i h h' (inl b) = begins_at d xs ys i h b
alike_at d xs ys i h h' (inr b) = sym (begins_at d ys xs i h' b)

alike_cons : {A : Type 0} (x y : A) (xs ys : List A) → x ≡ y → Alike xs ys → Alike (x ∷ xs) (y ∷ ys)
unfolding Alike Begins
alike_cons x y xs ys e (inl h) = inl (h.0, cc h.1)
alike_cons x y xs ys e (inr h) = inr (h.0, cc h.1)

heads : {A : Type 0} (x y : A) (xs ys : List A) → x ∷ xs ≡ y ∷ ys → x ≡ y
heads x y xs ys e = cc

tails : {A : Type 0} (x y : A) (xs ys : List A) → x ∷ xs ≡ y ∷ ys → xs ≡ ys
tails x y xs ys e = cc

fronts_alike : {A : Type 0} (xs ys a b : List A) → xs ++ a ≡ ys ++ b → Alike xs ys
unfolding Alike Begins
fronts_alike [] ys a b e = inl (ys, refl)
fronts_alike (x ∷ xs) [] a b e = inr (x ∷ xs, refl)
fronts_alike (x ∷ xs) (y ∷ ys) a b e = alike_cons x y xs ys (heads x y (xs ++ a) (ys ++ b) e) (fronts_alike xs ys a b (tails x y (xs ++ a) (ys ++ b) e))

-- two that begin one are alike
pub begins_alike : {A : Type 0} (xs ys zs : List A) → Begins xs zs → Begins ys zs → Alike xs ys
unfolding Begins
begins_alike xs ys zs p q = fronts_alike xs ys p.0 q.0 (p.1 ∙ sym q.1)
