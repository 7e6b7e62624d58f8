-- A letter that is written one part at a time.
use Rattle.std.proofs.Common.{◌≡◌, ℕ, zero, suc, ◌+◌, ◌*◌, ◌<◌, ◌≤◌, List, [], ◌∷◌, ◌++◌, length, get_or, take, drop, set, sym, refl, ap, ◌∙◌, zero-add, arith}
use Rattle.std.specs.List.{flat_map}
use Rattle.std.proofs.lemmas.List.{length-append, take_more}
use Rattle.std.proofs.lemmas.Grind.{flat_map-append}
use Rattle.raft_log.specs.Bytes.{laid, eight}
use Rattle.raft_log.specs.Block.{Entry, block_bytes}
use Rattle.raft_log.proofs.ByteLaws.{laid_more, set_laid, length_laid}
use Rattle.messages.specs.Letter.{Letter, append, letter_bytes}

-- a part behind a part
pub put_more : (out o o₁ : List ℕ) (i k : ℕ) (xs ys : List ℕ) → i + length xs ≡ k → k ≤ length out → o ≡ laid out i xs → o₁ ≡ laid o k ys → o₁ ≡ laid out i (xs ++ ys)
put_more out o o₁ i k xs ys e l h h₁ = h₁ ∙ (ap (λ x. laid x k ys) h ∙ laid_more out i k xs ys e l)

-- a byte behind a part
pub put_byte : (out o : List ℕ) (i k : ℕ) (xs : List ℕ) (x : ℕ) → i + length xs ≡ k → k < length out → o ≡ laid out i xs → set o k x ≡ laid out i (xs ++ x ∷ [])
put_byte out o i k xs x e l h =
    let n : length o ≡ length out = ap length h ∙ length_laid out i xs (omega arith) in
    put_more out o (set o k x) i k xs (x ∷ []) e (omega arith) h (set_laid o k x (omega arith))

-- the letter stands at the front, and what is behind it is as before
pub front : (out o bs : List ℕ) (n : ℕ) → n ≡ length bs → o ≡ laid out 0 bs → o ≡ bs ++ drop n out
unfolding laid
front out o bs n e h = h ∙ ap (λ k. bs ++ drop k out) (zero-add (length bs) ∙ sym e)

pub length_append : (t p q k : ℕ) (es : List Entry) → length (letter_bytes (append t p q k es)) ≡ 34 + length (block_bytes es)
unfolding letter_bytes
length_append t p q k es = omega arith

pub append_put : (out o o₂ : List ℕ) (t p q k n : ℕ) (es : List Entry) → length es ≡ n → 4096 ≤ length out →
    o ≡ laid out 0 (1 ∷ (eight t ++ (eight p ++ (eight q ++ eight k)))) → o₂ ≡ laid (set o 33 n) 34 (block_bytes es) →
    o₂ ≡ laid out 0 (letter_bytes (append t p q k es))
unfolding letter_bytes
append_put out o o₂ t p q k n es c l h h₂ =
    put_more out (set o 33 n) o₂ 0 34 (1 ∷ (eight t ++ (eight p ++ (eight q ++ (eight k ++ (n ∷ [])))))) (block_bytes es) refl (omega arith)
    (put_byte out o 0 33 (1 ∷ (eight t ++ (eight p ++ (eight q ++ eight k)))) n refl (omega arith) h) h₂
    ∙ ap (λ x. laid out 0 (1 ∷ (eight t ++ (eight p ++ (eight q ++ (eight k ++ (x ∷ block_bytes es))))))) (sym c)

-- one number more
pub length_numbers : (ns : List ℕ) (i : ℕ) → i ≤ length ns → length (flat_map eight (take i ns)) ≡ 8 * i
length_numbers [] zero l = refl
length_numbers [] (suc i) l = absurd (omega arith)
length_numbers (n ∷ ns) zero l = refl
length_numbers (n ∷ ns) (suc i) l = omega (arith, length-append (eight n) (flat_map eight (take i ns)), length_numbers ns i (omega arith))

pub numbers_more : (ns : List ℕ) (i : ℕ) → i < length ns → flat_map eight (take i ns) ++ eight (get_or ns i 0) ≡ flat_map eight (take (i + 1) ns)
numbers_more ns i l =
    sym (ap (flat_map eight) (take_more ns i 0 l) ∙ flat_map-append eight (take i ns) (get_or ns i 0 ∷ []))

-- what is told of a letter
pub told : (l l₁ : Letter) (out o : List ℕ) (r : ℕ) → l₁ ≡ l → r ≡ length (letter_bytes l) → o ≡ laid out 0 (letter_bytes l) →
    (r ≡ length (letter_bytes l₁)) × (o ≡ letter_bytes l₁ ++ drop r out)
told l l₁ out o r e n h =
    (n ∙ sym (ap (λ x. length (letter_bytes x)) e), front out o (letter_bytes l) r n h ∙ sym (ap (λ x. letter_bytes x ++ drop r out) e))
