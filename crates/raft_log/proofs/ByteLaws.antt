-- Bytes put over others are read back, and the rest stays as it was.
use Rattle.std.proofs.Common.{◌≡◌, ℕ, zero, suc, ◌+◌, ◌*◌, ◌/◌, ◌%◌, ◌<◌, ◌≤◌, List, [], ◌∷◌, ◌++◌, length, get_or, take, drop, set, sym, refl, ap, ◌∙◌, add-zero, add_assoc, add-one, arith}
use borrow.Rule.Slice.PartMut.{put_mid}
use Rattle.std.proofs.lemmas.List.{append_assoc, take-append-drop, length-append, length-drop, length-take-le, take_at, drop_at, drop-drop, get_or-drop, drop_more, set_split}
use Rattle.raft_log.specs.Bytes.{Bytes, eight, two, word_at, pair_at, laid}

-- a part that was written whole
pub part_laid : (out : List ℕ) (i k : ℕ) (ys bs : List ℕ) → ys ≡ bs → k ≡ length bs → put_mid i k out ys ≡ laid out i bs
unfolding laid
part_laid out i k ys bs e l = rw (e, l, drop-drop (length bs) i out)

pub laid_none : (out : List ℕ) (i : ℕ) → laid out i [] ≡ out
unfolding laid
laid_none out i = ap (λ k. take i out ++ drop k out) (add-zero i) ∙ take-append-drop i out

-- bytes behind bytes
pub laid_more : (out : List ℕ) (i k : ℕ) (xs ys : List ℕ) → i + length xs ≡ k → k ≤ length out → laid (laid out i xs) k ys ≡ laid out i (xs ++ ys)
unfolding laid
laid_more out i k xs ys e l =
    let front : List ℕ = take i out ++ xs in
    let n : length front ≡ k = length-append (take i out) xs ∙ (ap (λ j. j + length xs) (length-take-le i out (omega arith)) ∙ e) in
    let whole : take i out ++ (xs ++ drop (i + length xs) out) ≡ front ++ drop k out =
    sym (append_assoc (take i out) xs (drop (i + length xs) out)) ∙ ap (λ j. front ++ drop j out) e in
    let behind : drop (k + length ys) (front ++ drop k out) ≡ drop (i + length (xs ++ ys)) out =
    sym (drop-drop (length ys) k (front ++ drop k out))
    ∙ (ap (drop (length ys)) (drop_at front (drop k out) k n)
    ∙ (drop-drop (length ys) k out ∙ ap (λ j. drop j out) (omega (arith, length-append xs ys)))) in
    ap (λ x. take k x ++ (ys ++ drop (k + length ys) x)) whole
    ∙ (ap (λ t. t ++ (ys ++ drop (k + length ys) (front ++ drop k out))) (take_at front (drop k out) k n)
    ∙ (ap (λ t. front ++ (ys ++ t)) behind
    ∙ (append_assoc (take i out) xs (ys ++ drop (i + length (xs ++ ys)) out)
    ∙ ap (λ t. take i out ++ t) (sym (append_assoc xs ys (drop (i + length (xs ++ ys)) out))))))

pub length_laid : (out : List ℕ) (i : ℕ) (bs : List ℕ) → i + length bs ≤ length out → length (laid out i bs) ≡ length out
unfolding laid
length_laid out i bs l =
    length-append (take i out) (bs ++ drop (i + length bs) out)
    ∙ omega (arith, length-take-le i out (omega arith), length-append bs (drop (i + length bs) out), length-drop (i + length bs) out)

-- what was written is read
pub word_back : (w : ℕ) (bs : List ℕ) → w < 18446744073709551616 → word_at (eight w ++ bs) 0 ≡ w
word_back w bs h = omega arith

pub pair_back : (w : ℕ) (bs : List ℕ) → w < 65536 → pair_at (two w ++ bs) 0 ≡ w
pair_back w bs h = omega arith

-- reading at a place is reading at the front of what is left
pub word_drop : (bs : List ℕ) (k i : ℕ) → word_at (drop k bs) i ≡ word_at bs (k + i)
word_drop bs k i =
    simp (get_or-drop, ← add_assoc)

pub pair_drop : (bs : List ℕ) (k i : ℕ) → pair_at (drop k bs) i ≡ pair_at bs (k + i)
pair_drop bs k i = simp (get_or-drop, ← add_assoc)

-- one byte that was put
pub set_laid : (out : List ℕ) (i x : ℕ) → i < length out → set out i x ≡ laid out i (x ∷ [])
unfolding laid
set_laid out i x l = set_split out i x l ∙ ap (λ k. take i out ++ x ∷ drop k out) (sym (add-one i))

-- ROWS OF BYTES
pub bytes_cons : (x : ℕ) (xs : List ℕ) → x < 256 → Bytes xs → Bytes (x ∷ xs)
bytes_cons x xs l b zero = l
bytes_cons x xs l b (suc i) = b i

pub bytes_none : Bytes []
bytes_none i = omega arith

pub bytes_append : (xs ys : List ℕ) → Bytes xs → Bytes ys → Bytes (xs ++ ys)
bytes_append [] ys b c = c
bytes_append (x ∷ xs) ys b c = bytes_cons x (xs ++ ys) (b 0) (bytes_append xs ys (λ i. b (suc i)) c)

pub bytes_drop : (xs : List ℕ) (k : ℕ) → Bytes xs → Bytes (drop k xs)
bytes_drop xs k b i = rw get_or-drop (b (k + i))

pub bytes_take : (xs : List ℕ) (k : ℕ) → Bytes xs → Bytes (take k xs)
bytes_take [] zero b = bytes_none
bytes_take [] (suc k) b = bytes_none
bytes_take (x ∷ xs) zero b = bytes_none
bytes_take (x ∷ xs) (suc k) b = bytes_cons x (take k xs) (b 0) (bytes_take xs k (λ i. b (suc i)))

pub low : (x : ℕ) → x % 256 < 256
low x = omega arith

pub bytes_eight : (w : ℕ) → Bytes (eight w)
bytes_eight w zero = low w
bytes_eight w (suc zero) = low (w / 256)
bytes_eight w (suc (suc zero)) = low (w / 65536)
bytes_eight w (suc (suc (suc zero))) = low (w / 16777216)
bytes_eight w (suc (suc (suc (suc zero)))) = low (w / 4294967296)
bytes_eight w (suc (suc (suc (suc (suc zero))))) = low (w / 1099511627776)
bytes_eight w (suc (suc (suc (suc (suc (suc zero)))))) = low (w / 281474976710656)
bytes_eight w (suc (suc (suc (suc (suc (suc (suc zero))))))) = low (w / 72057594037927936)
bytes_eight w (suc (suc (suc (suc (suc (suc (suc (suc i)))))))) = omega arith

pub bytes_two : (w : ℕ) → Bytes (two w)
bytes_two w zero = low w
bytes_two w (suc zero) = low (w / 256)
bytes_two w (suc (suc i)) = omega arith

-- a number that was read from bytes is written as those bytes
module _ (a b c d e f g h : ℕ) (la : a < 256) (lb : b < 256) (lc : c < 256) (ld : d < 256) (le : e < 256) (lf : f < 256) (lg : g < 256) (lh : h < 256) where
  abbrev nested : ℕ
  nested = a + 256 * (b + 256 * (c + 256 * (d + 256 * (e + 256 * (f + 256 * (g + 256 * h))))))

  abbrev whole : ℕ
  whole = a + b * 256 + c * 65536 + d * 16777216 + e * 4294967296 + f * 1099511627776 + g * 281474976710656 + h * 72057594037927936

  nested_0 : nested % 256 ≡ a
  nested_0 = omega arith

  nested_1 : nested / 256 % 256 ≡ b
  nested_1 = omega arith

  nested_2 : nested / 65536 % 256 ≡ c
  nested_2 = omega arith

  nested_3 : nested / 16777216 % 256 ≡ d
  nested_3 = omega arith

  nested_4 : nested / 4294967296 % 256 ≡ e
  nested_4 = omega arith

  nested_5 : nested / 1099511627776 % 256 ≡ f
  nested_5 = omega arith

  nested_6 : nested / 281474976710656 % 256 ≡ g
  nested_6 = omega arith

  nested_7 : nested / 72057594037927936 % 256 ≡ h
  nested_7 = omega arith

  eight_of : eight whole ≡ a ∷ b ∷ c ∷ d ∷ e ∷ f ∷ g ∷ h ∷ []
  eight_of =
      let same : whole ≡ nested = omega arith in
      ap eight same ∙ cc (nested_0, nested_1, nested_2, nested_3, nested_4, nested_5, nested_6, nested_7)

two_0 : (a b : ℕ) → a < 256 → (a + 256 * b) % 256 ≡ a
two_0 a b la = omega arith

two_1 : (a b : ℕ) → a < 256 → b < 256 → (a + 256 * b) / 256 % 256 ≡ b
two_1 a b la lb = omega arith

two_of : (a b : ℕ) → a < 256 → b < 256 → two (a + b * 256) ≡ a ∷ b ∷ []
two_of a b la lb = let same : a + b * 256 ≡ a + 256 * b = omega arith in ap two same ∙ cc (two_0 a b la, two_1 a b la lb)

drop_next : (bs : List ℕ) (k k₁ : ℕ) → k₁ ≡ k + 1 → k < length bs → drop k bs ≡ get_or bs k 0 ∷ drop k₁ bs
drop_next bs k k₁ e l = drop_more bs k 0 l ∙ ap (λ j. get_or bs k 0 ∷ drop j bs) (sym e)

module _ (bs : List ℕ) (i : ℕ) (b : Bytes bs) where
  pub eight_at : i + 8 ≤ length bs → eight (word_at bs i) ++ drop (i + 8) bs ≡ drop i bs
  eight_at l =
      let d₀ = drop_next bs i (i + 1) refl (omega arith) in
      let d₁ = drop_next bs (i + 1) (i + 2) (omega arith) (omega arith) in
      let d₂ = drop_next bs (i + 2) (i + 3) (omega arith) (omega arith) in
      let d₃ = drop_next bs (i + 3) (i + 4) (omega arith) (omega arith) in
      let d₄ = drop_next bs (i + 4) (i + 5) (omega arith) (omega arith) in
      let d₅ = drop_next bs (i + 5) (i + 6) (omega arith) (omega arith) in
      let d₆ = drop_next bs (i + 6) (i + 7) (omega arith) (omega arith) in
      let d₇ = drop_next bs (i + 7) (i + 8) (omega arith) (omega arith) in
      ap (λ t. t ++ drop (i + 8) bs)
      (eight_of (get_or bs i 0) (get_or bs (i + 1) 0) (get_or bs (i + 2) 0) (get_or bs (i + 3) 0) (get_or bs (i + 4) 0) (get_or bs (i + 5) 0) (get_or bs (i + 6) 0) (get_or bs (i + 7) 0)
      (b i) (b (i + 1)) (b (i + 2)) (b (i + 3)) (b (i + 4)) (b (i + 5)) (b (i + 6)) (b (i + 7)))
      ∙ cc

  pub two_at : i + 2 ≤ length bs → two (pair_at bs i) ++ drop (i + 2) bs ≡ drop i bs
  two_at l =
      let d₀ = drop_next bs i (i + 1) refl (omega arith) in
      let d₁ = drop_next bs (i + 1) (i + 2) (omega arith) (omega arith) in
      ap (λ t. t ++ drop (i + 2) bs) (two_of (get_or bs i 0) (get_or bs (i + 1) 0) (b i) (b (i + 1))) ∙ cc

  pub word_small : word_at bs i < 18446744073709551616
  word_small = omega (arith, b i, b (i + 1), b (i + 2), b (i + 3), b (i + 4), b (i + 5), b (i + 6), b (i + 7))
