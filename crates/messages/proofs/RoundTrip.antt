-- Every letter that a machine can make comes back from its bytes.
use Rattle.std.proofs.Common.{◌≡◌, ℕ, ◌^◌, ◌<◌, ◌≤◌, Bool, true, false, ◌&&◌, leb, List, [], ◌∷◌, ◌++◌, length, ap, ◌∙◌, arith}
use mathlib.Core.Option.{none, some}
use Rattle.std.proofs.lemmas.Bool.{le-leb, and_from, cond-true}
use Rattle.raft_log.specs.Bytes.{Bytes, eight, word_at}
use Rattle.raft_log.specs.Block.{Entry, block_bytes, block_entries, block_fits, EntriesFit}
use Rattle.raft_log.proofs.ByteLaws.{word_back, bytes_cons, bytes_none, bytes_append, bytes_eight}
use Rattle.raft_log.proofs.BlockLaws.{entries_back, fits_back, block_short}
use Rattle.raft_log.proofs.BlockWhole.{block_all}
use Rattle.messages.specs.Letter.{Letter, append, append_response, append_reject, request_vote, request_vote_response, term_notice, bit, letter_bytes, append_of, letter_of, LetterFits, RoundTrip, LettersShort}
use Rattle.messages.proofs.Encoding.{length_append}

module _ (t p q k : ℕ) (es : List Entry) (lt : t < 2 ^ 64) (lp : p < 2 ^ 64) (lq : q < 2 ^ 64) (lk : k < 2 ^ 64) (few : length es ≤ 15) (f : EntriesFit es) where
  abbrev bs : List ℕ
  bs = 1 ∷ (eight t ++ (eight p ++ (eight q ++ (eight k ++ (length es ∷ block_bytes es)))))

  append_back : append_of bs ≡ some (append t p q k es)
  append_back =
      let w₁ : word_at bs 1 ≡ t = word_back t [] lt in
      let w₂ : word_at bs 9 ≡ p = word_back p [] lp in
      let w₃ : word_at bs 17 ≡ q = word_back q [] lq in
      let w₄ : word_at bs 25 ≡ k = word_back k [] lk in
      let es_back : block_entries (block_bytes es) (length es) ≡ es = entries_back es f in
      cond-true (leb 34 (length bs) && block_fits (block_bytes es) (length es))
      (some (append (word_at bs 1) (word_at bs 9) (word_at bs 17) (word_at bs 25) (block_entries (block_bytes es) (length es)))) none
      (and_from (leb 34 (length bs)) (block_fits (block_bytes es) (length es)) (le-leb 34 (length bs) (omega arith)) (fits_back es f few))
      ∙ cc

two_numbers : (f : ℕ → ℕ → Letter) (a b a₁ b₁ : ℕ) → a₁ ≡ a → b₁ ≡ b → some (f a₁ b₁) ≡ some (f a b)
two_numbers f a b a₁ b₁ ea eb = rw (ea, eb)

three_numbers : (f : ℕ → ℕ → ℕ → Letter) (a b c a₁ b₁ c₁ : ℕ) → a₁ ≡ a → b₁ ≡ b → c₁ ≡ c → some (f a₁ b₁ c₁) ≡ some (f a b c)
three_numbers f a b c a₁ b₁ c₁ ea eb ec = rw (ea, eb, ec)

pub round_trip : RoundTrip
unfolding letter_bytes letter_of
round_trip (append t p q k es) f = append_back t p q k es f.0 f.1 f.2 f.3 f.4 f.5
round_trip (append_response t i) f = two_numbers append_response t i _ _ (word_back t [] f.0) (word_back i [] f.1)
round_trip (append_reject t p h) f = three_numbers append_reject t p h _ _ _ (word_back t [] f.0) (word_back p [] f.1) (word_back h [] f.2)
round_trip (request_vote t i q) f = three_numbers request_vote t i q _ _ _ (word_back t [] f.0) (word_back i [] f.1) (word_back q [] f.2)
round_trip (request_vote_response t true) f = ap (λ x. some (request_vote_response x true)) (word_back t [] f)
round_trip (request_vote_response t false) f = ap (λ x. some (request_vote_response x false)) (word_back t [] f)
round_trip (term_notice t) f = ap (λ x. some (term_notice x)) (word_back t [] f)

bit_small : (b : Bool) → bit b < 256
bit_small true = omega arith
bit_small false = omega arith

-- a kind, and behind it numbers
one_all : (k : ℕ) (a : ℕ) (ys : List ℕ) → k < 256 → Bytes ys → Bytes (k ∷ (eight a ++ ys))
one_all k a ys l b = bytes_cons k (eight a ++ ys) l (bytes_append (eight a) ys (bytes_eight a) b)

more_all : (a : ℕ) (ys : List ℕ) → Bytes ys → Bytes (eight a ++ ys)
more_all a ys b = bytes_append (eight a) ys (bytes_eight a) b

pub letter_all : (l : Letter) → LetterFits l → Bytes (letter_bytes l)
unfolding letter_bytes
letter_all (append t p q k es) f =
    one_all 1 t (eight p ++ (eight q ++ (eight k ++ (length es ∷ block_bytes es)))) (omega arith)
    (more_all p (eight q ++ (eight k ++ (length es ∷ block_bytes es)))
    (more_all q (eight k ++ (length es ∷ block_bytes es))
    (more_all k (length es ∷ block_bytes es) (bytes_cons (length es) (block_bytes es) (omega (arith, f.4)) (block_all es f.5)))))
letter_all (append_response t i) f = one_all 2 t (eight i) (omega arith) (bytes_eight i)
letter_all (append_reject t p h) f = one_all 3 t (eight p ++ eight h) (omega arith) (more_all p (eight h) (bytes_eight h))
letter_all (request_vote t i q) f = one_all 4 t (eight i ++ eight q) (omega arith) (more_all i (eight q) (bytes_eight q))
letter_all (request_vote_response t b) f = one_all 5 t (bit b ∷ []) (omega arith) (bytes_cons (bit b) [] (bit_small b) bytes_none)
letter_all (term_notice t) f = bytes_cons 6 (eight t) (omega arith) (bytes_eight t)

pub letter_short : (l : Letter) → LetterFits l → length (letter_bytes l) ≤ 4096
unfolding letter_bytes
letter_short (append t p q k es) f = omega (arith, length_append t p q k es, block_short es f.5, f.4)
letter_short (append_response t i) f = omega arith
letter_short (append_reject t p h) f = omega arith
letter_short (request_vote t i q) f = omega arith
letter_short (request_vote_response t b) f = omega arith
letter_short (term_notice t) f = omega arith

pub letters_short : LettersShort
letters_short l f = (letter_all l f, letter_short l f)
