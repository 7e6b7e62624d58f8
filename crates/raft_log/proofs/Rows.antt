-- A row that is read or written one more byte or word at a time.
use Rattle.std.proofs.Common.{◌≡◌, ℕ, ◌+◌, ◌<◌, List, [], ◌∷◌, ◌++◌, map, length, get_or, drop, set, sym, ◌∙◌, add-one, arith}
use Rattle.std.specs.List.{range_with_len}
use Rattle.std.proofs.lemmas.List.{append_assoc, set_at, drop_more}
use Rattle.std.proofs.lemmas.List.FromFn.{length-map-range_with_len, map-range_with_len_more}
use Rattle.raft_log.specs.Layout.{value_row}
use Rattle.raft_log.specs.Values.{byte_at, bytes_at, value_length, value_at, word_of, words_put}

-- of a list whose first i are f's, the next is set
pub put_next : (f : ℕ → ℕ) (out : List ℕ) (i x : ℕ) → i < length out → x ≡ f i → set (map f (range_with_len 0 i) ++ drop i out) i x ≡ map f (range_with_len 0 (i + 1)) ++ drop (i + 1) out
put_next f out i x h e =
    let more : map f (range_with_len 0 (i + 1)) ≡ map f (range_with_len 0 i) ++ f i ∷ [] = map-range_with_len_more f 0 i i (omega arith) in
    rw (drop_more out i 0 h, set_at (map f (range_with_len 0 i)) (get_or out i 0) (drop (i + 1) out) x i (length-map-range_with_len f 0 i), more, append_assoc, e)

pub words_put_more : (m : List ℕ) (base : ℕ) (v : List ℕ) (j : ℕ) → words_put m base v (j + 1) ≡ set (words_put m base v j) (base + j) (word_of v j)
unfolding words_put
words_put_more m base v j = rw add-one

pub value_is :
    (m out out₀ : List ℕ) (k base n i : ℕ) → base ≡ value_row k → n ≡ value_length m k → i ≡ n → out ≡ bytes_at m (base + 1) i ++ drop i out₀ →
    (n ≡ length (value_at m k)) × (out ≡ value_at m k ++ drop n out₀)
unfolding value_at
value_is m out out₀ k base n i b e w h =
    let l = length-map-range_with_len (λ i. byte_at m (value_row k + 1) i) 0 (value_length m k) in
    (e ∙ sym l, h ∙ rw (w, b, e))
