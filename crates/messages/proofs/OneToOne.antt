-- Bytes that are a letter are the bytes of just that letter.
use Rattle.std.proofs.Common.{◌≡◌, ℕ, zero, suc, ◌+◌, ◌≤◌, Bool, true, false, cond, ◌&&◌, eqb, leb, List, [], ◌∷◌, ◌++◌, length, get_or, drop, sym, refl, ap, ◌∙◌, subst, inl, inr, arith}
use mathlib.Core.Option.{none, some}
use Rattle.std.proofs.lemmas.List.{append-nil, drop_all, drop_more}
use Rattle.std.proofs.lemmas.Bool.{leb-true, eqb-true, and_parts, cases_eq}
use Rattle.raft_log.specs.Bytes.{Bytes, eight, word_at}
use Rattle.raft_log.specs.Block.{Entry, block_bytes, block_entries, block_fits}
use Rattle.raft_log.proofs.ByteLaws.{eight_at, word_small, bytes_drop}
use Rattle.raft_log.proofs.BlockReads.{fits}
use Rattle.raft_log.proofs.BlockWhole.{block_whole, entries_fit, length_block_entries}
use Rattle.messages.specs.Letter.{Letter, append, append_response, append_reject, request_vote, request_vote_response, term_notice, bit, letter_bytes, append_of, append_response_of, append_reject_of, request_vote_of, request_vote_response_of, term_notice_of, kind, LetterFits, OneToOne}
use Rattle.messages.proofs.Decoding.{kind_1, kind_2, kind_3, kind_4, kind_5, kind_6, kind_none}

-- bs are the bytes of the letter l
abbrev Same : List ℕ → Letter → Type 0
Same bs l = (letter_bytes l ≡ bs) × LetterFits l

-- what a test lets through
let_through : (b : Bool) (x l : Letter) → cond b (some x) none ≡ some l → (b ≡ true) × (x ≡ l)
let_through true x l e = (refl, cc)
let_through false x l e = let z : ◌≡◌ {A = ℕ} 0 1 = cc in absurd (omega arith)

module _ (bs : List ℕ) (b : Bytes bs) where
  -- the kind and the rest
  first : (k : ℕ) → kind bs ≡ k → 1 ≤ length bs → k ∷ drop 1 bs ≡ bs
  first k e l = sym (drop_more bs 0 0 (omega arith) ∙ ap (λ x. x ∷ drop 1 bs) e)

  -- the last number goes to the end
  last : (i n : ℕ) → i + 8 ≡ n → length bs ≡ n → eight (word_at bs i) ≡ drop i bs
  last i n e l =
      sym (append-nil (eight (word_at bs i)))
      ∙ (ap (λ t. eight (word_at bs i) ++ t) (sym (drop_all (i + 8) bs (omega arith))) ∙ eight_at bs i b (omega arith))

  one_number : (k : ℕ) → kind bs ≡ k → length bs ≡ 9 → k ∷ eight (word_at bs 1) ≡ bs
  one_number k e l = ap (λ t. k ∷ t) (last 1 9 refl l) ∙ first k e (omega arith)

  two_numbers : (k : ℕ) → kind bs ≡ k → length bs ≡ 17 → k ∷ (eight (word_at bs 1) ++ eight (word_at bs 9)) ≡ bs
  two_numbers k e l =
      ap (λ t. k ∷ (eight (word_at bs 1) ++ t)) (last 9 17 refl l) ∙ (ap (λ t. k ∷ t) (eight_at bs 1 b (omega arith)) ∙ first k e (omega arith))

  three_numbers : (k : ℕ) → kind bs ≡ k → length bs ≡ 25 → k ∷ (eight (word_at bs 1) ++ (eight (word_at bs 9) ++ eight (word_at bs 17))) ≡ bs
  three_numbers k e l =
      ap (λ t. k ∷ (eight (word_at bs 1) ++ (eight (word_at bs 9) ++ t))) (last 17 25 refl l)
      ∙ (ap (λ t. k ∷ (eight (word_at bs 1) ++ t)) (eight_at bs 9 b (omega arith))
      ∙ (ap (λ t. k ∷ t) (eight_at bs 1 b (omega arith)) ∙ first k e (omega arith)))

  -- a vote is one byte
  vote : (x : ℕ) → x ≤ 1 → bit (eqb x 1) ≡ x
  vote zero l = refl
  vote (suc zero) l = refl
  vote (suc (suc x)) l = absurd (omega arith)

  voted : kind bs ≡ 5 → length bs ≡ 10 → get_or bs 9 0 ≤ 1 → 5 ∷ (eight (word_at bs 1) ++ (bit (eqb (get_or bs 9 0) 1) ∷ [])) ≡ bs
  voted e l s =
      let d : get_or bs 9 0 ∷ [] ≡ drop 9 bs = ap (λ t. get_or bs 9 0 ∷ t) (sym (drop_all 10 bs (omega arith))) ∙ sym (drop_more bs 9 0 (omega arith)) in
      ap (λ x. 5 ∷ (eight (word_at bs 1) ++ (x ∷ []))) (vote (get_or bs 9 0) s)
      ∙ (ap (λ t. 5 ∷ (eight (word_at bs 1) ++ t)) d ∙ (ap (λ t. 5 ∷ t) (eight_at bs 1 b (omega arith)) ∙ first 5 e (omega arith)))

  -- an append, with its block
  module _ (e : kind bs ≡ 1) (long : 34 ≤ length bs) (ok : block_fits (drop 34 bs) (get_or bs 33 0) ≡ true) where
    abbrev es : List Entry
    es = block_entries (drop 34 bs) (get_or bs 33 0)

    block_is : length es ∷ block_bytes es ≡ drop 33 bs
    block_is =
        ap (λ n. n ∷ block_bytes es) (length_block_entries (drop 34 bs) (get_or bs 33 0))
        ∙ (ap (λ t. get_or bs 33 0 ∷ t) (block_whole (drop 34 bs) (get_or bs 33 0) (bytes_drop bs 34 b) ok) ∙ sym (drop_more bs 33 0 (omega arith)))

    appended : 1 ∷ (eight (word_at bs 1) ++ (eight (word_at bs 9) ++ (eight (word_at bs 17) ++ (eight (word_at bs 25) ++ (length es ∷ block_bytes es))))) ≡ bs
    appended =
        ap (λ t. 1 ∷ (eight (word_at bs 1) ++ (eight (word_at bs 9) ++ (eight (word_at bs 17) ++ (eight (word_at bs 25) ++ t))))) block_is
        ∙ (ap (λ t. 1 ∷ (eight (word_at bs 1) ++ (eight (word_at bs 9) ++ (eight (word_at bs 17) ++ t)))) (eight_at bs 25 b (omega arith))
        ∙ (ap (λ t. 1 ∷ (eight (word_at bs 1) ++ (eight (word_at bs 9) ++ t))) (eight_at bs 17 b (omega arith))
        ∙ (ap (λ t. 1 ∷ (eight (word_at bs 1) ++ t)) (eight_at bs 9 b (omega arith)) ∙ (ap (λ t. 1 ∷ t) (eight_at bs 1 b (omega arith)) ∙ first 1 e (omega arith)))))

    few : length es ≤ 15
    few = omega (arith, length_block_entries (drop 34 bs) (get_or bs 33 0), (fits (drop 34 bs) (get_or bs 33 0) ok).few)

    append_same : Same bs (append (word_at bs 1) (word_at bs 9) (word_at bs 17) (word_at bs 25) es)
    unfolding letter_bytes
    append_same = (
      appended,
      (word_small bs 1 b, word_small bs 9 b, word_small bs 17 b, word_small bs 25 b, few, entries_fit (drop 34 bs) (get_or bs 33 0) (bytes_drop bs 34 b) ok),
    )

  -- each kind
  module _ (l : Letter) where
    same : (x : Letter) → x ≡ l → Same bs x → Same bs l
    same x e s = subst (λ (y : Letter). Same bs y) e s

    is_append : kind bs ≡ 1 → append_of bs ≡ some l → Same bs l
    is_append e h =
        let n : ℕ = get_or bs 33 0 in
        let x : Letter = append (word_at bs 1) (word_at bs 9) (word_at bs 17) (word_at bs 25) (block_entries (drop 34 bs) n) in
        let t = let_through (leb 34 (length bs) && block_fits (drop 34 bs) n) x l h in
        let p = and_parts (leb 34 (length bs)) (block_fits (drop 34 bs) n) t.0 in
        same x t.1 (append_same e (leb-true 34 (length bs) p.0) p.1)

    is_append_response : kind bs ≡ 2 → append_response_of bs ≡ some l → Same bs l
    unfolding letter_bytes
    is_append_response e h =
        let x : Letter = append_response (word_at bs 1) (word_at bs 9) in
        let t = let_through (eqb (length bs) 17) x l h in
        same x t.1 (two_numbers 2 e (eqb-true (length bs) 17 t.0), (word_small bs 1 b, word_small bs 9 b))

    is_append_reject : kind bs ≡ 3 → append_reject_of bs ≡ some l → Same bs l
    unfolding letter_bytes
    is_append_reject e h =
        let x : Letter = append_reject (word_at bs 1) (word_at bs 9) (word_at bs 17) in
        let t = let_through (eqb (length bs) 25) x l h in
        same x t.1 (three_numbers 3 e (eqb-true (length bs) 25 t.0), (word_small bs 1 b, word_small bs 9 b, word_small bs 17 b))

    is_request_vote : kind bs ≡ 4 → request_vote_of bs ≡ some l → Same bs l
    unfolding letter_bytes
    is_request_vote e h =
        let x : Letter = request_vote (word_at bs 1) (word_at bs 9) (word_at bs 17) in
        let t = let_through (eqb (length bs) 25) x l h in
        same x t.1 (three_numbers 4 e (eqb-true (length bs) 25 t.0), (word_small bs 1 b, word_small bs 9 b, word_small bs 17 b))

    is_request_vote_response : kind bs ≡ 5 → request_vote_response_of bs ≡ some l → Same bs l
    unfolding letter_bytes
    is_request_vote_response e h =
        let x : Letter = request_vote_response (word_at bs 1) (eqb (get_or bs 9 0) 1) in
        let t = let_through (eqb (length bs) 10 && leb (get_or bs 9 0) 1) x l h in
        let p = and_parts (eqb (length bs) 10) (leb (get_or bs 9 0) 1) t.0 in
        same x t.1 (voted e (eqb-true (length bs) 10 p.0) (leb-true (get_or bs 9 0) 1 p.1), word_small bs 1 b)

    is_term_notice : kind bs ≡ 6 → term_notice_of bs ≡ some l → Same bs l
    unfolding letter_bytes
    is_term_notice e h =
        let x : Letter = term_notice (word_at bs 1) in
        let t = let_through (eqb (length bs) 9) x l h in
        same x t.1 (one_number 6 e (eqb-true (length bs) 9 t.0), word_small bs 1 b)

pub one_to_one : OneToOne
one_to_one bs l b h =
    elim (cases_eq (kind bs) 1) [
      | inl e ↦ is_append bs b l e (sym (kind_1 bs e) ∙ h)
      | inr n₁ ↦
          elim (cases_eq (kind bs) 2) [
            | inl e ↦ is_append_response bs b l e (sym (kind_2 bs e) ∙ h)
            | inr n₂ ↦
                elim (cases_eq (kind bs) 3) [
                  | inl e ↦ is_append_reject bs b l e (sym (kind_3 bs e) ∙ h)
                  | inr n₃ ↦
                      elim (cases_eq (kind bs) 4) [
                        | inl e ↦ is_request_vote bs b l e (sym (kind_4 bs e) ∙ h)
                        | inr n₄ ↦
                            elim (cases_eq (kind bs) 5) [
                              | inl e ↦ is_request_vote_response bs b l e (sym (kind_5 bs e) ∙ h)
                              | inr n₅ ↦
                                  elim (cases_eq (kind bs) 6) [
                                    | inl e ↦ is_term_notice bs b l e (sym (kind_6 bs e) ∙ h)
                                    | inr n₆ ↦ never (sym (kind_none bs n₁ n₂ n₃ n₄ n₅ n₆) ∙ h)
                                  ]
                            ]
                      ]
                ]
          ]
    ]
  where
    never : none ≡ some l → Same bs l
    never e = let z : ◌≡◌ {A = ℕ} 0 1 = cc in absurd (omega arith)
