-- What the bytes of each kind are read as.
use Rattle.std.proofs.Common.{◌≡◌, ℕ, ◌≤◌, Bool, true, false, ◌&&◌, leb, List, length, get_or, drop, Option as Maybe, Result, Ok, Err, is_ok, inl, inr, sym, ap, ◌∙◌, subst, arith}
use mathlib.Core.Option.{Option, none, some}
use Rattle.std.proofs.lemmas.List.{get_or_past}
use Rattle.std.proofs.lemmas.Bool.{le-leb, ne_eqb, and_from, and_right, cond-true, cond-false}
use Rattle.raft_log.specs.Bytes.{word_at}
use Rattle.raft_log.specs.Block.{Entry, block_entries, block_fits}
use Rattle.messages.specs.declared.Message.{Message}
use Rattle.messages.specs.Letter.{Letter, append, append_of, append_response_of, append_reject_of, request_vote_of, request_vote_response_of, term_notice_of, kind, letter_of}
use Rattle.messages.specs.declared.kind.Kind.{Kind}
use Rattle.messages.specs.declared.kind.UnknownKind.{UnknownKind}
use Rattle.messages.specs.Kind.{Decodes}
use Rattle.messages.specs.Message.{Gives}

abbrev append_test : List ℕ → Bool
append_test bs = leb 34 (length bs) && block_fits (drop 34 bs) (get_or bs 33 0)

abbrev append_read : List ℕ → Letter
append_read bs = append (word_at bs 1) (word_at bs 9) (word_at bs 17) (word_at bs 25) (block_entries (drop 34 bs) (get_or bs 33 0))

module _ (bs v : List ℕ) (n : ℕ) (b : Bool) (part : v ≡ drop 34 bs) (count : n ≡ get_or bs 33 0) (test : b ≡ block_fits v n) where
  block_test : block_fits (drop 34 bs) (get_or bs 33 0) ≡ b
  block_test = sym (test ∙ (ap (λ x. block_fits x n) part ∙ ap (block_fits (drop 34 bs)) count))

  pub append_none : b ≡ false → append_of bs ≡ none
  append_none h =
      cond-false (append_test bs) (some (append_read bs)) none (and_right (leb 34 (length bs)) (block_fits (drop 34 bs) (get_or bs 33 0)) (block_test ∙ h))

  pub append_some : (t p q k : ℕ) → 34 ≤ length bs → b ≡ true → t ≡ word_at bs 1 → p ≡ word_at bs 9 → q ≡ word_at bs 17 → k ≡ word_at bs 25 →
      append_of bs ≡ some (append t p q k (block_entries (drop 34 bs) n))
  append_some t p q k l h et ep eq ek =
      cond-true (append_test bs) (some (append_read bs)) none
      (and_from (leb 34 (length bs)) (block_fits (drop 34 bs) (get_or bs 33 0)) (le-leb 34 (length bs) l) (block_test ∙ h))
      ∙ sym (rw (et, ep, eq, ek, count))

pub gives : (l l₁ : Option Letter) (r : Maybe (Message (List Entry))) → l₁ ≡ l → Gives l r → Gives l₁ r
gives l l₁ r e h = subst (λ (x : Option Letter). Gives x r) (sym e) h

module _ (bs : List ℕ) where
  pub kind_1 : kind bs ≡ 1 → letter_of bs ≡ append_of bs
  unfolding letter_of
  kind_1 e = rw e

  pub kind_2 : kind bs ≡ 2 → letter_of bs ≡ append_response_of bs
  unfolding letter_of
  kind_2 e = rw e

  pub kind_3 : kind bs ≡ 3 → letter_of bs ≡ append_reject_of bs
  unfolding letter_of
  kind_3 e = rw e

  pub kind_4 : kind bs ≡ 4 → letter_of bs ≡ request_vote_of bs
  unfolding letter_of
  kind_4 e = rw e

  pub kind_5 : kind bs ≡ 5 → letter_of bs ≡ request_vote_response_of bs
  unfolding letter_of
  kind_5 e = rw e

  pub kind_6 : kind bs ≡ 6 → letter_of bs ≡ term_notice_of bs
  unfolding letter_of
  kind_6 e = rw e

  pub kind_none : (kind bs ≡ 1 → ⊥) → (kind bs ≡ 2 → ⊥) → (kind bs ≡ 3 → ⊥) → (kind bs ≡ 4 → ⊥) → (kind bs ≡ 5 → ⊥) → (kind bs ≡ 6 → ⊥) → letter_of bs ≡ none
  unfolding letter_of
  kind_none a b c d e f =
      rw (ne_eqb (kind bs) 1 a, ne_eqb (kind bs) 2 b, ne_eqb (kind bs) 3 c, ne_eqb (kind bs) 4 d, ne_eqb (kind bs) 5 e, ne_eqb (kind bs) 6 f)

  pub empty_none : length bs ≡ 0 → letter_of bs ≡ none
  empty_none l =
      let k : kind bs ≡ 0 = get_or_past bs 0 0 (omega arith) in
      kind_none (λ e. omega arith) (λ e. omega arith) (λ e. omega arith) (λ e. omega arith) (λ e. omega arith) (λ e. omega arith)

-- a byte that is no kind begins no letter
pub no_kind : (bs : List ℕ) (r : Result Kind UnknownKind) → Decodes (kind bs) r → false ≡ is_ok r → letter_of bs ≡ none
no_kind bs (Ok k) d e = cc
no_kind bs (Err x) d e =
    elim d [
      | inl z ↦ kind_none bs (λ e. omega arith) (λ e. omega arith) (λ e. omega arith) (λ e. omega arith) (λ e. omega arith) (λ e. omega arith)
      | inr l ↦ kind_none bs (λ e. omega arith) (λ e. omega arith) (λ e. omega arith) (λ e. omega arith) (λ e. omega arith) (λ e. omega arith)
    ]
