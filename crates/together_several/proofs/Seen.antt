-- Bytes that were seen one after the other.
use Rattle.std.proofs.Common.{◌≡◌, ℕ, ◌+◌, ◌<◌, ◌≤◌, true, ltb, List, [], ◌∷◌, length, get_or, take, sym, refl, subst}
use mathlib.Core.Option.{none}
use Rattle.std.proofs.lemmas.List.{take_more, take_all}
use Rattle.std.proofs.lemmas.Bool.{lt-ltb, cond-true, and_from}
use Rattle.messages.specs.Letter.{letter_of}
use Rattle.together.specs.House.{every}
use Rattle.together.specs.Promise.{are_bytes}
use Rattle.together_several.specs.Machine.{letter_come}
use Rattle.together.proofs.Lists.{every_append}

pub bytes_none : (bs : List ℕ) → are_bytes (take 0 bs) ≡ true
unfolding every
bytes_none bs = refl

one_byte : (b : ℕ) → b < 256 → are_bytes (b ∷ []) ≡ true
unfolding every
one_byte b l = and_from (ltb b 256) true (lt-ltb b 256 l) refl

pub bytes_more : (bs : List ℕ) (i : ℕ) → i < length bs → are_bytes (take i bs) ≡ true → get_or bs i 0 < 256 → are_bytes (take (i + 1) bs) ≡ true
bytes_more bs i l h b =
    subst (λ (xs : List ℕ). are_bytes xs ≡ true) (sym (take_more bs i 0 l))
    (every_append (λ b₁. ltb b₁ 256) (take i bs) (get_or bs i 0 ∷ []) h (one_byte (get_or bs i 0) b))

pub bytes_all : (bs : List ℕ) (i : ℕ) → length bs ≤ i → are_bytes (take i bs) ≡ true → are_bytes bs ≡ true
bytes_all bs i l h = subst (λ (xs : List ℕ). are_bytes xs ≡ true) (take_all i bs l) h

-- bytes that came are the letter that they are
pub letter_come_is : (bs : List ℕ) → are_bytes bs ≡ true → letter_come bs ≡ letter_of bs
letter_come_is bs h = cond-true (are_bytes bs) (letter_of bs) none h
