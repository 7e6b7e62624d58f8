-- The letters that a machine sends: their bytes on the wire stand for the theory's letters.
use Rattle.std.proofs.Common.{◌≡◌, ℕ, zero, suc, List, [], ◌∷◌, ◌++◌, map, take, sym, refl, ap, subst, inl, inr}
use Rattle.messages.specs.Letter.{letter_bytes, LetterFits}
use Rattle.messages.proofs.RoundTrip.{round_trip, letters_short}
use Rattle.raft.specs.Outbox.{Mail as DueMail}
use Rattle.protocol.specs.Lists.{In, All}
use Rattle.machine.specs.Machine.{Out}
use Rattle.machine.specs.Maps.{map_out}
use Rattle.machine.specs.World.{World as Theory, Mail, mail, post}
use Rattle.join_several.specs.Does.{lift_mail}
use Rattle.together.specs.House.{each, nth_value}
use Rattle.together.specs.Promise.{Letter as Wire, letter, flown}
use Rattle.whole_several.proofs.Joined.{Agrees, Carried, Boxes}
use Rattle.together.proofs.Lists.{are_bytes_from}
use Rattle.together.proofs.Lists.{head_same, tail_same, not_same}

pub in_left : {A : Type 0} (x : A) (xs ys : List A) → In x xs → In x (xs ++ ys)
in_left x [] ys i = absurd i
in_left x (y ∷ zs) ys (inl e) = inl e
in_left x (y ∷ zs) ys (inr i) = inr (in_left x zs ys i)

pub in_right : {A : Type 0} (x : A) (xs ys : List A) → In x ys → In x (xs ++ ys)
in_right x [] ys i = i
in_right x (y ∷ zs) ys i = inr (in_right x zs ys i)

-- letters as they fly
abbrev pub as_wire : DueMail → Wire
as_wire l = letter l.to (letter_bytes l.letter)

abbrev pub MailFits : DueMail → Type 0
MailFits l = LetterFits l.letter

-- what was proposed agrees with itself
pub agrees_self : (ps : List (List ℕ)) → Agrees (nth_value ps) ps
agrees_self ps i l = refl

module _ (h : ℕ) (ps : List (List ℕ)) (w : Theory) where
  -- one letter
  carried_one : (l : DueMail) (o : Out ℕ) → ((g : ℕ → List ℕ) → Agrees g ps → lift_mail l ≡ map_out g o) → MailFits l → In (mail h o.to o.letter) w.network →
      Carried ps w (record { by_whom = h; what = as_wire l })
  carried_one l o e f i =
      let short = letters_short l.letter f in
      let to : l.to ≡ o.to = ap (λ (x : Out (List ℕ)). x.to) (e (nth_value ps) (agrees_self ps)) in
      record {
        message = l.letter;
        letter = o.letter;
        bytes = are_bytes_from (letter_bytes l.letter) short.0;
        reads = round_trip l.letter f;
        fits = f;
        flew = subst (λ (j : ℕ). In (mail h j o.letter) w.network) (sym to) i;
        means = λ g a. ap (λ (x : Out (List ℕ)). x.letter) (e g a);
      }

  -- the first k of those that are due
  pub carried_all :
      (k : ℕ) (ls : List DueMail) (os : List (Out ℕ)) → ((g : ℕ → List ℕ) → Agrees g ps → map lift_mail ls ≡ map (map_out g) os) → All MailFits ls →
      ((l : Mail) → In l (post h (take k os)) → In l w.network) → All (Carried ps w) (flown h (each as_wire (take k ls)))
  unfolding each post
  carried_all zero ls os e f i = tt
  carried_all (suc k) [] os e f i = tt
  carried_all (suc k) (l ∷ ls) [] e f i = absurd (not_same (e (nth_value ps) (agrees_self ps)))
  carried_all (suc k) (l ∷ ls) (o ∷ os) e f i = (
    carried_one l o (λ g a. head_same (e g a)) f.0 (i (mail h o.to o.letter) (inl refl)),
    carried_all k ls os (λ g a. tail_same (e g a)) f.1 (λ x q. i x (inr q)),
  )

  -- all of them, in order
  pub boxes_all :
      (ls : List DueMail) (os : List (Out ℕ)) → ((g : ℕ → List ℕ) → Agrees g ps → map lift_mail ls ≡ map (map_out g) os) → All MailFits ls →
      ((l : Mail) → In l (post h os) → In l w.network) → Boxes ps w (flown h (each as_wire ls)) (post h os)
  unfolding each post carried_one
  boxes_all [] [] e f i = tt
  boxes_all [] (o ∷ os) e f i = absurd (not_same (sym (e (nth_value ps) (agrees_self ps))))
  boxes_all (l ∷ ls) [] e f i = absurd (not_same (e (nth_value ps) (agrees_self ps)))
  boxes_all (l ∷ ls) (o ∷ os) e f i = (
    record {
      carried = carried_one l o (λ g a. head_same (e g a)) f.0 (i (mail h o.to o.letter) (inl refl));
      same = ap (λ (j : ℕ). mail h j o.letter) (ap (λ (x : Out (List ℕ)). x.to) (head_same (e (nth_value ps) (agrees_self ps))));
    },
    boxes_all ls os (λ g a. tail_same (e g a)) f.1 (λ x q. i x (inr q)),
  )
