-- What machines hold for decided are first decisions of one order. Assumes nothing.
use Rattle.std.proofs.Common.{◌≡◌, ℕ, ◌<◌, ◌≤◌, ltb, List, [], ◌++◌, length, take, sym, ap, subst, inl, inr, arith}
use Rattle.std.proofs.lemmas.Bool.{ltb-true, ltb-false}
use Rattle.protocol.specs.Lists.{Begins, Alike}
use Rattle.protocol.specs.Log.{Log, content_at, decisions}
use Rattle.protocol.specs.History.{History, Decided}
use Rattle.protocol.specs.Letters.{Known}
use Rattle.protocol.proofs.Updates.{pick_both}
use Rattle.protocol.proofs.Lists.{begins_refl, begins_shorter}
use Rattle.protocol.proofs.Decisions.{decisions_take, decisions_same}
use Rattle.protocol.proofs.Commits.{known_decided}
use Rattle.machine.specs.Machine.{Machine, decided}
use Rattle.machine.specs.World.{longer}

pub decided_is : (n : ℕ) (g : History) (m : Machine ℕ) → Known n g m.term m.commit m.log → Decided n g (decided m)
unfolding decided
decided_is n g m d = known_decided n g m.term m.commit m.log d

pub decided_longer : (n : ℕ) (g : History) (xs ys : List ℕ) → Decided n g xs → Decided n g ys → Decided n g (longer xs ys)
unfolding longer
decided_longer n g xs ys p q = pick_both (Decided n g) _ _ _ (λ _. q) (λ _. p)

-- the longer of two that are alike begins with both
pub longer_begins : (xs ys : List ℕ) → Alike xs ys → Begins xs (longer xs ys) × Begins ys (longer xs ys)
unfolding Alike longer
longer_begins xs ys (inl h) =
    pick_both (λ (z : List ℕ). Begins xs z × Begins ys z) (ltb (length xs) (length ys)) ys xs
    (λ e. (h, begins_refl ys)) (λ e. (begins_refl xs, begins_shorter xs ys (ltb-false (length xs) (length ys) e) h))
longer_begins xs ys (inr h) =
    pick_both (λ (z : List ℕ). Begins xs z × Begins ys z) (ltb (length xs) (length ys)) ys xs
    (λ e. (begins_shorter ys xs (omega (arith, ltb-true (length xs) (length ys) e)) h, begins_refl ys)) (λ e. (begins_refl xs, h))

-- one after another, entry by entry
pub take_begins : (k i : ℕ) (l p : Log ℕ) → k ≤ length l → i ≤ length p → k ≤ i → ((x : ℕ) → x < k → content_at l x ≡ content_at p x) → Begins (decisions (take k l)) (decisions (take i p))
take_begins k i l p b b' h s =
    subst (λ (x : List ℕ). Begins x (decisions (take i p))) (sym (decisions_same k l p b (omega arith) (λ x c. sym (s x c)))) (decisions_take p k i h)

-- every list begins with the empty one
pub none_begins : (xs ys : List ℕ) → xs ≡ [] → Begins xs ys
unfolding Begins
none_begins xs ys e = (ys, ap (λ (x : List ℕ). x ++ ys) e)
