-- Each voter counts once, and a vote that is decided stays decided.
use Rattle.std.proofs.Common.{◌≡◌, ℕ, zero, suc, ◌+◌, ◌*◌, ◌<◌, ◌≤◌, Bool, true, false, cond, List, [], ◌∷◌, take, Some, None, Option, refl, ap, arith}
use Rattle.std.proofs.lemmas.Bool.Decides.{nat_tests}
use Rattle.std.proofs.lemmas.List.Sums.{sum_by-cons}
use Rattle.tracker.specs.Majority.{vote_result}
use Rattle.tracker.specs.Votes.{stands, recorded, answers_so, count_of}
use Rattle.tracker.specs.Cases.{Once, CountedOnce, WonByMore, DecidedStays}
use Rattle.tracker.specs.declared.majority.VoteResult.TheVariants.{Lost, Won}

pub once : Once
unfolding Once
once [] voter first second = refl
once (None ∷ answers) zero first second = refl
once (Some given ∷ answers) zero first second = refl
once (answer ∷ answers) (suc voter) first second = ap (λ rest. answer ∷ rest) (once answers voter first second)

-- what one answer adds
abbrev weight : Bool → Option Bool → ℕ
weight granted answer = cond (answers_so granted answer) 1 0

count_cons : (granted : Bool) (answer : Option Bool) (answers : List (Option Bool)) (size : ℕ) →
    count_of granted (answer ∷ answers) (suc size) ≡ weight granted answer + count_of granted answers size
count_cons granted answer answers size = sum_by-cons (weight granted) answer (take size answers)

one_answer : (answer : Option Bool) → weight true answer + weight false answer ≤ 1
one_answer None = omega arith
one_answer (Some true) = omega arith
one_answer (Some false) = omega arith

pub counted_once : CountedOnce
unfolding CountedOnce
counted_once answers zero = omega arith
counted_once [] (suc size) = omega arith
counted_once (answer ∷ answers) (suc size) =
    omega (arith, count_cons true answer answers size, count_cons false answer answers size, one_answer answer, counted_once answers size)

stands_weight : (granted : Bool) (answer : Option Bool) (later : Bool) → weight granted answer ≤ weight granted (stands answer later)
stands_weight granted None later = omega arith
stands_weight granted (Some given) later = omega arith

-- an answer more takes none away
count_grows : (granted : Bool) (answers : List (Option Bool)) (voter : ℕ) (later : Bool) (size : ℕ) → count_of granted answers size ≤ count_of granted (recorded answers voter later) size
count_grows granted answers voter later zero = omega arith
count_grows granted [] voter later (suc size) = omega arith
count_grows granted (answer ∷ answers) zero later (suc size) =
    omega (arith, count_cons granted answer answers size, count_cons granted (stands answer later) answers size, stands_weight granted answer later)
count_grows granted (answer ∷ answers) (suc voter) later (suc size) =
    omega (
      arith,
      count_cons granted answer answers size,
      count_cons granted answer (recorded answers voter later) size,
      count_grows granted answers voter later size,
    )

won_more : (size granted refused : ℕ) → 0 < size → vote_result size granted refused ≡ Won → size < 2 * granted
won_more size granted refused some won = grind (arith, nat_tests)

-- more answers, and no more of them than voters
module _ (size granted refused granted₁ refused₁ : ℕ) where
  won_stays : granted ≤ granted₁ → vote_result size granted refused ≡ Won → vote_result size granted₁ refused₁ ≡ Won
  won_stays g won = grind (arith, nat_tests)

  lost_stays : refused ≤ refused₁ → granted₁ + refused₁ ≤ size → vote_result size granted refused ≡ Lost → vote_result size granted₁ refused₁ ≡ Lost
  lost_stays r most lost = grind (arith, nat_tests)

pub won_by_more : WonByMore
unfolding WonByMore
won_by_more answers size some won = won_more size (count_of true answers size) (count_of false answers size) some won

pub decided_stays : DecidedStays
unfolding DecidedStays CountedOnce
decided_stays answers size voter granted =
    let later = recorded answers voter granted in (
      won_stays size _ _ _ _ (count_grows true answers voter granted size),
      lost_stays size _ _ _ _ (count_grows false answers voter granted size) (counted_once later size),
    )
