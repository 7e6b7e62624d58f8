-- Leader completeness. Assumes nothing.
use Rattle.std.proofs.Common.{◌≡◌, ℕ, zero, suc, ◌<◌, true, ltb, arith}
use Rattle.std.proofs.lemmas.Bool.{ltb-true}
use Rattle.protocol.specs.Log.{Covers}
use Rattle.protocol.specs.History.{History, Committed}
use Rattle.protocol.specs.Invariant.{AllCover, Inv, Elections}
use Rattle.protocol.specs.Theorems.{CompleteStep}
use Rattle.protocol.proofs.Quorums.{majorities_meet}

-- who meets whom is no matter here
pub complete_step : CompleteStep
complete_step g t m v j inv h o a y all = inv.vote_cover v j t m y h a o all

module _ (n : ℕ) (g : History) (inv : Inv g) (el : Elections n g) (t m : ℕ) (done : Committed n g t m) where
  -- the one place where two lots of more than half meet
  step : (v : ℕ) → t < v → g.elected v ≡ true → AllCover g (g.lead t) m t v → Covers m (g.lead t) (g.cand v)
  step v h e all =
      let b = majorities_meet n (λ j. ltb m (g.acked t j)) (g.voted v) done.most (el.most v e) in
      complete_step g t m v b.0 inv h done.own_term (ltb-true m (g.acked t b.0) b.1) b.2 all

  below : (b v : ℕ) → v < b → t < v → g.elected v ≡ true → Covers m (g.lead t) (g.cand v)
  below zero v l h e = absurd (omega arith)
  below (suc b) v l h e = step v h e (λ u lo hi k. below b u (omega arith) lo k)

  pub complete : (v : ℕ) → t < v → g.elected v ≡ true → Covers m (g.lead t) (g.cand v)
  complete v h e = below (suc v) v (omega arith) h e
