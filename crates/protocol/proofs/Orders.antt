-- One order: of two that are decided, one begins with the other. Assumes nothing.
use Rattle.std.proofs.Common.{◌≡◌, ℕ, suc, ◌<◌, ◌≤◌, min, List, length, take, sym, ◌∙◌, subst, inl, inr, arith}
use Rattle.std.proofs.lemmas.List.{length-take, get_or-take}
use Rattle.std.proofs.lemmas.Bool.{cases_order}
use mathlib.Core.Option.{none}
use Rattle.protocol.specs.Lists.{All, Apart, Alike}
use Rattle.protocol.specs.Log.{entry, Log, content_at, decisions}
use Rattle.protocol.specs.History.{History, Committed, Front, Decided}
use Rattle.protocol.specs.Invariant.{Inv, Elections, Fresh}
use Rattle.protocol.proofs.Lists.{all_map, alike_swap, alike_nil}
use Rattle.protocol.proofs.Logs.{content_same, covers_content}
use Rattle.protocol.proofs.Matches.{covers_lead}
use Rattle.protocol.proofs.Decisions.{decisions_alike, decisions_same, decisions_all, decisions_apart}
use Rattle.protocol.proofs.Complete.{complete}

module _ (n : ℕ) (g : History) (inv : Inv g) (el : Elections n g) where
  one_way : (t m k t' m' k' : ℕ) → Committed n g t m → k ≤ suc m → Committed n g t' m' → k' ≤ suc m' → t < t' →
      Alike (decisions (take k (g.lead t))) (decisions (take k' (g.lead t')))
  one_way t m k t' m' k' c b c' b' h =
      let v = covers_lead g inv t' m (g.lead t) c'.led (complete n g inv el t m c t' h c'.led) in
      let e = decisions_same k (g.lead t) (g.lead t') (omega (arith, c.within)) (omega (arith, v.long)) (λ i a. covers_content m (g.lead t) (g.lead t') v i (omega arith)) in
      subst (λ (x : List ℕ). Alike x (decisions (take k' (g.lead t')))) (sym e) (decisions_alike (g.lead t') k k')

  both : (t m k t' m' k' : ℕ) → Committed n g t m → k ≤ suc m → Committed n g t' m' → k' ≤ suc m' → Alike (decisions (take k (g.lead t))) (decisions (take k' (g.lead t')))
  both t m k t' m' k' c b c' b' =
      elim (cases_order t t') [
        | inl e ↦ subst (λ (x : ℕ). Alike (decisions (take k (g.lead t))) (decisions (take k' (g.lead x)))) e (decisions_alike (g.lead t) k k')
        | inr (inl h) ↦ one_way t m k t' m' k' c b c' b' h
        | inr (inr h) ↦ alike_swap _ _ (one_way t' m' k' t m k c' b' c b h)
      ]

  fronts_alike : (xs ys : List ℕ) → Front n g xs → Front n g ys → Alike xs ys
  fronts_alike xs ys f e =
      subst (λ (x : List ℕ). Alike x ys) (sym f.is)
      (subst (λ (y : List ℕ). Alike (decisions (take f.upto (g.lead f.term))) y) (sym e.is)
      (both f.term f.at f.upto e.term e.at e.upto f.done f.reach e.done e.reach))

  pub decided_alike : (xs ys : List ℕ) → Decided n g xs → Decided n g ys → Alike xs ys
  decided_alike xs ys (inl e) q = alike_nil xs ys e
  decided_alike xs ys (inr f) (inl e) = alike_swap ys xs (alike_nil ys xs e)
  decided_alike xs ys (inr f) (inr e) = fronts_alike xs ys f e

-- a first part of a log has the log's contents
take_content : (k : ℕ) (l : Log ℕ) (i : ℕ) → i < length (take k l) → (i < length l) × (content_at (take k l) i ≡ content_at l i)
take_content k l i b =
    let e : length (take k l) ≡ min k (length l) = length-take k l in
    (omega arith, content_same _ _ (get_or-take k l i (entry 0 none) (omega arith)))

fronts_once : (n : ℕ) (g : History) → Fresh g → (xs : List ℕ) → Front n g xs → All (λ p. p < g.next) xs × Apart xs
fronts_once n g fr xs f =
    let l = take f.upto (g.lead f.term) in
    let led = f.done.led in
    subst (λ (x : List ℕ). All (λ p. p < g.next) x × Apart x) (sym f.is) (
      decisions_all (λ p. p < g.next) (take f.upto (g.lead f.term))
          (λ i p b z. let r = take_content f.upto (g.lead f.term) i b in fr.low f.term led i p r.0 (sym r.1 ∙ z)),
      decisions_apart (take f.upto (g.lead f.term))
          (λ i k p h b x y.
          let q = take_content f.upto (g.lead f.term) i (omega arith) in
          let r = take_content f.upto (g.lead f.term) k b in
          fr.apart f.term led i k p h r.0 (sym q.1 ∙ x) (sym r.1 ∙ y)),
    )

pub decided_once_below : (n : ℕ) (g : History) (k : ℕ) (xs : List ℕ) → Fresh g → g.next ≤ k → Decided n g xs → All (λ p. p < k) xs × Apart xs
decided_once_below n g k xs fr b (inl e) = subst (λ (x : List ℕ). All (λ p. p < k) x × Apart x) (sym e) (tt, tt)
decided_once_below n g k xs fr b (inr f) =
    let r = fronts_once n g fr xs f in
    (all_map (λ p. p < g.next) (λ p. p < k) (λ p h. omega arith) xs r.0, r.1)
