-- Entries that come with an append are those that the log has, where the terms are the same. Assumes nothing.
use Rattle.std.proofs.Common.{◌≡◌, ℕ, ◌+◌, ◌<◌, true, length, sym, ap, ◌∙◌, subst, arith}
use Rattle.protocol.specs.Lists.{In}
use Rattle.protocol.specs.Log.{Log, entry_at, term_at}
use Rattle.protocol.specs.History.{History}
use Rattle.protocol.specs.Invariant.{Matching, Inv}
use Rattle.protocol.specs.State.{State, Sound, PartOf}
use Rattle.protocol.proofs.Lists.{all_in}
use Rattle.protocol.proofs.Logs.{term_same}
use Rattle.machine.specs.Machine.{Conf, append}
use Rattle.machine.specs.World.{mail, World, Reachable}
use Rattle.machine.specs.Fits.{TrueMail, state_of}
use Rattle.machine.proofs.Theorems.{reachable_refines}

-- two logs that match have the same entry at a place where they have the same term
pub matching_agree : (g : History) (l h : Log ℕ) (i : ℕ) → Matching g l → Matching g h → i < length l → i < length h → term_at l i ≡ term_at h i → entry_at l i ≡ entry_at h i
matching_agree g l h i p q a b e =
    (p i a).same i (omega arith) ∙ ap (λ (t : ℕ). entry_at (g.lead t) i) e ∙ sym ((q i b).same i (omega arith))

-- and so has a log that matches, and a part of a leader's log
part_agree : (g : History) → Inv g → (t p : ℕ) (l es : Log ℕ) (i : ℕ) → Matching g l → PartOf g t p es → i < length es → p + i < length l → term_at l (p + i) ≡ term_at es i →
    entry_at l (p + i) ≡ entry_at es i
part_agree g inv t p l es i good part a b e =
    let is : entry_at es i ≡ entry_at (g.lead t) (p + i) = part.same i a in
    matching_agree g l (g.lead t) (p + i) good (inv.match_lead t part.led) b (omega (arith, part.within)) (e ∙ term_same _ _ is) ∙ sym is

pub appends_agree : (c : Conf) (w : World) → Reachable c w → (j f t p q k : ℕ) (es : Log ℕ) → w.up j ≡ true → In (mail f j (append t p q k es)) w.network →
    (i : ℕ) → i < length es → p + i < length (w.memory j).log → term_at (w.memory j).log (p + i) ≡ term_at es i → entry_at (w.memory j).log (p + i) ≡ entry_at es i
appends_agree c w r j f t p q k es u flew i a b e =
    let s = reachable_refines c w r in
    let x = s.to in
    let good : Sound c.size x.history j (state_of (w.memory j)) =
    subst (λ (z : State). Sound c.size x.history j z) (s.refines.memory_fits j u).now (s.refines.safe.now_sound j) in
    part_agree x.history s.refines.safe.inv t p (w.memory j).log es i good.matching
    (all_in (TrueMail c.size x.history) (mail f j (append t p q k es)) w.network s.refines.letters flew).part a b e
