-- One machine alone, in the theory: with each tick it comes nearer to leading.
use Rattle.std.proofs.Common.{◌≡◌, ℕ, zero, suc, ◌+◌, ◌<◌, ◌≤◌, Bool, true, false, ◌⊎◌, length, sym, refl, ap, ◌∙◌, subst, inl, inr, arith}
use Rattle.std.proofs.lemmas.Bool.{cases_lt, false≢true}
use Rattle.machine.specs.Machine.{Role, follower, candidate, leader, Machine, Outcome}
use Rattle.machine.specs.Step.{on_tick}
use Rattle.machine.proofs.Alone.{alone_waits, alone_elected, alone_leader_tick}
use Rattle.join_several.specs.Stands.{conf}

abbrev pub is_leader : Role → Bool
is_leader follower = false
is_leader (candidate v) = false
is_leader (leader a b) = true

-- a leader, or none
pub record Leads (x : Machine ℕ) : Type 0 where
  pub acked : ℕ → ℕ
  pub nexts : ℕ → ℕ
  pub role : x.role ≡ leader acked nexts

abbrev pub Other : Machine ℕ → Type 0
Other x = (a b : ℕ → ℕ) → x.role ≡ leader a b → ⊥

pub leads_or : (x : Machine ℕ) → Leads x ⊎ Other x
leads_or x = by x.role refl
  where
    by : (r : Role) → x.role ≡ r → Leads x ⊎ Other x
    by follower e = inr (λ a b q. false≢true (ap is_leader (sym e ∙ q)))
    by (candidate v) e = inr (λ a b q. false≢true (ap is_leader (sym e ∙ q)))
    by (leader a b) e = inl (record { acked = a; nexts = b; role = e })

-- A TICK of a machine that holds no more for committed than its log has
module _ (x : Machine ℕ) (within : x.commit ≤ length x.log) where
  abbrev then : Machine ℕ
  then = (on_tick (conf 1) 0 x).now

  tick_leads : Leads x → then ≡ x
  tick_leads l = ap (λ (d : Outcome ℕ). d.now) (alone_leader_tick (conf 1) refl refl x l.acked l.nexts l.role)

  tick_waits : Other x → suc x.elapsed < 10 → (then.role ≡ x.role) × (then.elapsed ≡ suc x.elapsed)
  tick_waits o l =
      let e = alone_waits (conf 1) refl refl x o l in
      (ap (λ (d : Outcome ℕ). d.now.role) e, ap (λ (d : Outcome ℕ). d.now.elapsed) e)

  tick_elected : Other x → 10 ≤ suc x.elapsed → Leads then
  tick_elected o l =
      subst (λ (d : Outcome ℕ). Leads d.now) (sym (alone_elected (conf 1) refl refl x o l within)) (record { acked = _; nexts = _; role = refl })

-- it leads after at most r ticks
abbrev pub Near : ℕ → Machine ℕ → Type 0
Near zero x = Leads x
Near (suc r) x = Leads x ⊎ (9 ≤ x.elapsed + r)

pub near_tick : (r : ℕ) (x : Machine ℕ) → x.commit ≤ length x.log → Near (suc r) x → Near r (on_tick (conf 1) 0 x).now
near_tick r x within near =
    elim (leads_or x) [
      | inl l ↦ leads_near r (subst (λ (y : Machine ℕ). Leads y) (sym (tick_leads x within l)) l)
      | inr o ↦ waiting r o (elim near [ inl l ↦ absurd (o l.acked l.nexts l.role) | inr b ↦ b ])
    ]
  where
    leads_near : {y : Machine ℕ} (r : ℕ) → Leads y → Near r y
    leads_near zero l = l
    leads_near (suc r) l = inl l

    waiting : (r : ℕ) → Other x → 9 ≤ x.elapsed + r → Near r (on_tick (conf 1) 0 x).now
    waiting zero o b = tick_elected x within o (omega arith)
    waiting (suc r) o b =
        elim (cases_lt (suc x.elapsed) 10) [
          | inl l ↦ inr (omega (arith, (tick_waits x within o l).1))
          | inr l ↦ inl (tick_elected x within o l)
        ]
