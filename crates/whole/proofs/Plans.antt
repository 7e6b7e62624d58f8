-- A run of an engine whose acts are planned: what is still to be done is a list that memory determines, and each step does the first of them.
use Rattle.std.proofs.Common.{◌≡◌, ℕ, zero, suc, ◌<◌, ◌≤◌, Bool, true, false, ◌&&◌, eqb, leb, ◌⊎◌, List, [], ◌∷◌, ◌++◌, length, sym, refl, ap, ◌∙◌, subst, inl, inr, arith}
use Rattle.std.proofs.lemmas.List.{append_assoc, append-nil}
use Rattle.raft.specs.declared.proposal.Refusal.{Refusal}
use Rattle.raft.specs.declared.proposal.Refusal.TheVariants.{NotNow, TooLong, Full}
use Rattle.raft.specs.Proposal.{refusal_number}
use Rattle.together.specs.House.{pick, none_of, Applied, applied}
use Rattle.together.proofs.Lists.{no_way}
use Rattle.together.specs.Promise.{Engine, Event, next, Act, flies, settle, applies, shows, done, refused, Step, Letter, letter, are_bytes, Ran, ran, runs, one_act}
use Rattle.together.specs.Machine.{answer}

-- an act that may stand in a plan: a letter that can fly, a settle, a decision
abbrev pub PlannedAct : Act → Type 0
PlannedAct (flies t bs) = (leb (length bs) 4096 && are_bytes bs) ≡ true
PlannedAct settle = Unit {0}
PlannedAct (applies k v) = Unit {0}
PlannedAct (shows n) = ⊥
PlannedAct done = ⊥
PlannedAct (refused k) = ⊥

-- the letters and the decisions of a plan
unfoldable pub letters_in : List Act → List Letter
letters_in [] = []
letters_in (flies t bs ∷ as₁) = letter t bs ∷ letters_in as₁
letters_in (settle ∷ as₁) = letters_in as₁
letters_in (applies k v ∷ as₁) = letters_in as₁
letters_in (shows n ∷ as₁) = letters_in as₁
letters_in (done ∷ as₁) = letters_in as₁
letters_in (refused k ∷ as₁) = letters_in as₁

unfoldable pub decisions_in : List Act → List Applied
decisions_in [] = []
decisions_in (flies t bs ∷ as₁) = decisions_in as₁
decisions_in (settle ∷ as₁) = decisions_in as₁
decisions_in (applies k v ∷ as₁) = applied k v ∷ decisions_in as₁
decisions_in (shows n ∷ as₁) = decisions_in as₁
decisions_in (done ∷ as₁) = decisions_in as₁
decisions_in (refused k ∷ as₁) = decisions_in as₁

-- does a step of the plan make memory safe?
abbrev pub settles : Act → Bool
settles (flies t bs) = false
settles settle = true
settles (applies k v) = false
settles (shows n) = false
settles done = false
settles (refused k) = false

-- ENGINE e keeps to a plan: `acts m` is still to be done, and `rest m` is memory after the first of it; fit holds of memories that it speaks of
pub record Planned (e : Engine) (fit : List ℕ → Type 0) (acts : List ℕ → List Act) (rest : List ℕ → List ℕ) : Type 0 where
  pub none : (m : List ℕ) → fit m → acts m ≡ [] → e.step m next ≡ answer m done
  pub some : (m : List ℕ) (a : Act) (as₁ : List Act) → fit m → acts m ≡ a ∷ as₁ → e.step m next ≡ answer (rest m) a
  pub then : (m : List ℕ) (a : Act) (as₁ : List Act) → fit m → acts m ≡ a ∷ as₁ → acts (rest m) ≡ as₁
  pub fits : (m : List ℕ) (a : Act) (as₁ : List Act) → fit m → acts m ≡ a ∷ as₁ → fit (rest m)
  pub good : (m : List ℕ) (a : Act) (as₁ : List Act) → fit m → acts m ≡ a ∷ as₁ → PlannedAct a

module _ (rest : List ℕ → List ℕ) where
  -- memory and what is stable after at most n acts
  unfoldable pub memory_after : ℕ → List Act → List ℕ → List ℕ
  memory_after zero as₁ m = m
  memory_after (suc n) [] m = m
  memory_after (suc n) (a ∷ as₁) m = memory_after n as₁ (rest m)

  unfoldable pub stable_after : ℕ → List Act → List ℕ → List ℕ → List ℕ
  stable_after zero as₁ m s = s
  stable_after (suc n) [] m s = s
  stable_after (suc n) (a ∷ as₁) m s = stable_after n as₁ (rest m) (pick (settles a) (rest m) s)

-- how it ends: done, or cut before that
unfoldable pub end_after : ℕ → List Act → ℕ
end_after zero as₁ = 1000
end_after (suc n) [] = 0
end_after (suc n) (a ∷ as₁) = end_after n as₁

-- what at most n acts of a plan make
unfoldable pub first_acts : ℕ → List Act → List Act
first_acts zero as₁ = []
first_acts (suc n) [] = []
first_acts (suc n) (a ∷ as₁) = a ∷ first_acts n as₁

module _ (e : Engine) (fit : List ℕ → Type 0) (acts : List ℕ → List Act) (rest : List ℕ → List ℕ) (p : Planned e fit acts rest) where
  abbrev pub outcome : ℕ → List Act → List ℕ → List ℕ → List Letter → List Applied → List ℕ → Ran
  outcome n as₁ m s fs ds ss =
      ran (memory_after rest n as₁ m) (stable_after rest n as₁ m s) (fs ++ letters_in (first_acts n as₁)) (ds ++ decisions_in (first_acts n as₁)) ss (end_after n as₁)

  module _ (m s : List ℕ) (fs : List Letter) (ds : List Applied) (ss : List ℕ) (n : ℕ) where
    abbrev go : List ℕ → List ℕ → List Letter → List Applied → List ℕ → Ran
    go m₁ s₁ fs₁ ds₁ ss₁ = runs n e m₁ s₁ next fs₁ ds₁ ss₁

    one_more : (a : Act) (as₁ : List Act) → PlannedAct a →
        ((s₁ : List ℕ) (fs₁ : List Letter) (ds₁ : List Applied) → runs n e (rest m) s₁ next fs₁ ds₁ ss ≡ outcome n as₁ (rest m) s₁ fs₁ ds₁ ss) →
        one_act go s fs ds ss (rest m) a ≡ outcome (suc n) (a ∷ as₁) m s fs ds ss
    unfolding one_act memory_after stable_after end_after first_acts letters_in decisions_in
    one_more (flies t bs) as₁ ok h =
        ap (λ b. pick b (go (rest m) s (fs ++ letter t bs ∷ []) ds ss) (ran (rest m) s fs ds ss 1001)) ok
        ∙ (h s (fs ++ letter t bs ∷ []) ds ∙ ap (λ x. ran (memory_after rest n as₁ (rest m)) (stable_after rest n as₁ (rest m) s) x (ds ++ decisions_in (first_acts n as₁)) ss (end_after n as₁)) (append_assoc fs (letter t bs ∷ []) (letters_in (first_acts n as₁))))
    one_more settle as₁ ok h = h (rest m) fs ds
    one_more (applies k v) as₁ ok h =
        h s fs (ds ++ applied k v ∷ [])
        ∙ ap (λ x. ran (memory_after rest n as₁ (rest m)) (stable_after rest n as₁ (rest m) s) (fs ++ letters_in (first_acts n as₁)) x ss (end_after n as₁)) (append_assoc ds (applied k v ∷ []) (decisions_in (first_acts n as₁)))
    one_more (shows k) as₁ ok h = absurd ok
    one_more done as₁ ok h = absurd ok
    one_more (refused k) as₁ ok h = absurd ok

  -- a run goes by the plan
  pub runs_planned : (n : ℕ) (as₁ : List Act) (m s : List ℕ) (fs : List Letter) (ds : List Applied) (ss : List ℕ) → fit m → acts m ≡ as₁ →
      runs n e m s next fs ds ss ≡ outcome n as₁ m s fs ds ss
  unfolding runs one_act memory_after stable_after end_after first_acts letters_in decisions_in
  runs_planned zero as₁ m s fs ds ss f eq = rw (append-nil fs, append-nil ds)
  runs_planned (suc n) [] m s fs ds ss f eq =
      ap (λ (x : Step). one_act (go m s fs ds ss n) s fs ds ss x.memory x.act) (p.none m f eq) ∙ ended
    where
      ended : one_act (go m s fs ds ss n) s fs ds ss m done ≡ outcome (suc n) [] m s fs ds ss
      ended = rw (append-nil fs, append-nil ds)
  runs_planned (suc n) (a ∷ as₁) m s fs ds ss f eq =
      ap (λ (x : Step). one_act (go m s fs ds ss n) s fs ds ss x.memory x.act) (p.some m a as₁ f eq)
      ∙ one_more m s fs ds ss n a as₁ (p.good m a as₁ f eq) (λ s₁ fs₁ ds₁. runs_planned n as₁ (rest m) s₁ fs₁ ds₁ ss (p.fits m a as₁ f eq) (p.then m a as₁ f eq))

  -- an event that changes memory to m₁ and then goes on
  pub runs_event : (n : ℕ) (ev : Event) (m m₁ s : List ℕ) → fit m₁ → e.step m ev ≡ e.step m₁ next → runs (suc n) e m s ev [] [] [] ≡ outcome (suc n) (acts m₁) m₁ s [] [] []
  unfolding runs
  runs_event n ev m m₁ s f eq = first ∙ runs_planned (suc n) (acts m₁) m₁ s [] [] [] f refl
    where
      first : runs (suc n) e m s ev [] [] [] ≡ runs (suc n) e m₁ s next [] [] []
      first = ap (λ (x : Step). one_act (go m s [] [] [] n) s [] [] [] x.memory x.act) eq

-- enough acts end it
pub end_done : (n : ℕ) (as₁ : List Act) → length as₁ < n → end_after n as₁ ≡ 0
unfolding end_after
end_done zero as₁ l = absurd (omega arith)
end_done (suc n) [] l = refl
end_done (suc n) (a ∷ as₁) l = end_done n as₁ (omega arith)

-- with fewer it is cut
pub end_cut : (n : ℕ) (as₁ : List Act) → n ≤ length as₁ → end_after n as₁ ≡ 1000
unfolding end_after
end_cut zero as₁ l = refl
end_cut (suc n) [] l = absurd (omega arith)
end_cut (suc n) (a ∷ as₁) l = end_cut n as₁ (omega arith)

pub end_either : (n : ℕ) (as₁ : List Act) → (end_after n as₁ ≡ 0) ⊎ (end_after n as₁ ≡ 1000)
unfolding end_after
end_either zero as₁ = inr refl
end_either (suc n) [] = inl refl
end_either (suc n) (a ∷ as₁) = end_either n as₁

pub first_all : (n : ℕ) (as₁ : List Act) → length as₁ ≤ n → first_acts n as₁ ≡ as₁
unfolding first_acts
first_all zero [] l = refl
first_all zero (a ∷ as₁) l = absurd (omega arith)
first_all (suc n) [] l = refl
first_all (suc n) (a ∷ as₁) l = ap (λ x. a ∷ x) (first_all n as₁ (omega arith))

-- WHAT A MEMORY DOES NEXT: an act of its plan, and the plan goes on from the memory after it; or it is done
pub data Turn (go : List ℕ → Step) (fit : List ℕ → Type 0) (acts : List ℕ → List Act) (m : List ℕ) : Type 0 where
  acting : (m₁ : List ℕ) (a : Act) → fit m₁ → PlannedAct a → go m ≡ answer m₁ a → acts m ≡ a ∷ acts m₁ → Turn go fit acts m
  ending : go m ≡ answer m done → acts m ≡ [] → Turn go fit acts m

module _ (e : Engine) (go : List ℕ → Step) (fit : List ℕ → Type 0) (acts : List ℕ → List Act)
    (goes_on : (m : List ℕ) → e.step m next ≡ go m) (turn : (m : List ℕ) → fit m → Turn go fit acts m) where
  -- one act and what is left after it, by its memory, the act and the plan
  record First (m : List ℕ) (a : Act) (as₁ : List Act) : Type 0 where
    step : go m ≡ answer (go m).memory a
    then : acts (go m).memory ≡ as₁
    fits : fit (go m).memory
    good : PlannedAct a

  first : (m : List ℕ) (a : Act) (as₁ : List Act) → fit m → acts m ≡ a ∷ as₁ → First m a as₁
  first m a as₁ f eq = by (turn m f)
    where
      by : Turn go fit acts m → First m a as₁
      by (acting m₁ a₁ f₁ p g q) =
          let ea : a₁ ≡ a = cc in
          let es : acts m₁ ≡ as₁ = cc in
          let em : (go m).memory ≡ m₁ = ap (λ (s : Step). s.memory) g in
          record {
            step = g ∙ (ap (λ x. answer x a₁) (sym em) ∙ ap (answer (go m).memory) ea);
            then = ap acts em ∙ es;
            fits = subst (λ (x : List ℕ). fit x) (sym em) f₁;
            good = subst (λ (x : Act). PlannedAct x) ea p;
          }
      by (ending g q) = let x : [] ≡ a ∷ as₁ = sym q ∙ eq in no_way cc

  nothing_left : (m : List ℕ) → fit m → acts m ≡ [] → go m ≡ answer m done
  nothing_left m f eq = by (turn m f)
    where
      by : Turn go fit acts m → go m ≡ answer m done
      by (acting m₁ a f₁ p g q) = let x : a ∷ acts m₁ ≡ [] = sym q ∙ eq in no_way cc
      by (ending g q) = g

  -- THE PLAN of an engine that goes on so
  pub planned : Planned e fit acts (λ m. (go m).memory)
  planned =
      record {
        none = λ m f q. goes_on m ∙ nothing_left m f q;
        some = λ m a as₁ f q. goes_on m ∙ (first m a as₁ f q).step;
        then = λ m a as₁ f q. (first m a as₁ f q).then;
        fits = λ m a as₁ f q. (first m a as₁ f q).fits;
        good = λ m a as₁ f q. (first m a as₁ f q).good;
      }

-- AN EVENT that is cut short before anything is done, or that is answered at once and changes nothing
module _ (e : Engine) (m s : List ℕ) (ev : Event) where
  pub run_none : runs 0 e m s ev [] [] [] ≡ ran m s [] [] [] 1000
  unfolding runs
  run_none = refl

  abbrev acting_once : ℕ → List ℕ → Step → Ran
  acting_once n ss x = one_act (λ m₁ s₁ fs₁ ds₁ ss₁. runs n e m₁ s₁ next fs₁ ds₁ ss₁) s [] [] ss x.memory x.act

  pub shown_cut : (k : ℕ) → e.step m ev ≡ answer m (shows k) → runs 1 e m s ev [] [] [] ≡ ran m s [] [] (k ∷ []) 1000
  unfolding runs one_act
  shown_cut k q = ap (acting_once 0 []) q

  pub shown_whole : (k n : ℕ) → e.step m ev ≡ answer m (shows k) → e.step m next ≡ answer m done → runs (suc (suc n)) e m s ev [] [] [] ≡ ran m s [] [] (k ∷ []) 0
  unfolding runs one_act
  shown_whole k n q d = ap (acting_once (suc n) []) q ∙ ap (acting_once n (k ∷ [])) d

  pub refused_run : (why : Refusal) (n : ℕ) → e.step m ev ≡ answer m (refused (refusal_number why)) → runs (suc n) e m s ev [] [] [] ≡ ran m s [] [] [] (refusal_number why)
  unfolding runs one_act
  refused_run why n q = ap (acting_once n []) q ∙ number why
    where
      number : (why : Refusal) → acting_once n [] (answer m (refused (refusal_number why))) ≡ ran m s [] [] [] (refusal_number why)
      number NotNow = refl
      number TooLong = refl
      number Full = refl

-- it did this first
abbrev pub applies_first : Applied → Ran → Ran
applies_first a r = ran r.memory r.stable r.flew (a ∷ r.did) r.showed r.end

-- it ended, and showed nothing
pub quiet_ends : (r : Ran) → r.end ≡ 0 → r.showed ≡ [] → (eqb r.end 0 && none_of r.showed) ≡ true
unfolding none_of
quiet_ends r e q = rw (e, q)
