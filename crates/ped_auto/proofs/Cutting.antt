-- The strategy cut off by want of memory.
use Rattle.std.proofs.Common.{◌≡◌, inl, inr, ℕ, ◌+◌, ◌-◌, ◌≤◌, List, [], ◌∷◌, ◌++◌, Bool, true, false, refl, sym, subst, ap, ◌∙◌, arith}
use Rattle.ped_script.specs.declared.items.Command.{Command}
use Rattle.ped_rules.specs.ped_steps.specs.Causes.{Cause}
use Rattle.ped_auto.specs.Editing.{Editing, IsOfStrategy, IsEditing}
use Rattle.ped_auto.specs.Strategy.{Stage, Takes, Tries, OrElse}
use Rattle.ped_auto.specs.CodeStages.{stage, Leads, IsCut, AnyOutcome}
use Rattle.ped_auto.proofs.Leading.{AlwaysLeads, leads_here, leads_on, leads_takes, leads_same}
use Rattle.ped_auto.proofs.OneCourse.{HasOne, one_tries}

-- a part that is cut off cuts off the whole, where the whole goes through it and on
pub cut_within : {S : Type 0} (e : Editing S) (Part Whole : Stage S → Stage S → Type 0) (p r : Stage S) (now : S) (tests : ℕ)
    → IsCut e Part r now tests → Leads e p r → ((q : Stage S) → Whole p q → (m : Stage S) × Part r m × Leads e m q) → IsCut e Whole p now tests
cut_within e Part Whole p r now tests cut lead through = record {
  at = cut.at;
  here = cut.here;
  came = leads_on e p r cut.at lead cut.came;
  made = cut.made;
  way = λ q whole.
      let x = through q whole in
      let w = cut.way x.0 x.1 in
      let few : tests ≤ x.0.tests = w.1 in
      let more : q.tests ≡ x.0.tests + x.2.tests = x.2.counted in
      (leads_on e cut.at x.0 q w.0 x.2, omega arith);
}

-- what is cut off where nothing has been done yet
pub cut_here : {S : Type 0} (e : Editing S) (Whole : Stage S → Stage S → Type 0) (p : Stage S) → ((q : Stage S) → Whole p q → Leads e p q) → IsCut e Whole p p.now p.tests
cut_here e Whole p lead = record {
  at = p;
  here = refl;
  came = leads_here e p;
  made = omega arith;
  way = λ q whole.
      let x = lead q whole in
      let more : q.tests ≡ p.tests + x.tests = x.counted in
      (x, omega arith);
}

-- what is done from a stage does no fewer tests than an editor that was cut off before it took the command
not_taken : {S : Type 0} (e : Editing S) → IsEditing e → (c : Command) → IsOfStrategy c → (s : S) (accepted : List Command) (old new before : ℕ)
    → before ≤ old → old ≤ new
    → ((next : S) (tests : ℕ) → e.Accepts s c next tests → new ≤ old + tests) → ((why : Cause) → e.Refuses s c why → new ≡ old)
    → (q : Stage S) (taken : Bool) → Tries e c (stage s accepted (old - before)) taken q → Leads e (stage s accepted (old - before)) q × (new - before ≤ q.tests)
not_taken e laws c ok s accepted old new before low least most none q true h =
    let few : new ≤ old + h.tests = most q.now h.tests h.accepts in
    let counted : q.tests ≡ (old - before) + h.tests = h.counted in
    (leads_takes e laws c ok (stage s accepted (old - before)) q h, omega arith)
not_taken {S} e laws c ok s accepted old new before low least most none q false h =
    let same : new ≡ old = none h.0.0 h.0.1 in
    let counted : q.tests ≡ old - before = ap (λ (x : Stage S). x.tests) h.1 in
    (leads_same e (stage s accepted (old - before)) q h.1, omega arith)

-- a command that is cut off before the editor has taken it
pub cut_before : {S : Type 0} (e : Editing S) → IsEditing e → (c : Command) → IsOfStrategy c → (s now : S) (accepted : List Command) (old new before : ℕ)
    → before ≤ old → old ≤ new → now ≡ s
    → ((next : S) (tests : ℕ) → e.Accepts s c next tests → new ≤ old + tests) → ((why : Cause) → e.Refuses s c why → new ≡ old)
    → IsCut e (AnyOutcome (Tries e c)) (stage s accepted (old - before)) now (new - before)
cut_before e laws c ok s now accepted old new before low least kept most none = record {
  at = stage s accepted (old - before);
  here = sym kept;
  came = leads_here e (stage s accepted (old - before));
  made = omega arith;
  way = λ q h. not_taken e laws c ok s accepted old new before low least most none q h.0 h.1;
}

-- an accepted command, taken down
pub taken : {S : Type 0} (e : Editing S) (c : Command) (s next : S) (accepted more : List Command) (old new before : ℕ)
    → before ≤ old → old ≤ new → e.Accepts s c next (new - old) → more ≡ accepted ++ c ∷ []
    → Takes e c (stage s accepted (old - before)) (stage next more (new - before))
taken e c s next accepted more old new before low least accepts behind = record {
  tests = new - old;
  accepts = accepts;
  behind = behind;
  counted = omega arith;
}

-- a command that the editor has taken, and that is cut off before it is taken down
pub cut_behind : {S : Type 0} (e : Editing S) → IsEditing e → (c : Command) → IsOfStrategy c → (s next : S) (accepted : List Command) (old new before : ℕ)
    → before ≤ old → old ≤ new → e.Accepts s c next (new - old)
    → IsCut e (AnyOutcome (Tries e c)) (stage s accepted (old - before)) next (new - before)
cut_behind {S} e laws c ok s next accepted old new before low least accepts =
    let p : Stage S = stage s accepted (old - before) in
    let q : Stage S = stage next (accepted ++ c ∷ []) (new - before) in
    let takes : Takes e c p q = taken e c s next accepted (accepted ++ c ∷ []) old new before low least accepts refl in
    record {
      at = q;
      here = refl;
      came = leads_takes e laws c ok p q takes;
      made = omega arith;
      way = λ r h.
          let same : q ≡ r = (one_tries e laws c p q r true h.0 takes h.1).1 in
          let counted : new - before ≡ r.tests = ap (λ (x : Stage S). x.tests) same in
          (leads_same e q r (sym same), omega arith);
    }

-- a refused command leaves the stage
pub left_alone : {S : Type 0} (s next : S) (accepted : List Command) (old new before : ℕ) → old ≤ new → next ≡ s → new - old ≡ 0
    → stage next accepted (new - before) ≡ stage s accepted (old - before)
left_alone s next accepted old new before least kept none =
    let same : new ≡ old = omega arith in
    ap (λ x. stage x accepted (new - before)) kept ∙ ap (λ n. stage s accepted (n - before)) same

or_first_by : {S : Type 0} (e : Editing S) (First Second : Stage S → Bool → Stage S → Type 0) → AlwaysLeads e Second → (p q : Stage S) (done : Bool) → OrElse First Second p done q
    → (m : Stage S) × AnyOutcome First p m × Leads e m q
or_first_by e First Second f p q done (inl h) = (q, (true, h.0), leads_here e q)
or_first_by e First Second f p q done (inr h) = (h.0, (false, h.1), f h.0 q done h.2)

or_second_by : {S : Type 0} (e : Editing S) (First Second : Stage S → Bool → Stage S → Type 0) → HasOne First → (p r q : Stage S) → First p false r → (done : Bool) → OrElse First Second p done q
    → (m : Stage S) × AnyOutcome Second r m × Leads e m q
or_second_by e First Second f p r q failed done (inl h) = let no : false ≡ true = (f p r q false true failed h.0).0 in absurd cc
or_second_by {S} e First Second f p r q failed done (inr h) =
    let one : h.0 ≡ r = (f p h.0 r false false h.1 failed).1 in
    (q, (done, subst (λ (x : Stage S). Second x done q) one h.2), leads_here e q)

-- where one thing or another is done, the first is a part
pub or_first : {S : Type 0} (e : Editing S) (First Second : Stage S → Bool → Stage S → Type 0) → AlwaysLeads e Second → (p q : Stage S) → AnyOutcome (OrElse First Second) p q
    → (m : Stage S) × AnyOutcome First p m × Leads e m q
or_first e First Second f p q h = or_first_by e First Second f p q h.0 h.1

-- .. and the second, where the first fails
pub or_second : {S : Type 0} (e : Editing S) (First Second : Stage S → Bool → Stage S → Type 0) → HasOne First → (p r q : Stage S) → First p false r → AnyOutcome (OrElse First Second) p q
    → (m : Stage S) × AnyOutcome Second r m × Leads e m q
or_second e First Second f p r q failed h = or_second_by e First Second f p r q failed h.0 h.1
