-- What the strategy does leads from stage to stage, by accepted commands one behind another.
use Rattle.std.proofs.Common.{◌≡◌, inl, inr, ℕ, zero, suc, ◌+◌, List, [], ◌∷◌, ◌++◌, Bool, true, false, MatchBool, refl, sym, subst, ap, ◌∙◌, arith, append_assoc, append-nil}
use Rattle.ped_script.specs.declared.items.Command.{Command}
use Rattle.ped_script.specs.declared.items.Command.TheVariants.{Parallel, Privatise, Reduce, Distribute}
use Rattle.ped_rules.specs.ped_flow.specs.ped_tree.specs.Tree.{ProgramTree}
use Rattle.ped_auto.specs.SerialLoops.{is_serial_loop}
use Rattle.ped_auto.specs.CarriedNames.{are_scalars, are_few_scalars}
use Rattle.ped_auto.specs.Editing.{Editing, IsOfStrategy, IsEditing}
use Rattle.ped_auto.specs.Replay.{Replays}
use Rattle.ped_auto.specs.Strategy.{Stage, Takes, Tries, TriesEach, WithNames, TriesPrivate, OrElse, Attempts, Divides, Visits, VisitsAgain, Meets, RoundFrom, Round, FurtherRounds}
use Rattle.ped_auto.specs.CodeStages.{Leads}

-- commands that are accepted behind others
replays_both : {S : Type 0} (e : Editing S) (cs ds : List Command) (s m q : S) (a b : ℕ) → Replays e s cs m a → Replays e m ds q b → Replays e s (cs ++ ds) q (a + b)
replays_both e [] ds s m q a b h r =
    let none : a ≡ 0 = h.1 in
    let all : b ≡ a + b = omega arith in
    subst (λ n. Replays e s ds q n) all (subst (λ x. Replays e x ds q b) h.0 r)
replays_both e (c ∷ cs) ds s m q a b h r =
    let sum : a ≡ h.1 + h.2 = h.5 in
    let all : a + b ≡ h.1 + (h.2 + b) = omega arith in
    (h.0, h.1, h.2 + b, h.3, replays_both e cs ds h.0 m q h.2 b h.4 r, all)

pub leads_here : {S : Type 0} (e : Editing S) (p : Stage S) → Leads e p p
leads_here e p = record {
  commands = [];
  tests = 0;
  replayed = (refl, refl);
  behind = sym (append-nil p.accepted);
  counted = omega arith;
  grown = λ t r. (t, r, omega arith);
}

pub leads_on : {S : Type 0} (e : Editing S) (p q r : Stage S) → Leads e p q → Leads e q r → Leads e p r
leads_on e p q r a b = record {
  commands = a.commands ++ b.commands;
  tests = a.tests + b.tests;
  replayed = replays_both e a.commands b.commands p.now q.now r.now a.tests b.tests a.replayed b.replayed;
  behind = b.behind ∙ ap (λ xs. xs ++ b.commands) a.behind ∙ append_assoc p.accepted a.commands b.commands;
  counted = let x : q.tests ≡ p.tests + a.tests = a.counted in let y : r.tests ≡ q.tests + b.tests = b.counted in omega arith;
  grown = λ t h.
      let x = a.grown t h in
      let y = b.grown x.0 x.1 in
      let m = x.2 in
      let n = y.2 in
      (y.0, y.1, omega arith);
}

pub leads_takes : {S : Type 0} (e : Editing S) → IsEditing e → (c : Command) → IsOfStrategy c → (p q : Stage S) → Takes e c p q → Leads e p q
leads_takes e laws c ok p q h = record {
  commands = c ∷ [];
  tests = h.tests;
  replayed = (q.now, h.tests, 0, h.accepts, (refl, refl), omega arith);
  behind = h.behind;
  counted = h.counted;
  grown = λ t r. laws.grows p.now c q.now h.tests t ok h.accepts r;
}

-- stages that are the same lead to the same
pub leads_same : {S : Type 0} (e : Editing S) (p q : Stage S) → q ≡ p → Leads e p q
leads_same {S} e p q h = subst (λ (x : Stage S). Leads e p x) (sym h) (leads_here e p)

pub leads_tries : {S : Type 0} (e : Editing S) → IsEditing e → (c : Command) → IsOfStrategy c → (p : Stage S) (taken : Bool) (q : Stage S) → Tries e c p taken q → Leads e p q
leads_tries e laws c ok p true q h = leads_takes e laws c ok p q h
leads_tries e laws c ok p false q h = leads_same e p q h.1

pub leads_each : {S : Type 0} (e : Editing S) → IsEditing e → (number : ℕ) (names : List (List ℕ)) (p q : Stage S) → TriesEach e number names p q → Leads e p q
leads_each e laws number [] p q h = leads_same e p q h
leads_each e laws number (name ∷ names) p q h =
    leads_on e p h.1 q (leads_tries e laws (Privatise number name) tt p h.0 h.1 h.2) (leads_each e laws number names h.1 q h.3)

-- what is done by a test leads on where both parts do
pub by_test : (b : Bool) (P Q R : Type 0) → MatchBool b P Q → (P → R) → (Q → R) → R
by_test true P Q R h f g = f h
by_test false P Q R h f g = g h

-- what is done leads from stage to stage
abbrev pub AlwaysLeads : {S : Type 0} → Editing S → (Stage S → Bool → Stage S → Type 0) → Type 0
AlwaysLeads {S} e Does = (p q : Stage S) (done : Bool) → Does p done q → Leads e p q

pub leads_named : {S : Type 0} (e : Editing S) (number : ℕ) (passes : ProgramTree → List (List ℕ) → Bool) (Tried : List (List ℕ) → Stage S → Bool → Stage S → Type 0)
    → ((names : List (List ℕ)) → AlwaysLeads e (Tried names)) → AlwaysLeads e (WithNames e number passes Tried)
leads_named e number passes Tried f p q done h =
    by_test (passes h.program h.names) (Tried h.names p done q) ((done ≡ false) × (q ≡ p)) (Leads e p q) h.tried (λ k. f h.names p q done k) (λ k. leads_same e p q k.1)

pub leads_private : {S : Type 0} (e : Editing S) → IsEditing e → (number : ℕ) (names : List (List ℕ)) → AlwaysLeads e (TriesPrivate e number names)
leads_private e laws number names p q done h =
    leads_on e p h.0 q (leads_each e laws number names p h.0 h.1) (leads_tries e laws (Parallel number) tt h.0 done q h.2)

pub leads_or : {S : Type 0} (e : Editing S) (First Second : Stage S → Bool → Stage S → Type 0) → AlwaysLeads e First → AlwaysLeads e Second → AlwaysLeads e (OrElse First Second)
leads_or e First Second f g p q done (inl h) = f p q true h.0
leads_or e First Second f g p q done (inr h) = leads_on e p h.0 q (f p h.0 false h.1) (g h.0 q done h.2)

pub leads_parallel : {S : Type 0} (e : Editing S) → IsEditing e → (number : ℕ) → AlwaysLeads e (Tries e (Parallel number))
leads_parallel e laws number p q done h = leads_tries e laws (Parallel number) tt p done q h

pub leads_reduce : {S : Type 0} (e : Editing S) → IsEditing e → (number : ℕ) (names : List (List ℕ)) → AlwaysLeads e (Tries e (Reduce number names))
leads_reduce e laws number names p q done h = leads_tries e laws (Reduce number names) tt p done q h

pub leads_attempts : {S : Type 0} (e : Editing S) → IsEditing e → (number : ℕ) → AlwaysLeads e (Attempts e number)
leads_attempts e laws number =
    leads_or e _ _ (leads_parallel e laws number)
    (leads_or e _ _ (leads_named e number are_scalars _ (leads_private e laws number))
    (leads_named e number are_few_scalars _ (leads_reduce e laws number)))

pub leads_divides : {S : Type 0} (e : Editing S) → IsEditing e → (number : ℕ) (p q : Stage S) → Divides e number p q → Leads e p q
leads_divides e laws number p q (inl h) = leads_tries e laws (Distribute number) tt p false q h
leads_divides e laws number p q (inr h) =
    leads_on e p h.0 q (leads_tries e laws (Distribute number) tt p true h.0 h.2) (leads_attempts e laws number h.0 q h.1 h.3)

pub leads_visits : {S : Type 0} (e : Editing S) → IsEditing e → (number : ℕ) (p q : Stage S) → Visits e number p q → Leads e p q
leads_visits e laws number p q (inl h) = leads_attempts e laws number p q true h
leads_visits e laws number p q (inr h) = leads_on e p h.0 q (leads_attempts e laws number p h.0 false h.1) (leads_divides e laws number h.0 q h.2)

pub leads_again : {S : Type 0} (e : Editing S) → IsEditing e → (number : ℕ) (p q : Stage S) → VisitsAgain e number p q → Leads e p q
leads_again e laws number p q h = leads_parallel e laws number p q h.0 h.1

-- what is done at a DO leads from stage to stage
abbrev pub VisitLeads : {S : Type 0} → Editing S → (ℕ → Stage S → Stage S → Type 0) → Type 0
VisitLeads {S} e Visit = (number : ℕ) (p q : Stage S) → Visit number p q → Leads e p q

pub leads_meets : {S : Type 0} (e : Editing S) (Visit : ℕ → Stage S → Stage S → Type 0) → VisitLeads e Visit → (number : ℕ) (p q : Stage S) → Meets e Visit number p q → Leads e p q
leads_meets e Visit f number p q h =
    by_test (is_serial_loop h.program number) (Visit number p q) (q ≡ p) (Leads e p q) h.met (λ k. f number p q k) (λ k. leads_same e p q k)

pub leads_round_from : {S : Type 0} (e : Editing S) (Visit : ℕ → Stage S → Stage S → Type 0) → VisitLeads e Visit → (n number : ℕ) (p q : Stage S) → RoundFrom e Visit n number p q → Leads e p q
leads_round_from e Visit f zero number p q h = leads_same e p q h.1
leads_round_from e Visit f (suc n) number p q h =
    leads_on e p h.0 q (leads_meets e Visit f number p h.0 h.1) (leads_round_from e Visit f n (number + 1) h.0 q h.2)

pub leads_round : {S : Type 0} (e : Editing S) (Visit : ℕ → Stage S → Stage S → Type 0) → VisitLeads e Visit → (p q : Stage S) → Round e Visit p q → Leads e p q
leads_round e Visit f p q h = leads_round_from e Visit f h.0 1 p q h.1

pub leads_further : {S : Type 0} (e : Editing S) → IsEditing e → (n : ℕ) (p q : Stage S) → FurtherRounds e n p q → Leads e p q
leads_further e laws zero p q h = leads_round e (VisitsAgain e) (leads_again e laws) p q h.0
leads_further e laws (suc n) p q h =
    leads_on e p h.0 q (leads_round e (VisitsAgain e) (leads_again e laws) p h.0 h.1) (leads_further e laws n h.0 q h.3)
