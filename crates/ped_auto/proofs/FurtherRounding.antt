-- Further rounds, on the way.
use Rattle.std.proofs.Common.{◌≡◌, ℕ, zero, suc, ◌+◌, ◌≤◌, length, subst, ap, ◌∙◌, arith, length-append}
use Rattle.ped_auto.specs.Editing.{Editing, IsEditing}
use Rattle.ped_auto.specs.Strategy.{Stage, VisitsAgain, Round, AcceptsNothing, FurtherRounds}
use Rattle.ped_auto.specs.CodeStages.{Leads, IsCut}
use Rattle.ped_auto.proofs.Leading.{leads_here, leads_on, leads_again, leads_round, leads_further}
use Rattle.ped_auto.proofs.OneCourse.{one_again, one_round}
use Rattle.ped_auto.proofs.Cutting.{cut_within}

-- some further rounds
abbrev pub SomeRounds : {S : Type 0} → Editing S → Stage S → Stage S → Type 0
SomeRounds e p q = (n : ℕ) × FurtherRounds e n p q

-- further rounds from stage p have come to stage m: what those from there lead to is what they lead to
pub record IsOnRounds {S : Type 0} (e : Editing S) (p m : Stage S) : Type 0 where
  pub came : Leads e p m
  pub on : (q : Stage S) → SomeRounds e m q → SomeRounds e p q
  pub back : (q : Stage S) → SomeRounds e p q → SomeRounds e m q

pub rounds_begin : {S : Type 0} (e : Editing S) (p : Stage S) → IsOnRounds e p p
rounds_begin e p = record {
  came = leads_here e p;
  on = λ q h. h;
  back = λ q h. h;
}

-- one round
abbrev Again : {S : Type 0} → Editing S → Stage S → Stage S → Type 0
Again e p q = Round e (VisitsAgain e) p q

rounds_behind : {S : Type 0} (e : Editing S) → IsEditing e → (m r q : Stage S) → Again e m r → ¬ (AcceptsNothing m r) → (n : ℕ) → FurtherRounds e n m q → SomeRounds e r q
rounds_behind {S} e laws m r q round some zero h =
    let one : q ≡ r = one_round e laws (VisitsAgain e) (one_again e laws) m q r h.0 round in
    absurd (some (subst (λ (x : Stage S). AcceptsNothing m x) one h.1))
rounds_behind {S} e laws m r q round some (suc n) h =
    let one : h.0 ≡ r = one_round e laws (VisitsAgain e) (one_again e laws) m h.0 r h.1 round in
    (n, subst (λ (x : Stage S). FurtherRounds e n x q) one h.3)

-- a round that accepted something is behind
pub rounds_go_on : {S : Type 0} (e : Editing S) → IsEditing e → (p m r : Stage S) → IsOnRounds e p m → Again e m r → ¬ (AcceptsNothing m r) → IsOnRounds e p r
rounds_go_on e laws p m r on round some = record {
  came = leads_on e p m r on.came (leads_round e (VisitsAgain e) (leads_again e laws) m r round);
  on = λ q h. on.on q (suc h.0, (r, round, some, h.1));
  back = λ q h. let k = on.back q h in rounds_behind e laws m r q round some k.0 k.1;
}

-- a round that accepted nothing was the last
pub rounds_end : {S : Type 0} (e : Editing S) (p m r : Stage S) → IsOnRounds e p m → Again e m r → AcceptsNothing m r → SomeRounds e p r
rounds_end e p m r on round nothing = on.on r (zero, (round, nothing))

rounds_part : {S : Type 0} (e : Editing S) → IsEditing e → (m q : Stage S) (n : ℕ) → FurtherRounds e n m q → (r : Stage S) × Again e m r × Leads e r q
rounds_part e laws m q zero h = (q, h.0, leads_here e q)
rounds_part e laws m q (suc n) h = (h.0, h.1, leads_further e laws n h.0 q h.3)

-- further rounds are cut off in one
pub cut_rounds : {S : Type 0} (e : Editing S) → IsEditing e → (p m : Stage S) → IsOnRounds e p m → (now : S) (tests : ℕ) → IsCut e (Again e) m now tests → IsCut e (SomeRounds e) p now tests
cut_rounds e laws p m on now tests cut =
    cut_within e (Again e) (SomeRounds e) p m now tests cut on.came
    (λ q h. let k = on.back q h in rounds_part e laws m q k.0 k.1)

-- a stage has no fewer commands behind it than the one that leads to it
pub no_fewer : {S : Type 0} (e : Editing S) (p q : Stage S) → Leads e p q → length p.accepted ≤ length q.accepted
no_fewer e p q h = let all : length q.accepted ≡ length p.accepted + length h.commands = ap length h.behind ∙ length-append p.accepted h.commands in omega arith
