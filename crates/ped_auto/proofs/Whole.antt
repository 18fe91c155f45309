-- `auto` as a whole: done, or cut off.
use Rattle.std.proofs.Common.{◌≡◌, ℕ, ◌+◌, ◌-◌, ◌≤◌, List, [], ◌++◌, subst, ap, ◌∙◌, arith}
use Rattle.ped_script.specs.declared.items.Command.{Command}
use Rattle.ped_rules.specs.ped_steps.specs.Causes.{Cause}
use Rattle.ped_auto.specs.Editing.{Editing, IsEditing}
use Rattle.ped_auto.specs.Replay.{Replays}
use Rattle.ped_auto.specs.Strategy.{Stage, Visits, Round, Report, starting, AreLeft, IsAuto}
use Rattle.ped_auto.specs.CutOff.{IsCutOff}
use Rattle.ped_auto.specs.CodeStages.{stage, Leads, IsCut}
use Rattle.ped_auto.proofs.Leading.{leads_here, leads_visits, leads_round, leads_further}
use Rattle.ped_auto.proofs.OneCourse.{one_visit, one_round, one_auto}
use Rattle.ped_auto.proofs.Cutting.{cut_within}
use Rattle.ped_auto.proofs.FurtherRounding.{SomeRounds}

-- the first round and further ones
abbrev pub AllRounds : {S : Type 0} → Editing S → Stage S → Stage S → Type 0
AllRounds {S} e p q = (between : Stage S) × Round e (Visits e) p between × SomeRounds e between q

-- the code begins with nothing accepted and nothing tested
pub begins : {S : Type 0} (start : S) (accepted : List Command) (steps : ℕ) → accepted ≡ [] → stage start accepted (steps - steps) ≡ starting start
begins start accepted steps none =
    let zero : steps - steps ≡ 0 = omega arith in
    ap (λ cs. stage start cs (steps - steps)) none ∙ ap (λ n. stage start [] n) zero

-- .. and ends with the report
pub auto_done : {S : Type 0} (e : Editing S) (start last : S) (none accepted : List Command) (steps tests : ℕ) (between : Stage S) (left : List (ℕ × Cause)) → none ≡ []
    → Round e (Visits e) (stage start none (steps - steps)) between → SomeRounds e between (stage last accepted tests) → AreLeft e last left → IsAuto e start (record { accepted = accepted; left = left }) last tests
auto_done {S} e start last none accepted steps tests between left empty first further remaining = record {
  between = between;
  first = subst (λ (x : Stage S). Round e (Visits e) x between) (begins start none steps empty) first;
  rounds = further.0;
  further = further.1;
  left = remaining;
}

first_part : {S : Type 0} (e : Editing S) → IsEditing e → (p q : Stage S) → AllRounds e p q → (m : Stage S) × Round e (Visits e) p m × Leads e m q
first_part e laws p q h = (h.0, h.1, leads_further e laws h.2.0 h.0 q h.2.1)

further_part : {S : Type 0} (e : Editing S) → IsEditing e → (p m q : Stage S) → Round e (Visits e) p m → AllRounds e p q → (r : Stage S) × SomeRounds e m r × Leads e r q
further_part {S} e laws p m q first h =
    let one : h.0 ≡ m = one_round e laws (Visits e) (one_visit e laws) p h.0 m h.1 first in
    (q, subst (λ (x : Stage S). SomeRounds e x q) one h.2, leads_here e q)

-- `auto` cut off in the first round, or behind it
pub cut_in_first : {S : Type 0} (e : Editing S) → IsEditing e → (p : Stage S) (now : S) (tests : ℕ) → IsCut e (Round e (Visits e)) p now tests → IsCut e (AllRounds e) p now tests
cut_in_first e laws p now tests cut = cut_within e (Round e (Visits e)) (AllRounds e) p p now tests cut (leads_here e p) (λ q h. first_part e laws p q h)

pub cut_in_further : {S : Type 0} (e : Editing S) → IsEditing e → (p m : Stage S) (now : S) (tests : ℕ) → Round e (Visits e) p m → IsCut e (SomeRounds e) m now tests → IsCut e (AllRounds e) p now tests
cut_in_further e laws p m now tests first cut =
    cut_within e (SomeRounds e) (AllRounds e) p m now tests cut (leads_round e (Visits e) (leads_visits e laws) p m first) (λ q h. further_part e laws p m q first h)

-- what a cut says of all that `auto` does
way_on : {S : Type 0} (e : Editing S) (start : S) (now : S) (tests : ℕ) (cut : IsCut e (AllRounds e) (starting start) now tests) (report : Report) (end : S) (all : ℕ) → IsAuto e start report end all
    → Leads e cut.at (stage end report.accepted all) × (tests ≤ all)
way_on e start now tests cut report end all h = cut.way (stage end report.accepted all) (h.between, h.first, (h.rounds, h.further))

pub cut_off : {S : Type 0} (e : Editing S) (start : S) (now : S) (tests : ℕ) → IsCut e (AllRounds e) (starting start) now tests → IsCutOff e start now tests
cut_off {S} e start now tests cut = record {
  accepted = cut.came.commands;
  counted = cut.came.tests;
  replayed = subst (λ (x : S). Replays e start cut.came.commands x cut.came.tests) cut.here cut.came.replayed;
  made = let same : cut.at.tests ≡ 0 + cut.came.tests = cut.came.counted in let few : cut.at.tests ≤ tests = cut.made in omega arith;
  front = λ report end all h.
      let on = (way_on e start now tests cut report end all h).0 in
      (on.commands, on.behind ∙ ap (λ cs. cs ++ on.commands) cut.came.behind);
}

-- .. with no more tests
pub few_tests : {S : Type 0} (e : Editing S) (start : S) (now : S) (old new : ℕ) → old ≤ new → IsCut e (AllRounds e) (starting start) now (new - old) → (report : Report) (last : S) (tests : ℕ) → IsAuto e start report last tests → new ≤ old + tests
few_tests e start now old new least cut report last tests h = let few : new - old ≤ tests = (way_on e start now (new - old) cut report last tests h).1 in omega arith

-- .. and with just these where it is done
pub just_tests : {S : Type 0} (e : Editing S) → IsEditing e → (start now : S) (done : Report) (old new : ℕ) → old ≤ new → IsAuto e start done now (new - old) → (report : Report) (last : S) (tests : ℕ) → IsAuto e start report last tests → new ≤ old + tests
just_tests e laws start now done old new least auto report last tests h =
    let same : new - old ≡ tests = (one_auto e laws start now last done report (new - old) tests auto h).2 in
    omega arith

-- a cut from where the code begins
pub cut_from_begin : {S : Type 0} (e : Editing S) (Does : Stage S → Stage S → Type 0) (start : S) (none : List Command) (steps : ℕ) (now : S) (tests : ℕ) → none ≡ [] → IsCut e Does (stage start none (steps - steps)) now tests → IsCut e Does (starting start) now tests
cut_from_begin {S} e Does start none steps now tests empty cut = subst (λ (x : Stage S). IsCut e Does x now tests) (begins start none steps empty) cut
