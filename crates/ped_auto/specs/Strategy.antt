-- The strategy of `auto`: it parallelises the present program by accepted steps, and says why each DO that is left stays serial (ParaScope; this project).
use Rattle.std.specs.Prelude.{◌≡◌, ◌⊎◌, ℕ, zero, suc, ◌+◌, ◌≤◌, ◌<◌, List, [], ◌∷◌, ◌++◌, map, length, Bool, true, false, MatchBool}
use Rattle.std.specs.List.{AllByRecursion}
use Rattle.ped_script.specs.declared.items.Command.{Command}
use Rattle.ped_script.specs.declared.items.Command.TheVariants.{Parallel, Privatise, Reduce, Distribute}
use Rattle.ped_rules.specs.ped_flow.specs.ped_tree.specs.Tree.{ProgramTree}
use Rattle.ped_rules.specs.ped_steps.specs.Causes.{Cause}
use Rattle.ped_auto.specs.SerialLoops.{is_serial_loop, count_of, serial_loops}
use Rattle.ped_auto.specs.CarriedNames.{AreCarried, are_scalars, are_few_scalars}
use Rattle.ped_auto.specs.Editing.{Editing}

-- how far the strategy has come: the state of the editor, the commands accepted so far, and how many pairs of references were tested for them
pub record Stage (S : Type 0) : Type 0 where
  pub now : S
  pub accepted : List Command
  pub tests : ℕ

-- the command is accepted, and leads from one stage to the next
pub record Takes {S : Type 0} (e : Editing S) (c : Command) (p q : Stage S) : Type 0 where
  pub tests : ℕ
  pub accepts : e.Accepts p.now c q.now tests
  pub behind : q.accepted ≡ p.accepted ++ c ∷ []
  pub counted : q.tests ≡ p.tests + tests

-- the command is refused at this stage
abbrev pub Leaves : {S : Type 0} → Editing S → Command → Stage S → Type 0
Leaves e c p = (why : Cause) × e.Refuses p.now c why

-- the command is tried, and whether it is accepted; where it is refused nothing changes
abbrev pub Tries : {S : Type 0} → Editing S → Command → Stage S → Bool → Stage S → Type 0
Tries e c p true q = Takes e c p q
Tries e c p false q = Leaves e c p × (q ≡ p)

-- each of the names is tried to be made private to the DO, in order
abbrev pub TriesEach : {S : Type 0} → Editing S → ℕ → List (List ℕ) → Stage S → Stage S → Type 0
TriesEach e number [] p q = q ≡ p
TriesEach {S} e number (name ∷ names) p q = (taken : Bool) × (r : Stage S) × Tries e (Privatise number name) p taken r × TriesEach e number names r q

-- what is tried on the names that the DO carries, where they pass a test; else nothing is done
pub record WithNames {S : Type 0} (e : Editing S) (number : ℕ) (passes : ProgramTree → List (List ℕ) → Bool) (Tried : List (List ℕ) → Stage S → Bool → Stage S → Type 0) (p : Stage S) (done : Bool) (q : Stage S) : Type 0 where
  pub program : ProgramTree
  pub reads : e.Reads p.now program
  pub names : List (List ℕ)
  pub carried : AreCarried program number names
  pub tried : MatchBool (passes program names) (Tried names p done q) ((done ≡ false) × (q ≡ p))

-- each of the names is tried to be made private to the DO, and then the DO to be made parallel again
abbrev pub TriesPrivate : {S : Type 0} → Editing S → ℕ → List (List ℕ) → Stage S → Bool → Stage S → Type 0
TriesPrivate {S} e number names p done q = (r : Stage S) × TriesEach e number names p r × Tries e (Parallel number) r done q

-- all that the DO carries is tried to be made private, where that is scalars alone, and then the DO to be made parallel again
abbrev pub Privatises : {S : Type 0} → Editing S → ℕ → Stage S → Bool → Stage S → Type 0
Privatises e number = WithNames e number are_scalars (TriesPrivate e number)

-- each iteration of the DO is tried to be given sums of its own for all that the DO carries, where that is one to eight scalars
abbrev pub Reduces : {S : Type 0} → Editing S → ℕ → Stage S → Bool → Stage S → Type 0
Reduces e number = WithNames e number are_few_scalars (λ names. Tries e (Reduce number names))

-- one thing is tried, and where it fails another
abbrev pub OrElse : {S : Type 0} → (Stage S → Bool → Stage S → Type 0) → (Stage S → Bool → Stage S → Type 0) → Stage S → Bool → Stage S → Type 0
OrElse {S} First Second p done q = (First p true q × (done ≡ true)) ⊎ ((r : Stage S) × First p false r × Second r done q)

-- the DO with this number is to become parallel: as it is, or else with private scalars, or else with sums
abbrev pub Attempts : {S : Type 0} → Editing S → ℕ → Stage S → Bool → Stage S → Type 0
Attempts e number =
    OrElse (Tries e (Parallel number)) (OrElse (Privatises e number) (Reduces e number))

-- the DO is distributed, where it can be, and what is first of it is to become parallel
abbrev pub Divides : {S : Type 0} → Editing S → ℕ → Stage S → Stage S → Type 0
Divides {S} e number p q =
    Tries e (Distribute number) p false q
    ⊎ ((r : Stage S) × (done : Bool) × Tries e (Distribute number) p true r × Attempts e number r done q)

-- what the first round does at a DO: it is to become parallel, and where it doesn't it is distributed once
abbrev pub Visits : {S : Type 0} → Editing S → ℕ → Stage S → Stage S → Type 0
Visits {S} e number p q =
    Attempts e number p true q
    ⊎ ((r : Stage S) × Attempts e number p false r × Divides e number r q)

-- what a further round does at a DO: it is to become parallel as it is
abbrev pub VisitsAgain : {S : Type 0} → Editing S → ℕ → Stage S → Stage S → Type 0
VisitsAgain e number p q = (done : Bool) × Tries e (Parallel number) p done q

-- a round reaches the statement with this number, which the present program has: there it does something where that is a DO and no PARALLEL DO
pub record Meets {S : Type 0} (e : Editing S) (Visit : ℕ → Stage S → Stage S → Type 0) (number : ℕ) (p q : Stage S) : Type 0 where
  pub program : ProgramTree
  pub reads : e.Reads p.now program
  pub within : number ≤ count_of program
  pub met : MatchBool (is_serial_loop program number) (Visit number p q) (q ≡ p)

-- a round has passed the last statement of the present program
abbrev pub IsOver : {S : Type 0} → Editing S → ℕ → Stage S → Type 0
IsOver e number p = (t : ProgramTree) × e.Reads p.now t × (count_of t < number)

-- a round over this many statements, of which this is the first, to the last statement of the program that is present then
abbrev pub RoundFrom : {S : Type 0} → Editing S → (ℕ → Stage S → Stage S → Type 0) → ℕ → ℕ → Stage S → Stage S → Type 0
RoundFrom e Visit zero number p q = IsOver e number p × (q ≡ p)
RoundFrom {S} e Visit (suc n) number p q = (r : Stage S) × Meets e Visit number p r × RoundFrom e Visit n (number + 1) r q

-- a round over all statements
abbrev pub Round : {S : Type 0} → Editing S → (ℕ → Stage S → Stage S → Type 0) → Stage S → Stage S → Type 0
Round e Visit p q = (n : ℕ) × RoundFrom e Visit n 1 p q

-- nothing was accepted between the stages
abbrev pub AcceptsNothing : {S : Type 0} → Stage S → Stage S → Type 0
AcceptsNothing p q = length q.accepted ≡ length p.accepted

-- this many further rounds in which something is accepted, and then one in which nothing is
abbrev pub FurtherRounds : {S : Type 0} → Editing S → ℕ → Stage S → Stage S → Type 0
FurtherRounds e zero p q = Round e (VisitsAgain e) p q × AcceptsNothing p q
FurtherRounds {S} e (suc n) p q = (r : Stage S) × Round e (VisitsAgain e) p r × ¬ (AcceptsNothing p r) × FurtherRounds e n r q

-- what `auto` reports: the accepted commands in order, and the DOs that aren't PARALLEL DOs in the end, each with the first cause against `parallel`
pub record Report : Type 0 where
  pub accepted : List Command
  pub left : List (ℕ × Cause)

-- the stage at which `auto` begins
abbrev pub starting : {S : Type 0} → S → Stage S
starting s = record { now = s; accepted = []; tests = 0 }

-- these are the DOs of the present program that aren't PARALLEL DOs, in text order, each with the first cause against `parallel`
pub record AreLeft {S : Type 0} (e : Editing S) (s : S) (left : List (ℕ × Cause)) : Type 0 where
  pub program : ProgramTree
  pub reads : e.Reads s program
  pub loops : map (λ l. l.0) left ≡ serial_loops program
  pub causes : AllByRecursion (λ l. e.Refuses s (Parallel l.0) l.1) left

-- what `auto` does to an editor in a state: a first round and further ones, with this report, the state in the end, and how many pairs of references are tested
pub record IsAuto {S : Type 0} (e : Editing S) (s : S) (report : Report) (last : S) (tests : ℕ) : Type 0 where
  pub between : Stage S
  pub first : Round e (Visits e) (starting s) between
  pub rounds : ℕ
  pub further : FurtherRounds e rounds between (record { now = last; accepted = report.accepted; tests = tests })
  pub left : AreLeft e last report.left
