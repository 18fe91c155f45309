-- How far the code of the strategy has come. Only contracts of private functions use it (this project).
use Rattle.std.specs.Prelude.{◌≡◌, ◌⊎◌, ℕ, ◌+◌, ◌-◌, ◌≤◌, ◌<◌, List, [], ◌∷◌, ◌++◌, length, Bool, true, false, Option, Some, None}
use Rattle.ped_script.specs.declared.items.Command.{Command}
use Rattle.ped_script.specs.declared.items.Command.TheVariants.{Parallel}
use Rattle.ped_rules.specs.ped_flow.specs.ped_tree.specs.Tree.{ProgramTree}
use Rattle.ped_rules.specs.ped_steps.specs.Causes.{Cause}
use Rattle.ped_rules.specs.ped_steps.specs.CodeCauses.{cause_of, IsShort}
use Rattle.ped_rules.specs.ped_steps.specs.declared.causes.Refused.{Refused}
use Rattle.ped_auto.specs.SerialLoops.{count_of, IsNumber}
use Rattle.ped_auto.specs.CarriedNames.{AreCarried, is_scalar_name, are_scalars}
use Rattle.ped_auto.specs.Editing.{Editing}
use Rattle.ped_auto.specs.Replay.{Replays}
use Rattle.ped_auto.specs.Strategy.{Stage, Takes}

-- the stage of an editor in a state, with these commands accepted and this many tests made
abbrev pub stage : {S : Type 0} → S → List Command → ℕ → Stage S
stage s accepted tests = record { now = s; accepted = accepted; tests = tests }

-- one stage leads to another: by accepted commands, one after another, and the program has no fewer statements after them
pub record Leads {S : Type 0} (e : Editing S) (p q : Stage S) : Type 0 where
  pub commands : List Command
  pub tests : ℕ
  pub replayed : Replays e p.now commands q.now tests
  pub behind : q.accepted ≡ p.accepted ++ commands
  pub counted : q.tests ≡ p.tests + tests
  pub grown : (t : ProgramTree) → e.Reads p.now t → (u : ProgramTree) × e.Reads q.now u × (count_of t ≤ count_of u)

-- what the strategy does from a stage is cut off: the editor is at a stage on its way, and no more pairs were tested than it tests
pub record IsCut {S : Type 0} (e : Editing S) (Does : Stage S → Stage S → Type 0) (p : Stage S) (now : S) (tests : ℕ) : Type 0 where
  pub at : Stage S
  pub here : at.now ≡ now
  pub came : Leads e p at
  pub made : at.tests ≤ tests
  pub way : (q : Stage S) → Does p q → Leads e at q × (tests ≤ q.tests)

-- whatever the counter of tests was when `auto` began, the code has gone from stage to stage
abbrev pub Goes : {S : Type 0} → (Stage S → Stage S → Type 0) → S → List Command → ℕ → S → List Command → ℕ → Type 0
Goes Does s accepted steps next more later =
    (before : ℕ) → before ≤ steps → Does (stage s accepted (steps - before)) (stage next more (later - before))

-- whatever the counter of tests was when `auto` began, what the code does from a stage is cut off
abbrev pub CutsOff : {S : Type 0} → Editing S → (Stage S → Stage S → Type 0) → S → List Command → ℕ → S → ℕ → Type 0
CutsOff e Does s accepted steps next later =
    (before : ℕ) → before ≤ steps → IsCut e Does (stage s accepted (steps - before)) next (later - before)

-- what is done, whether it has succeeded or not
abbrev pub AnyOutcome : {S : Type 0} → (Stage S → Bool → Stage S → Type 0) → Stage S → Stage S → Type 0
AnyOutcome Does p q = (done : Bool) × Does p done q

-- what trying a command answers: none where it is accepted, or the first cause against it, and nothing changes
abbrev pub Tried : {S : Type 0} → Editing S → Command → Option Refused → Stage S → Stage S → Type 0
Tried e c None p q = Takes e c p q
Tried e c (Some why) p q = e.Refuses p.now c (cause_of why) × IsShort why × (q ≡ p)

-- the editor has a present program, which has a statement with this number
abbrev pub HasStatement : {S : Type 0} → Editing S → S → ℕ → Type 0
HasStatement e s number = (t : ProgramTree) × e.Reads s t × IsNumber t number

-- the command is refused in this state
abbrev pub Refusal : {S : Type 0} → Editing S → S → Command → Type 0
Refusal e s c = (why : Cause) × e.Refuses s c why

-- the name where it is that of a scalar, none where it isn't
abbrev pub IsScalarName : ProgramTree → List ℕ → Option (List ℕ) → Type 0
IsScalarName t x None = is_scalar_name t x ≡ false
IsScalarName t x (Some name) = (is_scalar_name t x ≡ true) × (name ≡ x)

-- the names where they are scalars, none where they aren't
abbrev pub IsScalarChoice : ProgramTree → List (List ℕ) → Option (List (List ℕ)) → Type 0
IsScalarChoice t names None = are_scalars t names ≡ false
IsScalarChoice t names (Some found) = (are_scalars t names ≡ true) × (found ≡ names)

-- the names of all that the DO carries, where they are scalars; none where they aren't
abbrev pub AreScalarNames : {S : Type 0} → Editing S → S → ℕ → Option (List (List ℕ)) → Type 0
AreScalarNames e s number found =
    (t : ProgramTree) × e.Reads s t × (names : List (List ℕ)) × AreCarried t number names × IsScalarChoice t names found

-- what a further round does at a DO to the causes reported so far: nothing where `parallel` is accepted; else its cause comes after them, and nothing changes
abbrev pub TellsCause : {S : Type 0} → Editing S → ℕ → S → List Command → List (ℕ × Refused) → S → List Command → List (ℕ × Refused) → Type 0
TellsCause e number s accepted left next more told =
    ((length accepted < length more) × (told ≡ left))
    ⊎ ((why : Refused) × e.Refuses s (Parallel number) (cause_of why) × IsShort why × (next ≡ s) × (more ≡ accepted) × (told ≡ left ++ (number, why) ∷ []))
