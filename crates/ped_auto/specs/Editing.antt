-- What an editor means to the strategy: its present program, and what it makes of commands (ParaScope; this project).
use Rattle.std.specs.Prelude.{◌≡◌, ℕ, ◌≤◌, ◌<◌, length, Option, Some, None, option_and_then, if◌then◌else◌, ⊤}
use Rattle.ped_script.specs.declared.items.Command.{Command}
use Rattle.ped_script.specs.declared.items.Command.TheVariants.{Parallel, Privatise, Reduce, Distribute}
use Rattle.ped_script.specs.Kinds.{step_in, is_rejection}
use Rattle.ped_rules.specs.ped_flow.specs.ped_tree.specs.Tree.{ProgramTree}
use Rattle.ped_rules.specs.ped_steps.specs.Causes.{Cause}
use Rattle.ped_rules.specs.ped_steps.specs.CodeCauses.{cause_of, IsShort}
use Rattle.ped_rules.specs.ped_steps.specs.declared.causes.Refused.{Refused}
use Rattle.ped_auto.specs.SerialLoops.{count_of, IsNumber, serial_loops}

-- the meanings of an editor with states of some type: the present program of a state; the state to which a command leads that is accepted, with how many pairs of references are tested for it; and the first cause for which a command is refused
pub record Editing (S : Type 0) : Type 1 where
  pub Reads : S → ProgramTree → Type 0
  pub Accepts : S → Command → S → ℕ → Type 0
  pub Refuses : S → Command → Cause → Type 0

-- the commands of the strategy
abbrev pub IsOfStrategy : Command → Type 0
IsOfStrategy (Parallel number) = ⊤
IsOfStrategy (Privatise number name) = ⊤
IsOfStrategy (Reduce number names) = ⊤
IsOfStrategy (Distribute number) = ⊤
IsOfStrategy command = ⊥

-- what is true of every editor: a state has one present program at most, of at most 4,000 statements; a command is accepted or refused, and not both, with one next state, one number of tests and one first cause at most; each accepted command of the strategy leads to a program with at least as many statements, and `parallel` to one with fewer DOs that aren't PARALLEL DOs
pub record IsEditing {S : Type 0} (e : Editing S) : Type 0 where
  pub one_program : (s : S) (t u : ProgramTree) → e.Reads s t → e.Reads s u → t ≡ u
  pub small : (s : S) (t : ProgramTree) → e.Reads s t → count_of t ≤ 4000
  pub one_next : (s : S) (c : Command) (next other : S) (m n : ℕ) → e.Accepts s c next m → e.Accepts s c other n → (next ≡ other) × (m ≡ n)
  pub one_cause : (s : S) (c : Command) (a b : Cause) → e.Refuses s c a → e.Refuses s c b → a ≡ b
  pub not_both : (s : S) (c : Command) (next : S) (n : ℕ) (why : Cause) → e.Accepts s c next n → e.Refuses s c why → ⊥
  pub grows : (s : S) (c : Command) (next : S) (n : ℕ) (t : ProgramTree) → IsOfStrategy c → e.Accepts s c next n → e.Reads s t → (u : ProgramTree) × e.Reads next u × (count_of t ≤ count_of u)
  pub falls : (s : S) (number : ℕ) (next : S) (n : ℕ) (t u : ProgramTree) → e.Accepts s (Parallel number) next n → e.Reads s t → e.Reads next u → length (serial_loops u) < length (serial_loops t)

-- the statement that a command transforms; none where the command is no transformation
abbrev pub transformed_by : Command → Option ℕ
transformed_by c = option_and_then (λ command. if is_rejection command.step then None else Some command.statement) (step_in c)

-- the command is a transformation of a statement that the program has
abbrev pub IsAt : ProgramTree → Option ℕ → Type 0
IsAt t None = ⊥
IsAt t (Some number) = IsNumber t number

-- the state has a present program, and the command is a transformation of a statement that it has
abbrev pub CanTry : {S : Type 0} → Editing S → S → Command → Type 0
CanTry e s c = (t : ProgramTree) × e.Reads s t × IsAt t (transformed_by c)

-- what an editor answers to a command, and where it leads: nothing where the command is accepted; or the first cause against it, and then the editor is as it was and nothing is tested
abbrev pub Answers : {S : Type 0} → Editing S → S → Command → Option Refused → S → ℕ → Type 0
Answers e s c None next tests = e.Accepts s c next tests
Answers e s c (Some why) next tests = e.Refuses s c (cause_of why) × IsShort why × (next ≡ s) × (tests ≡ 0)
