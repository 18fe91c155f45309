-- What is true of every step of the editor (ParaScope; this project).
use Rattle.std.specs.Prelude.{◌≡◌, ℕ, List, Option, None, ⊤}
use Rattle.ped_tree.specs.Tree.{ProgramTree}
use Rattle.ped_loop_runs.specs.ped_symbols.specs.NameRefusals.{IsValid}
use Rattle.ped_loop_runs.specs.ped_graph.specs.Keeping.{IsOneToOne}
use Rattle.ped_loop_runs.specs.ped_steps.specs.Causes.{Cause}
use Rattle.ped_loop_runs.specs.ped_eval.specs.Outcomes.{IsRaceFree}
use Rattle.ped_loop_runs.specs.ped_steps.specs.Tidy.{IsTidy}
use Rattle.ped_loop_runs.specs.ped_steps.specs.Runs.Meaning.{Keeps}
use Rattle.ped_loop_runs.specs.Meaning.{KeepsOn}
use Rattle.ped_loop_runs.specs.TrueRejections.{IsTrueOn}
use Rattle.ped_loop_runs.specs.Unrejected.{IsTrusted}
use Rattle.ped_rules.specs.Steps.{StepKind, transformation, rejection, StepAt}

-- a step makes a valid program of this one (plain words)
abbrev pub MakesSome : StepAt → ProgramTree → Type 0
MakesSome at t = (new : ProgramTree) × (keep : List (ℕ × ℕ)) × at.Makes t new keep × IsValid new

-- a new program may be trusted as the old one, and means the same (Allen and Kennedy, section 2.2.3; ParaScope)
pub record IsFaithful (t new : ProgramTree) : Type 0 where
  pub trusted : IsTrusted new
  pub keeps : Keeps t new

-- what a step of a kind owes: of a program that may be trusted a transformation makes one that may be trusted and means the same; a rejection owes nothing (ParaScope)
abbrev pub Owes : StepKind → ProgramTree → ProgramTree → Type 0
Owes transformation t new = IsTrusted t → IsFaithful t new
Owes rejection t new = ⊤

-- what a step of a kind owes on data, whatever C$PED REJECT lines there are: where both programs are tidy, the old one runs without a fault and without a race, and no rejected dependence occurs, neither of the old program nor of those besides that the step asks, a transformation keeps the outcome, and makes no race; a rejection owes nothing (Allen and Kennedy, section 2.2.3; ParaScope; this project)
abbrev pub OwesOn : StepAt → ProgramTree → ProgramTree → (data_bytes : List ℕ) → Type 0
OwesOn at t new data_bytes = at.kind ≡ transformation → IsTidy t → IsTidy new → IsTrueOn t data_bytes → at.IsTrueFor t data_bytes → IsRaceFree t data_bytes → KeepsOn t new data_bytes

-- a step has one first cause at most; it makes one program and keeps the same statements; and where nothing forbids it, it makes a valid program of a valid one (plain words)
pub record IsDetermined (at : StepAt) : Type 0 where
  pub one_cause : (t : ProgramTree) (c d : Option Cause) → at.IsCause t c → at.IsCause t d → c ≡ d
  pub one_made : (t new other : ProgramTree) (keep more : List (ℕ × ℕ)) → at.Makes t new keep → at.Makes t other more → (new ≡ other) × (keep ≡ more)
  pub some_made : (t : ProgramTree) → IsValid t → at.IsCause t None → MakesSome at t

-- a step has one first cause at most; it makes one program and keeps the same statements, each of which goes to one place and comes from one; where nothing forbids it, it makes a valid program of a valid one; and what it makes then, of a valid program without C$PED REJECT whose PARALLEL DOs leave their variables alone, is such a program and means the same, unless the step is a rejection; and with C$PED REJECT lines it keeps the meaning on data on which these are true, where the PARALLEL DOs of both programs leave their variables alone (ParaScope; this project)
pub record IsLawful (at : StepAt) : Type 0 where
  pub one_cause : (t : ProgramTree) (c d : Option Cause) → at.IsCause t c → at.IsCause t d → c ≡ d
  pub one_made : (t new other : ProgramTree) (keep more : List (ℕ × ℕ)) → at.Makes t new keep → at.Makes t other more → (new ≡ other) × (keep ≡ more)
  pub one_to_one : (t new : ProgramTree) (keep : List (ℕ × ℕ)) → at.Makes t new keep → IsOneToOne keep
  pub some_made : (t : ProgramTree) → IsValid t → at.IsCause t None → MakesSome at t
  pub keeps : (t new : ProgramTree) (keep : List (ℕ × ℕ)) → IsValid t → at.IsCause t None → at.Makes t new keep → Owes at.kind t new
  pub keeps_on : (t new : ProgramTree) (keep : List (ℕ × ℕ)) (data_bytes : List ℕ) → IsValid t → at.IsCause t None → at.Makes t new keep → OwesOn at t new data_bytes
