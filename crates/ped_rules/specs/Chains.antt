-- The rules of a step as a chain: each rule with the condition under which it forbids the step, and then the others (this project).
use Rattle.std.specs.Prelude.{◌≡◌, ◌⊎◌, ℕ, Bool, true, false}
use Rattle.ped_tree.specs.Tree.{Head, StmtTrees, ProgramTree}
use Rattle.ped_loop_runs.specs.ped_flow.specs.Questions.{LoopOf}
use Rattle.ped_loop_runs.specs.ped_steps.specs.declared.rules.Rule.{Rule}
use Rattle.ped_loop_runs.specs.ped_steps.specs.Causes.{Rules}

-- no rule forbids the step
abbrev pub no_rules : Rules
no_rules q n = ⊥

-- this rule forbids the step at the statements for which this holds, and others may do so
abbrev pub also : Rule → (ℕ → Type 0) → Rules → Rules
also r P others q n = ((q ≡ r) × P n) ⊎ others q n

-- the statement with number s is a DO whose head and body pass the test, and the rule names it
abbrev pub WhereLoop : ProgramTree → (s : ℕ) → (Head → StmtTrees → Bool) → ℕ → Type 0
WhereLoop t s test n = (l : LoopOf t s) × (test l.head l.body ≡ true) × (n ≡ s)

-- where a number isn't allowed, what is asked of the program that it would make isn't asked (this project)
abbrev pub Unless : (bad : Bool) → (ℕ → Type 0) → ℕ → Type 0
Unless bad P n = (bad ≡ false) × P n
