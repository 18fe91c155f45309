-- `reject`: the user says that a name's pending dependences which a DO carries aren't there (ParaScope).
use Rattle.std.specs.Prelude.{◌≡◌, ℕ, List, [], ◌∷◌, ◌++◌, All, Bool, true, false, ◌&&◌}
use Rattle.ped_base.specs.Lists.{is_same_text}
use Rattle.ped_tree.specs.Tree.{Head, StmtTrees, Do, ProgramTree}
use Rattle.ped_tree.specs.Grammar.Words.{is_name}
use Rattle.ped_rules.specs.Carried.{is_carried_by}
use Rattle.ped_rules.specs.Chains.{no_rules, also}
use Rattle.ped_rules.specs.OnlyLoops.{on_loop}
use Rattle.ped_rules.specs.Rules.{WhereNoLoop}
use Rattle.ped_rules.specs.Steps.{rejection, StepAt, asks_no_more}
use Rattle.ped_rules.specs.ped_graph.specs.Dependences.{AreEdges}
use Rattle.ped_edges.specs.Edges.{Mark, proven, pending, rejected, Edge}
use Rattle.ped_rules.specs.ped_flow.specs.Questions.{LoopOf}
use Rattle.ped_rules.specs.ped_steps.specs.declared.rules.Rule.TheVariants.{NoLoop, NothingToReject}
use Rattle.ped_rules.specs.ped_steps.specs.Causes.{Rules, IsFirstCause, none_forbids}
use Rattle.ped_rules.specs.ped_steps.specs.Replacing.{alone, program_with, all_kept}

-- the DO with the name last in its directives (ParaScope)
abbrev pub with_rejection : List ℕ → Head → StmtTrees → StmtTrees
with_rejection x h body = alone (Do (record h { rejected = h.rejected ++ x ∷ [] }) body)

-- the program after the step (ParaScope)
abbrev pub with_directive : ProgramTree → ℕ → List ℕ → ProgramTree
with_directive t s x = program_with (on_loop (with_rejection x)) s t

-- neither the tests nor the user say whether the dependence is there (ParaScope)
abbrev pub is_pending : Mark → Bool
is_pending proven = false
is_pending pending = true
is_pending rejected = false

-- what a dependence is on is the variable of this name; the data and the output, which it may be on too, are no variables (ParaScope; this project)
abbrev pub is_variable : List ℕ → List ℕ → Bool
is_variable x on = is_name on && is_same_text x on

-- the dependence is pending, and is on the variable of this name (ParaScope)
abbrev pub is_pending_of : List ℕ → Edge → Bool
is_pending_of x e = is_pending e.mark && is_variable x e.name

-- the DO carries no pending dependence on the name (ParaScope)
abbrev pub NothingPending : ProgramTree → (s : ℕ) → List ℕ → Type 0
NothingPending t s x = (edges : List Edge) → AreEdges t edges → All (λ e. (is_carried_by t s e && is_pending_of x e) ≡ false) edges

-- rule 18: there is nothing to reject (ParaScope)
abbrev pub WhereNothing : ProgramTree → (s : ℕ) → List ℕ → ℕ → Type 0
WhereNothing t s x n = LoopOf t s × NothingPending t s x × (n ≡ s)

-- what the step makes, which keeps each statement with its number (ParaScope)
abbrev pub MakesRejection : (s : ℕ) → List ℕ → ProgramTree → ProgramTree → List (ℕ × ℕ) → Type 0
MakesRejection s x t new keep = (new ≡ with_directive t s x) × (keep ≡ all_kept t)

-- which rules forbid the step: the statement is no DO; the DO carries no pending dependence on the name. Where neither forbids it, the new program is valid if this one is (ParaScope)
abbrev pub StandsAgainstRejection : (s : ℕ) → List ℕ → ProgramTree → Rules
StandsAgainstRejection s x t =
    also NoLoop (WhereNoLoop t s)
    (also NothingToReject (WhereNothing t s x) no_rules)

-- `reject s x`: it promises nothing about the meaning, since it takes the user's word for what the steps after it keep (ParaScope)
abbrev pub rejecting : ℕ → List ℕ → StepAt
rejecting s x = record {
  statement = s;
  kind = rejection;
  IsCause = λ t. IsFirstCause t (StandsAgainstRejection s x t) none_forbids;
  Makes = MakesRejection s x;
  IsTrueFor = asks_no_more;
}
