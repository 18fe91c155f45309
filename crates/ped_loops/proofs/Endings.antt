-- From what the rules of a step answer, and the dependence that its code finds, to what it answers.
use Rattle.std.proofs.Common.{◌≡◌, ℕ, List, Bool, Option, Some, None, Result, Ok, Err, refl, sym, subst}
use Rattle.std.specs.Prelude.{IfOk}
use Rattle.ped_base.specs.declared.memory.NoMemory.{NoMemory}
use Rattle.ped_tree.specs.Tree.{ProgramTree}
use Rattle.ped_edges.specs.Edges.{Edge}
use Rattle.ped_edges.specs.declared.edges.Edge.{Edge as CodeEdge}
use Rattle.ped_rules.specs.Carried.{IsFirstOf}
use Rattle.ped_rules.specs.Steps.{transformation, Answers}
use Rattle.ped_rules.specs.ped_steps.specs.Causes.{Rules, IsFirstRule}
use Rattle.ped_rules.specs.ped_steps.specs.declared.rules.Rule.{Rule}
use Rattle.ped_rules.specs.ped_steps.specs.declared.causes.Refused.{Refused}
use Rattle.ped_rules.specs.ped_steps.specs.declared.causes.Refused.TheVariants as variant
use Rattle.ped_rules.specs.ped_steps.specs.declared.changes.Change.{Change}
pub use Rattle.ped_rules.proofs.Answering.{step_by, forbidden_by, accepted_by}
use Rattle.ped_loops.specs.CodeEnding.{IsByRules, unless_forbidden}

-- a rule that is the first
pub ruled : (stands : Rules) (new : ProgramTree) (keep : List (ℕ × ℕ)) (r : Rule) (n : ℕ) (refused : Refused) → refused ≡ variant.Rule r n → IsFirstRule stands r n → IsByRules stands new keep (Err refused)
ruled stands new keep r n refused is first = subst (λ (e : Refused). IsByRules stands new keep (Err e)) (sym is) first

-- a transformation at a statement that rules and dependences forbid, in a program of which it makes this one
module _ (s : ℕ) (stands : ProgramTree → Rules) (forbids : ProgramTree → Edge → Bool) (Makes : ProgramTree → ProgramTree → List (ℕ × ℕ) → Type 0) (t new : ProgramTree) (keep : List (ℕ × ℕ)) (makes : Makes t new keep) where
  by_rule : (refused : Refused) → IsByRules (stands t) new keep (Err refused) → Answers (step_by transformation s stands forbids Makes) t (Err refused)
  by_rule (variant.Rule r n) first = (first, tt)
  by_rule (variant.Dependence e) first = absurd first

  by_dependences : (change : Change) → IsByRules (stands t) new keep (Ok change) → (found : Result (Option CodeEdge) NoMemory) → IfOk found (IsFirstOf t (forbids t)) → IfOk (unless_forbidden change found) (Answers (step_by transformation s stands forbids Makes) t)
  by_dependences change ruled (Ok None) first = accepted_by transformation s stands forbids Makes t change new keep ruled.0 first makes ruled.1
  by_dependences change ruled (Ok (Some e)) first = forbidden_by transformation s stands forbids Makes t e (variant.Dependence e) refl ruled.0 first
  by_dependences change ruled (Err e) first = tt

  module _ (answer : Result Change Refused) (by_rules : IsByRules (stands t) new keep answer) where
    -- where a rule forbids it
    pub refused_at_once : (refused : Refused) → answer ≡ Err refused → Answers (step_by transformation s stands forbids Makes) t (Err refused)
    refused_at_once refused is = by_rule refused (subst (IsByRules (stands t) new keep) is by_rules)

    -- where none does
    pub ended : (change : Change) → answer ≡ Ok change → (found : Result (Option CodeEdge) NoMemory) → IfOk found (IsFirstOf t (forbids t))
        → (result : Result (Result Change Refused) NoMemory) → result ≡ unless_forbidden change found → IfOk result (Answers (step_by transformation s stands forbids Makes) t)
    ended change is found first result e =
        subst (λ (r : Result (Result Change Refused) NoMemory). IfOk r (Answers (step_by transformation s stands forbids Makes) t)) (sym e)
        (by_dependences change (subst (IsByRules (stands t) new keep) is by_rules) found first)
