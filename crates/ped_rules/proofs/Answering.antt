-- From the first cause that the code finds to what it answers, where a step is forbidden by rules and by the dependences that pass a test.
use Rattle.std.proofs.Common.{◌≡◌, ℕ, List, [], ◌∷◌, All, Bool, false, Some, None, Ok, Err, refl, sym, subst}
use Rattle.std.proofs.lemmas.List.Elements.{All-nil, All-cons}
use Rattle.ped_tree.specs.Tree.{ProgramTree}
use Rattle.ped_edges.specs.Edges.{Edge}
use Rattle.ped_edges.specs.declared.edges.Edge.{Edge as CodeEdge}
use Rattle.ped_loop_runs.specs.ped_steps.specs.declared.rules.Rule.{Rule}
use Rattle.ped_loop_runs.specs.ped_steps.specs.declared.causes.Refused.{Refused}
use Rattle.ped_loop_runs.specs.ped_steps.specs.declared.causes.Refused.TheVariants as variant
use Rattle.ped_loop_runs.specs.ped_steps.specs.declared.changes.Change.{Change}
use Rattle.ped_loop_runs.specs.ped_steps.specs.Causes.{Rules, NoRule, IsFirstRule, IsFirstCause, none_forbids}
use Rattle.ped_loop_runs.specs.ped_steps.specs.Changes.{IsChange}
use Rattle.ped_rules.specs.Steps.{StepKind, StepAt, asks_no_more, Answers}
use Rattle.ped_rules.specs.Carried.{IsFirstOf}

-- a step at a statement that rules and dependences forbid
abbrev pub step_by : StepKind → ℕ → (ProgramTree → Rules) → (ProgramTree → Edge → Bool) → (ProgramTree → ProgramTree → List (ℕ × ℕ) → Type 0) → StepAt
step_by kind s stands forbids Makes = record {
  statement = s;
  kind = kind;
  IsCause = λ t. IsFirstCause t (stands t) (forbids t);
  Makes = Makes;
  IsTrueFor = asks_no_more;
}

module _ (kind : StepKind) (s : ℕ) (stands : ProgramTree → Rules) (forbids : ProgramTree → Edge → Bool) (Makes : ProgramTree → ProgramTree → List (ℕ × ℕ) → Type 0) (t : ProgramTree) where
  -- its first rule
  pub refused_by : (r : Rule) (n : ℕ) (refused : Refused) → refused ≡ variant.Rule r n → IsFirstRule (stands t) r n → Answers (step_by kind s stands forbids Makes) t (Err refused)
  refused_by r n refused is first = subst (λ (e : Refused). Answers (step_by kind s stands forbids Makes) t (Err e)) (sym is) (first, tt)

  -- the first dependence that forbids it
  pub forbidden_by : (e : CodeEdge) (refused : Refused) → refused ≡ variant.Dependence e → NoRule (stands t) → IsFirstOf t (forbids t) (Some e) → Answers (step_by kind s stands forbids Makes) t (Err refused)
  forbidden_by e refused is none first = subst (λ (x : Refused). Answers (step_by kind s stands forbids Makes) t (Err x)) (sym is) ((none, first.0.0, first.0.1, first.0.2), first.1)

  -- none of both
  pub accepted_by : (change : Change) (new : ProgramTree) (keep : List (ℕ × ℕ)) → NoRule (stands t) → IsFirstOf t (forbids t) None → Makes t new keep → IsChange new keep change → Answers (step_by kind s stands forbids Makes) t (Ok change)
  accepted_by change new keep none first makes made = ((none, first), new, keep, makes, made)

-- where no dependence forbids a step, none does
pub none_first : (t : ProgramTree) → IsFirstOf t none_forbids None
none_first t edges are = all edges
  where
    all : (es : List Edge) → All (λ (e : Edge). none_forbids e ≡ false) es
    all [] = All-nil (λ (e : Edge). none_forbids e ≡ false)
    all (e ∷ es) = All-cons (λ (f : Edge). none_forbids f ≡ false) e es refl (all es)
