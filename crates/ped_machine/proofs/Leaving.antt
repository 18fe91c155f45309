-- What the exit of a DO needs: its variable and its private names stand.
use Rattle.std.proofs.Common.{◌≡◌, ℕ, [], ◌∷◌, Bool, true, ap, ◌∙◌}
use Rattle.std.proofs.lemmas.Bool.{and_parts}
use Rattle.std.specs.List.{list_all}
use Rattle.ped_tree.specs.Tree.{Head, StmtTrees, Do}
use Rattle.ped_symbols.specs.Kinds.{Table}
use Rattle.ped_symbols.specs.RightUses.RightUses.{is_scalar}
use Rattle.ped_store.specs.Memories.{Memory}
use Rattle.ped_interleavings.specs.ped_eval.specs.Scopes.{Scope, cell_of}
use Rattle.ped_interleavings.specs.ped_eval.specs.Loops.{inner_variables}
use Rattle.ped_interleavings.specs.ped_eval.specs.Plans.{IsPlan}
use Rattle.ped_interleavings.specs.ped_eval.specs.Readiness.{kinds_by, CanDo, IsReady}
use Rattle.ped_interleavings.specs.ped_eval.specs.declared.plans.Plan.{Plan}
use Rattle.ped_interleavings.specs.ped_eval.proofs.Iterations.{scalars_stand, variable_scalar, private_scalars, inner_scalars}
use Rattle.ped_interleavings.specs.ped_eval.proofs.Parts.{head_can, body_right}

module _ (table : Table) (scope : Scope) (m : Memory) (n : ℕ) (h : Head) (body : StmtTrees) (can : CanDo table scope n (Do h body)) (ready : IsReady table scope m) where
  pub variable_stands : m.stands (cell_of scope h.variable) ≡ true
  variable_stands =
      let one : list_all (is_scalar (kinds_by table)) (h.variable ∷ []) ≡ true = ap (λ b. list_all (λ (c : Bool). c) (b ∷ [])) (variable_scalar (kinds_by table) h (head_can table scope n h body can)) in
      (and_parts (m.stands (cell_of scope h.variable)) true (scalars_stand table scope m (h.variable ∷ []) ready one)).0

  pub private_stand : list_all (λ x. m.stands (cell_of scope x)) h.private ≡ true
  private_stand = scalars_stand table scope m h.private ready (private_scalars (kinds_by table) h (head_can table scope n h body can))

  pub inner_stand : (plan : Plan) → IsPlan h body plan → list_all (λ x. m.stands (cell_of scope x)) plan.inner ≡ true
  inner_stand plan p =
      ap (list_all (λ x. m.stands (cell_of scope x))) p.inner
      ∙ scalars_stand table scope m (inner_variables h.parallel body) ready (inner_scalars (kinds_by table) h.parallel body (body_right table scope n h body can))
