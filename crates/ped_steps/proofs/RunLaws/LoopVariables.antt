-- The variable and the increment of a DO of a valid program.
use Rattle.std.proofs.Common.{◌≡◌, ℕ, ℤ, pos, Bool, true, false, not, ◌||◌, Option, Some, None, ap, subst, ◌∙◌, int_eq}
use Rattle.std.specs.List.{list_all}
use Rattle.std.proofs.lemmas.Bool.{and_parts}
use Rattle.ped_base.specs.Lists.{is_among}
use Rattle.ped_tree.specs.Tree.{Head, StmtTrees, Do, ProgramTree}
use Rattle.ped_tree.specs.Grammar.Fits.{in_loop, loop_fits, stmts_fit}
use Rattle.ped_tree.specs.Constants.ConstantExpressions.{constant_value}
use Rattle.ped_base.proofs.NameEquality.{same_itself}
use Rattle.ped_weaves.specs.ped_graph.specs.ped_symbols.specs.Kinds.{kind_in, at_last}
use Rattle.ped_weaves.specs.ped_graph.specs.ped_symbols.specs.NameRefusals.{IsValid}
use Rattle.ped_weaves.specs.ped_graph.specs.ped_symbols.specs.RightUses.RightUses.{is_scalar, expr_is_right, head_is_right, stmts_are_right}
use Rattle.ped_weaves.specs.ped_graph.specs.ped_symbols.specs.RightUses.RightLoops.{is_small, is_step, step_is_right, steps_are_right}
use Rattle.ped_tree.specs.NamesIn.{all_loop_variables}
use Rattle.ped_weaves.specs.ped_eval.specs.Scopes.{Setting}
use Rattle.ped_weaves.specs.ped_eval.specs.Outcomes.{setting_of}
use Rattle.ped_weaves.specs.ped_flow.specs.Questions.{LoopOf}
use Rattle.ped_steps.proofs.RunLaws.ProgramParts.{IsPart, part_at, all_apart_in}

-- an increment that is right isn't 0
step_moves : (o : Option ℤ) (n : ℤ) → o ≡ Some n → is_step o ≡ true → n ≡ pos 0 → ⊥
step_moves None n e h z = absurd cc
step_moves (Some m) n e h z = still m (some_is m n e ∙ z) (and_parts (not (int_eq m (pos 0))) (is_small m) h).0
  where
    some_is : (a b : ℤ) → Some a ≡ Some b → a ≡ b
    some_is a b e = cc

    at_zero : not (int_eq (pos 0) (pos 0)) ≡ true → ⊥
    at_zero k = absurd cc

    still : (m : ℤ) → m ≡ pos 0 → not (int_eq m (pos 0)) ≡ true → ⊥
    still m q k = at_zero (subst (λ (y : ℤ). not (int_eq y (pos 0)) ≡ true) q k)

module _ (t : ProgramTree) (valid : IsValid t) (l : ℕ) (loop : LoopOf t l) where
  abbrev h : Head
  h = loop.head

  abbrev body : StmtTrees
  body = loop.body

  abbrev p : Setting
  p = setting_of t

  part : IsPart t (Do h body)
  part = part_at t valid l (Do h body) loop.is

  head_right : head_is_right (kind_in t) h ≡ true
  head_right = (and_parts (head_is_right (kind_in t) h) (stmts_are_right (kind_in t) body) part.right).0

  -- the DO's variable is a scalar, and no DO in it has it
  pub variable_scalar : is_scalar (kind_in t) h.variable ≡ true
  variable_scalar =
      let one = and_parts _ (list_all (is_scalar (kind_in t)) h.private) head_right in
      let two = and_parts _ (expr_is_right (kind_in t) h.step) one.0 in
      let three = and_parts _ (expr_is_right (kind_in t) h.last) two.0 in
      (and_parts (is_scalar (kind_in t) h.variable) (expr_is_right (kind_in t) h.first) three.0).0

  pub variable_outside : is_among h.variable (all_loop_variables body) ≡ false
  variable_outside =
      let fit = and_parts (loop_fits part.around h body) (stmts_fit (in_loop part.around h) body) part.fits in
      all_apart_in h.variable (in_loop part.around h) body (ap (λ (b : Bool). b || is_among h.variable part.around.variables) (same_itself h.variable)) fit.1

  pub step_not_zero : (m3 : ℤ) → constant_value p.constants h.step ≡ Some m3 → m3 ≡ pos 0 → ⊥
  step_not_zero m3 e = step_moves (constant_value p.constants h.step) m3 e (and_parts (step_is_right (at_last t).values h.step) (steps_are_right (at_last t).values body) part.steps).0
