-- The numbers of a DO and of the statements of its body, in a valid program.
use Rattle.std.proofs.Common.{◌≡◌, ℕ, ◌+◌, ◌-◌, ◌<◌, ◌≤◌, ◌^◌, ◌==◌, Bool, true, false, Some, None, refl, sym, ap, ◌∙◌, arith, eqb-true, if◌then◌else◌}
use Rattle.ped_tree.specs.Numbering.{all_numbered, at_place, statements_count}
use Rattle.ped_tree.specs.Tree.{Head, StmtTree, StmtTrees, Do, ProgramTree}
use Rattle.ped_rules.specs.ped_flow.specs.Questions.{IsLoop}
use Rattle.ped_rules.specs.ped_flow.proofs.Answering.{loop_fits}
use Rattle.ped_rules.specs.ped_symbols.specs.NameRefusals.{IsValid}
use Rattle.ped_rules.specs.ped_symbols.proofs.RightUseLaws.Whole.{right_program}

nothing_there : (d : StmtTree) → None ≡ Some d → ⊥
nothing_there d e = cc

-- a DO has a number
pub is_numbered : (t : ProgramTree) (l : ℕ) (h : Head) (body : StmtTrees) → IsLoop t l h body → 1 ≤ l
is_numbered t l h body is = by (l == 0) refl
  where
    by : (r : Bool) → (l == 0) ≡ r → 1 ≤ l
    by true z = absurd (nothing_there (Do h body) (sym (ap (λ (b : Bool). if b then None else at_place (all_numbered t.body) (l - 1)) z) ∙ is))
    by false z = grind (arith, eqb-true)

-- the statements of a program and those of a DO's body once more are few
pub few_twice : (t : ProgramTree) (l : ℕ) (h : Head) (body : StmtTrees) → IsValid t → IsLoop t l h body → statements_count t.body + statements_count body + 1 < 2 ^ 32
few_twice t l h body valid is = let few = (right_program t valid).few_statements in let room = loop_fits t l h body is in omega (arith, few, room)
