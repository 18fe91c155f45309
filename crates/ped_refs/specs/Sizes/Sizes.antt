-- How large a program within the limits is (this project).
use Rattle.std.specs.Prelude.{◌≤◌, ◌*◌, length}
use Rattle.std.specs.List.{AllByRecursion}
use Rattle.ped_tree.specs.Tree.{ProgramTree}
use Rattle.ped_tree.specs.Numbering.{statements_count}
use Rattle.ped_tree.specs.Grammar.LimitNumbers.{most_statements, most_references, most_loops_nested}
use Rattle.ped_refs.specs.References.{Reference, references}

-- at most as many statements, references of each, and DO loops around each reference as the limits allow
pub record IsSmall (t : ProgramTree) : Type 0 where
  pub few_statements : statements_count t.body ≤ most_statements
  pub few_references : length (references t) ≤ most_references * most_statements
  pub shallow : AllByRecursion (λ (r : Reference). length r.nest ≤ most_loops_nested) (references t)
