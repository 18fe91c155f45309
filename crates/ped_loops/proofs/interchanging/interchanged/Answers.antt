use Rattle.std.proofs.Common.{ℕ, List, Option, IfOk, MatchOption, subst, arith}
use Rattle.ped_tree.specs.Tree.{ProgramTree}
use Rattle.ped_tree.specs.Views.{program_tree, stmt_trees, head_of}
use Rattle.ped_rules.specs.ped_symbols.specs.NameRefusals.{IsValid}
use Rattle.ped_rules.specs.ped_steps.specs.Changes.{IsChange}
use Rattle.ped_rules.specs.ped_steps.specs.declared.changes.Change.{Change}
use Rattle.ped_rules.specs.ped_steps.proofs.Answering.{few_numbers}
use Rattle.ped_rules.specs.ped_flow.proofs.Answering.{loop_fits}
use Rattle.ped_loops.specs.Interchanging.{interchanged}
use Rattle.ped_loops.proofs.interchanging.interchanged.Goals as goal

pub with_new-requires-clause-few : goal.with_new-requires-clause-few
with_new-requires-clause-few g c = few_numbers (program_tree c.args.scene.now.tree.now) c.requires.scene.valid

pub all_but-requires : goal.all_but-requires
all_but-requires g c = let few = few_numbers (program_tree c.args.scene.now.tree.now) c.requires.scene.valid in omega (arith, few)

pub overflow_add-number : goal.overflow_add-number
overflow_add-number g c =
    let few = few_numbers (program_tree c.args.scene.now.tree.now) c.requires.scene.valid in
    let fits = loop_fits (program_tree c.args.scene.now.tree.now) c.args.number (head_of c.args.outer.now) (stmt_trees c.args.outer.now.body.items) c.requires.is in
    omega (arith, few, fits)

pub returns : goal.returns
returns g c =
    let u = interchanged (program_tree c.args.scene.now.tree.now) c.args.number in
    subst (λ (k : List (ℕ × ℕ)). IfOk c.change_to.result (λ (found : Option Change). MatchOption found (IsValid u → ⊥) (IsChange u k))) c.in_ok-keep.ensures
    (subst (λ (v : ProgramTree). IfOk c.change_to.result (λ (found : Option Change). MatchOption found (IsValid v → ⊥) (IsChange v c.in_ok-keep.keep))) c.in_ok-tree.ensures.tree c.change_to.ensures)
