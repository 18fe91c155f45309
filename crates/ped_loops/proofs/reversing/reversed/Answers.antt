use Rattle.std.proofs.Common.{ℕ, List, Option, IfOk, MatchOption, subst, arith}
use Rattle.ped_tree.specs.Tree.{ProgramTree}
use Rattle.ped_tree.specs.Views.{program_tree}
use Rattle.ped_rules.specs.ped_symbols.specs.NameRefusals.{IsValid}
use Rattle.ped_rules.specs.ped_steps.specs.Changes.{IsChange}
use Rattle.ped_rules.specs.ped_steps.specs.declared.changes.Change.{Change}
use Rattle.ped_rules.specs.ped_steps.proofs.Answering.{few_numbers}
use Rattle.ped_loops.specs.Reversing.{reversed}
use Rattle.ped_loops.proofs.reversing.reversed.Goals as goal

pub with_turned-requires-clause-few : goal.with_turned-requires-clause-few
with_turned-requires-clause-few g c = few_numbers (program_tree c.args.scene.now.tree.now) c.requires.scene.valid

pub all_kept-requires : goal.all_kept-requires
all_kept-requires g c = let few = few_numbers (program_tree c.args.scene.now.tree.now) c.requires.scene.valid in omega (arith, few)

pub returns : goal.returns
returns g c =
    let u = reversed (program_tree c.args.scene.now.tree.now) c.args.number in
    subst (λ (k : List (ℕ × ℕ)). IfOk c.change_to.result (λ (found : Option Change). MatchOption found (IsValid u → ⊥) (IsChange u k))) c.in_ok-keep.ensures
    (subst (λ (v : ProgramTree). IfOk c.change_to.result (λ (found : Option Change). MatchOption found (IsValid v → ⊥) (IsChange v c.in_ok-keep.keep))) c.in_ok-tree.ensures.tree c.change_to.ensures)
