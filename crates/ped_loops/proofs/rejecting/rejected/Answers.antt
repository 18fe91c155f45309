use Rattle.std.proofs.Common.{ℕ, List, sym, subst, arith}
use Rattle.ped_tree.specs.Tree.{ProgramTree}
use Rattle.ped_tree.specs.Views.{program_tree}
use Rattle.ped_rules.specs.ped_symbols.specs.NameRefusals.{IsValid}
use Rattle.ped_rules.specs.ped_steps.specs.Changes.{IsChange}
use Rattle.ped_rules.specs.ped_steps.proofs.Answering.{few_numbers}
use Rattle.ped_loops.specs.Rejecting.{with_directive}
use Rattle.ped_loops.proofs.FlagAnswers.{some_made, none_made}
use Rattle.ped_loops.proofs.rejecting.rejected.Goals as goal

pub with_directive-requires-clause-few : goal.with_directive-requires-clause-few
with_directive-requires-clause-few g c = few_numbers (program_tree c.args.scene.now.tree.now) c.requires.scene.valid

pub all_kept-requires : goal.all_kept-requires
all_kept-requires g c = let few = few_numbers (program_tree c.args.scene.now.tree.now) c.requires.scene.valid in omega (arith, few)

pub returns-in-Some : goal.returns-in-Some
returns-in-Some g c =
    let made = some_made (program_tree c.in_ok-tree.tree) c.in_ok-keep.keep c.in_ok-change.field-0 c.in-Some.change c.in-Some.is c.in_ok-change.ensures in
    subst (λ (k : List (ℕ × ℕ)). IsChange (with_directive (program_tree c.args.scene.now.tree.now) c.args.number c.args.name.now) k c.in-Some.change) c.in_ok-keep.ensures
    (subst (λ (u : ProgramTree). IsChange u c.in_ok-keep.keep c.in-Some.change) c.in_ok-tree.ensures.tree made)

pub unreachable-requires : goal.unreachable-requires
unreachable-requires g c = none_made (program_tree c.in_ok-tree.tree) c.in_ok-keep.keep c.in_ok-change.field-0 c.in-None.is c.in_ok-change.ensures (subst IsValid (sym c.in_ok-tree.ensures.tree) c.requires.valid)
