use Rattle.std.proofs.Common.{ℕ, List, Option, IfOk, MatchOption, subst}
use Rattle.ped_tree.specs.Tree.{ProgramTree}
use Rattle.ped_tree.specs.Views.{program_tree, stmt_trees, head_of}
use Rattle.ped_rules.specs.ped_symbols.specs.NameRefusals.{IsValid}
use Rattle.ped_rules.specs.ped_steps.specs.Changes.{IsChange}
use Rattle.ped_rules.specs.ped_steps.specs.declared.changes.Change.{Change}
use Rattle.ped_rules.specs.ped_steps.proofs.Answering.{few_numbers}
use Rattle.ped_reindex.specs.Peeling.{peeled}
use Rattle.ped_reindex.specs.CodePeeling.{peeled_in}
use Rattle.ped_rules.specs.ped_flow.proofs.Answering.{loop_fits}
use Rattle.ped_reindex.proofs.KeptRooms.{few_twice}
use Rattle.ped_reindex.proofs.peeling.peeled.Goals as goal

pub with_peeled-requires-clause-few : goal.with_peeled-requires-clause-few
with_peeled-requires-clause-few g c = few_numbers (program_tree c.args.scene.now.tree.now) c.requires.scene.valid

pub peel_kept-requires-clause-few : goal.peel_kept-requires-clause-few
peel_kept-requires-clause-few g c = few_twice (program_tree c.args.scene.now.tree.now) c.args.number (head_of c.args.d.now) (stmt_trees c.args.d.now.body.items) c.requires.scene.valid c.requires.is

pub peel_kept-requires-clause-inside : goal.peel_kept-requires-clause-inside
peel_kept-requires-clause-inside g c = loop_fits (program_tree c.args.scene.now.tree.now) c.args.number (head_of c.args.d.now) (stmt_trees c.args.d.now.body.items) c.requires.is

pub returns : goal.returns
returns g c =
    let u = peeled (program_tree c.args.scene.now.tree.now) c.args.number c.args.last (peeled_in c.args.taken) in
    subst (λ (k : List (ℕ × ℕ)). IfOk c.change_to.result (λ (found : Option Change). MatchOption found (IsValid u → ⊥) (IsChange u k))) c.in_ok-keep.ensures
    (subst (λ (v : ProgramTree). IfOk c.change_to.result (λ (found : Option Change). MatchOption found (IsValid v → ⊥) (IsChange v c.in_ok-keep.keep))) c.in_ok-tree.ensures.tree c.change_to.ensures)
