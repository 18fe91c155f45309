use Rattle.std.proofs.Common.{◌≡◌, ℕ, List, Option, IfOk, MatchOption, All, length, sym, ap, subst, ◌∙◌}
use Rattle.std.proofs.lemmas.List.{length-map}
use Rattle.ped_tree.specs.Tree.{StmtTrees, ProgramTree}
use Rattle.ped_tree.specs.Views.{program_tree, stmt_trees, head_of}
use Rattle.ped_rules.specs.ped_steps.specs.Changes.{IsChange}
use Rattle.ped_rules.specs.ped_steps.specs.declared.changes.Change.{Change}
use Rattle.ped_rules.specs.ped_symbols.specs.NameRefusals.{IsValid}
use Rattle.ped_rules.specs.ped_steps.proofs.Answering.{few_numbers}
use Rattle.ped_splits.specs.Units.{units}
use Rattle.ped_splits.specs.CodeUnits.{AreBelow, body_of, unit_tree}
use Rattle.ped_splits.specs.Distributing.{distributed, sources, kept_from}
use Rattle.ped_splits.proofs.PiBlockSizes.{found_below, sources_short}
use Rattle.ped_splits.proofs.DistributeAnswers.{distributed_program}
use Rattle.ped_splits.proofs.distributing.distributed.Goals as goal

pub loops_of-requires-clause-below : goal.loops_of-requires-clause-below
loops_of-requires-clause-below g c =
    let parted = c.args.parted.now in
    let long : length (units (body_of parted)) ≡ length parted.units.now = sym (ap (λ (us : List StmtTrees). length us) c.requires.parted.parts) ∙ length-map parted.units.now unit_tree in
    subst (λ (n : ℕ). All (AreBelow n) c.args.found.now) long (found_below (program_tree c.args.scene.now.tree.now) parted.number (head_of parted.statement.now) (body_of parted) c.args.found.now c.requires.pi_blocks)

pub program_with-requires : goal.program_with-requires
program_with-requires g c = few_numbers (program_tree c.args.scene.now.tree.now) c.requires.scene.valid

pub kept-requires-clause-few : goal.kept-requires-clause-few
kept-requires-clause-few g c = few_numbers (program_tree c.args.scene.now.tree.now) c.requires.scene.valid

pub kept-requires-clause-short : goal.kept-requires-clause-short
kept-requires-clause-short g c =
    sources_short (program_tree c.args.scene.now.tree.now) c.args.parted.now.number (head_of c.args.parted.now.statement.now) (body_of c.args.parted.now) c.args.found.now c.requires.pi_blocks c.requires.parted.is c.requires.scene.valid

pub returns : goal.returns
returns g c =
    let t = program_tree c.args.scene.now.tree.now in
    let s = c.args.parted.now.number in
    let h = head_of c.args.parted.now.statement.now in
    let body = body_of c.args.parted.now in
    let found = c.args.found.now in
    let u = distributed t s found in
    let made = ap stmt_trees c.deref.ensures.value ∙ c.in_ok-loops.ensures in
    let tree = c.in_ok-tree.ensures.tree ∙ distributed_program t s found h body (stmt_trees c.deref.result.now) c.requires.parted.is made in
    subst (λ (k : List (ℕ × ℕ)). IfOk c.change_to.result (λ (change : Option Change). MatchOption change (IsValid u → ⊥) (IsChange u k))) {x = c.in_ok-keep.keep} {y = kept_from 1 (sources t s body found)} c.in_ok-keep.ensures
    (subst (λ (v : ProgramTree). IfOk c.change_to.result (λ (change : Option Change). MatchOption change (IsValid v → ⊥) (IsChange v c.in_ok-keep.keep))) tree c.change_to.ensures)
