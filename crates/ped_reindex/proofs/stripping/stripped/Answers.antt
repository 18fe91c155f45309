use Rattle.std.proofs.Common.{ℕ, List, Option, IfOk, MatchOption, subst, ℤ, ap, ◌∙◌}
use Rattle.std.specs.Int.{w64}
use Rattle.std.proofs.lemmas.Int.{to_z-of_z}
use Rattle.ped_tree.specs.Tree.{ProgramTree}
use Rattle.ped_tree.specs.Views.{program_tree}
use Rattle.ped_rules.specs.ped_symbols.specs.NameRefusals.{IsValid}
use Rattle.ped_rules.specs.ped_steps.specs.Changes.{IsChange}
use Rattle.ped_rules.specs.ped_steps.specs.declared.changes.Change.{Change}
use Rattle.ped_rules.specs.ped_steps.proofs.Answering.{few_numbers}
use Rattle.ped_reindex.specs.Stripping.{stripped}
use Rattle.ped_reindex.proofs.stripping.stripped.Goals as goal

pub with_strips-requires-clause-few : goal.with_strips-requires-clause-few
with_strips-requires-clause-few g c = few_numbers (program_tree c.args.scene.now.tree.now) c.requires.scene.valid

pub moved_by-requires : goal.moved_by-requires
moved_by-requires g c = few_numbers (program_tree c.args.scene.now.tree.now) c.requires.scene.valid

pub returns : goal.returns
returns g c =
    let u = stripped (program_tree c.args.scene.now.tree.now) c.args.number c.args.size c.args.name in
    subst (λ (k : List (ℕ × ℕ)). IfOk c.change_to.result (λ (found : Option Change). MatchOption found (IsValid u → ⊥) (IsChange u k))) c.in_ok-keep.ensures
    (subst (λ (v : ProgramTree). IfOk c.change_to.result (λ (found : Option Change). MatchOption found (IsValid v → ⊥) (IsChange v c.in_ok-keep.keep))) (c.in_ok-tree.ensures.tree ∙ ap (λ (z : ℤ). stripped (program_tree c.args.scene.now.tree.now) c.args.number z c.args.name) (to_z-of_z w64 c.args.size c.ranges.size)) c.change_to.ensures)
