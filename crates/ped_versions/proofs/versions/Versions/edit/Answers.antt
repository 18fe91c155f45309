use Rattle.std.proofs.Common.{ap, sym, subst}
use Rattle.std.proofs.lemmas.Result.{IfOk-weaker}
use Rattle.ped_tree.specs.Views.{program_tree}
use Rattle.ped_valid.specs.ped_symbols.proofs.FewReferences.{few_statements}
use Rattle.ped_update.specs.ped_graph.specs.Keeping.{IsOneToOne}
use Rattle.ped_versions.specs.Holding.{tree_of}
use Rattle.ped_versions.specs.States.{State}
use Rattle.ped_versions.proofs.KeptEnds.{edit_one_to_one}
use Rattle.ped_versions.proofs.PresentProgram.{only_version}
use Rattle.ped_versions.proofs.Accepted.{edit_changes, edit_tests}
use Rattle.ped_versions.proofs.versions.Versions.edit.Goals as goal

pub edit_keep-requires-clause-old : goal.edit_keep-requires-clause-old
edit_keep-requires-clause-old g c = few_statements (tree_of c.self.inside.present) c.self.invariant.version.valid.fits

pub edit_keep-requires-clause-new : goal.edit_keep-requires-clause-new
edit_keep-requires-clause-new g c = few_statements (program_tree c.args.new.program) c.requires.valid.fits

pub change-requires-clause-one_to_one : goal.change-requires-clause-one_to_one
change-requires-clause-one_to_one g c =
    subst IsOneToOne (sym c.in_ok-keep.ensures) (edit_one_to_one (tree_of c.self.inside.present) (program_tree c.args.new.program) c.args.kept c.args.gone)

pub returns-clause-changes : goal.returns-clause-changes
returns-clause-changes g c =
    let s = c.args.self.now in
    let v = c.self.inside.present in
    let only = only_version v c.self.invariant.version s.present (ap (λ (u : State). u.present) c.self.view_is) in
    IfOk-weaker c.change.result _ _ (λ done change. edit_changes s c.change.new.self (tree_of v) (program_tree c.args.new.program) c.args.kept c.args.gone c.in_ok-keep.keep c.in_ok-keep.ensures only change) c.change.ensures.changes

pub returns-clause-most : goal.returns-clause-most
returns-clause-most g c old reads =
    let s = c.args.self.now in
    let v = c.self.inside.present in
    let only = only_version v c.self.invariant.version s.present (ap (λ (u : State). u.present) c.self.view_is) in
    edit_tests (tree_of v) old (program_tree c.args.new.program) c.args.kept c.args.gone c.in_ok-keep.keep c.args.steps.now c.change.new.steps c.in_ok-keep.ensures (only old reads) (c.change.ensures.most old reads)
