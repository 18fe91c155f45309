use Rattle.std.proofs.Common.{rules, ℕ, ℤ, List, FitsSigned, subst}
use Rattle.std.specs.Prelude.{IfOk}
use Rattle.std.specs.Int.{w64}
use Rattle.std.proofs.lemmas.Int.{to_z-of_z}
use Rattle.ped_tree.specs.Views.{program_tree}
use Rattle.ped_auto.specs.ped_rules.specs.Steps.{Answers}
use Rattle.ped_reindex.specs.Skewing.{skewing}
use Rattle.ped_reindex.specs.Stripping.{stripping}
use Rattle.ped_loops.specs.ped_evidence.specs.Lines.{lines_of}
use Rattle.ped_loops.specs.ByEvidence.{paralleling_by, reversing_by, interchanging_by}
use Rattle.ped_reduce.specs.Reducing.{reducing}
use Rattle.ped_transformations.proofs.StepAnswers.{answered}
use Rattle.ped_transformations.proofs.table.answer.Goals as goal

pub returns-in-Privatise : goal.returns-in-Privatise
returns-in-Privatise g c =
    answered (program_tree c.args.scene.now.tree.now) c.args.command.now.statement _ c.args.command.now.step c.in-Privatise.is c.privatise.result c.privatise.ensures

pub returns-in-Expand : goal.returns-in-Expand
returns-in-Expand g c =
    answered (program_tree c.args.scene.now.tree.now) c.args.command.now.statement _ c.args.command.now.step c.in-Expand.is c.expand.result c.expand.ensures

pub returns-in-Reduce : goal.returns-in-Reduce
returns-in-Reduce g c =
    let t = program_tree c.args.scene.now.tree.now in
    let number = c.args.command.now.statement in
    let found = subst (λ (names : List (List ℕ)). IfOk c.reduce.result (Answers (reducing number names) t)) c.as_slice.ensures c.reduce.ensures in
    answered t number _ c.args.command.now.step c.in-Reduce.is c.reduce.result found

pub returns-in-Interchange : goal.returns-in-Interchange
returns-in-Interchange g c =
    answered (program_tree c.args.scene.now.tree.now) c.args.command.now.statement _ c.args.command.now.step c.in-Interchange.is c.interchange.result c.interchange.ensures

pub returns-in-Reverse : goal.returns-in-Reverse
returns-in-Reverse g c =
    answered (program_tree c.args.scene.now.tree.now) c.args.command.now.statement _ c.args.command.now.step c.in-Reverse.is c.reverse.result c.reverse.ensures

pub returns-in-Skew : goal.returns-in-Skew
returns-in-Skew g c =
    let t = program_tree c.args.scene.now.tree.now in
    let number = c.args.command.now.statement in
    let fits : FitsSigned w64 c.in-Skew.factor = search rules in
    let found = subst (λ (z : ℤ). IfOk c.skew.result (Answers (skewing number z) t)) (to_z-of_z w64 c.in-Skew.factor fits) c.skew.ensures in
    answered t number _ c.args.command.now.step c.in-Skew.is c.skew.result found

pub returns-in-Strip : goal.returns-in-Strip
returns-in-Strip g c =
    let t = program_tree c.args.scene.now.tree.now in
    let number = c.args.command.now.statement in
    let fits : FitsSigned w64 c.in-Strip.size = search rules in
    let found = subst (λ (z : ℤ). IfOk c.strip.result (Answers (stripping number z) t)) (to_z-of_z w64 c.in-Strip.size fits) c.strip.ensures in
    answered t number _ c.args.command.now.step c.in-Strip.is c.strip.result found

pub returns-in-Peel : goal.returns-in-Peel
returns-in-Peel g c =
    answered (program_tree c.args.scene.now.tree.now) c.args.command.now.statement _ c.args.command.now.step c.in-Peel.is c.peel.result c.peel.ensures

pub returns-in-Distribute : goal.returns-in-Distribute
returns-in-Distribute g c =
    answered (program_tree c.args.scene.now.tree.now) c.args.command.now.statement _ c.args.command.now.step c.in-Distribute.is c.distribute.result c.distribute.ensures

pub returns-in-Fuse : goal.returns-in-Fuse
returns-in-Fuse g c =
    answered (program_tree c.args.scene.now.tree.now) c.args.command.now.statement _ c.args.command.now.step c.in-Fuse.is c.fuse.result c.fuse.ensures

pub returns-in-Inline : goal.returns-in-Inline
returns-in-Inline g c =
    answered (program_tree c.args.scene.now.tree.now) c.args.command.now.statement _ c.args.command.now.step c.in-Inline.is c.inline.result c.inline.ensures

pub returns-in-Parallel : goal.returns-in-Parallel
returns-in-Parallel g c =
    answered (program_tree c.args.scene.now.tree.now) c.args.command.now.statement _ c.args.command.now.step c.in-Parallel.is c.make_parallel.result c.make_parallel.ensures

pub returns-in-Serial : goal.returns-in-Serial
returns-in-Serial g c =
    answered (program_tree c.args.scene.now.tree.now) c.args.command.now.statement _ c.args.command.now.step c.in-Serial.is c.make_serial.result c.make_serial.ensures

pub returns-in-Reject : goal.returns-in-Reject
returns-in-Reject g c =
    answered (program_tree c.args.scene.now.tree.now) c.args.command.now.statement _ c.args.command.now.step c.in-Reject.is c.reject.result c.reject.ensures

pub returns-in-ParallelBy : goal.returns-in-ParallelBy
returns-in-ParallelBy g c =
    let t = program_tree c.args.scene.now.tree.now in
    let number = c.args.command.now.statement in
    let found = subst (λ (evidence : List _). IfOk c.make_parallel_by.result (Answers (paralleling_by number (lines_of evidence)) t)) c.as_slice-in-ParallelBy.ensures c.make_parallel_by.ensures in
    answered t number _ c.args.command.now.step c.in-ParallelBy.is c.make_parallel_by.result found

pub returns-in-ReverseBy : goal.returns-in-ReverseBy
returns-in-ReverseBy g c =
    let t = program_tree c.args.scene.now.tree.now in
    let number = c.args.command.now.statement in
    let found = subst (λ (evidence : List _). IfOk c.reverse_by.result (Answers (reversing_by number (lines_of evidence)) t)) c.as_slice-in-ReverseBy.ensures c.reverse_by.ensures in
    answered t number _ c.args.command.now.step c.in-ReverseBy.is c.reverse_by.result found

pub returns-in-InterchangeBy : goal.returns-in-InterchangeBy
returns-in-InterchangeBy g c =
    let t = program_tree c.args.scene.now.tree.now in
    let number = c.args.command.now.statement in
    let found = subst (λ (evidence : List _). IfOk c.interchange_by.result (Answers (interchanging_by number (lines_of evidence)) t)) c.as_slice-in-InterchangeBy.ensures c.interchange_by.ensures in
    answered t number _ c.args.command.now.step c.in-InterchangeBy.is c.interchange_by.result found
