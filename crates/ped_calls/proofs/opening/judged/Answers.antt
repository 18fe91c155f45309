use Rattle.std.proofs.Common.{◌≡◌, ◌<◌, ◌+◌, ap, subst, ◌∙◌}
use Rattle.ped_tree.specs.Tree.{StmtTrees}
use Rattle.ped_tree.specs.Numbering.{statements_count}
use Rattle.ped_tree.specs.Grammar.LimitNumbers.{most_statements}
use Rattle.ped_tree.specs.Views.{stmt_trees}
use Rattle.ped_calls.specs.Courses.{units_of}
use Rattle.ped_calls.proofs.Judged.{no_room}
use Rattle.ped_calls.proofs.MainSteps.{main_body}
use Rattle.ped_calls.proofs.opening.judged.Goals as goal

pub judged_within-requires-clause-room : goal.judged_within-requires-clause-room
judged_within-requires-clause-room c =
    let unit = c.index-file-0.result in
    let at : c.deref.result.now ≡ unit.program.body.items = cc (c.deref.ensures.value) in
    let body : stmt_trees c.deref.result.now ≡ (units_of c.args.file.now.units.now).main.tree.body = ap stmt_trees at ∙ main_body c.args.file.now.units.now unit c.requires.some c.index-file-0.is in
    subst (λ (ss : StmtTrees). c.in-Some.room + statements_count ss ≡ most_statements) body c.in-Some.ensures

pub returns-in-None : goal.returns-in-None
returns-in-None c later counted =
    let us = units_of c.args.file.now.units.now in
    let unit = c.index-file-0.result in
    let at : c.deref.result.now ≡ unit.program.body.items = cc (c.deref.ensures.value) in
    let body : stmt_trees c.deref.result.now ≡ us.main.tree.body = ap stmt_trees at ∙ main_body c.args.file.now.units.now unit c.requires.some c.index-file-0.is in
    let few = subst (λ (ss : StmtTrees). most_statements < statements_count ss) body c.in-None.ensures in
    no_room us (stmt_trees c.args.statements.now) later (statements_count us.main.tree.body) counted few
