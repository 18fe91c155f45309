use Rattle.std.proofs.Common.{◌≡◌, map, ap, subst, ◌∙◌}
use Rattle.std.proofs.lemmas.Result.{IfOk-weaker}
use Rattle.ped_tree.specs.Tree.{ProgramTree}
use Rattle.ped_tree.specs.Numbering.{statements_count}
use Rattle.ped_tree.specs.Views.{decl_tree, stmt_trees, program_tree}
use Rattle.ped_calls.specs.Courses.{units_of}
use Rattle.ped_calls.specs.Giving.{given_of}
use Rattle.ped_calls.specs.Opening.{expanded_program, JudgesProgram}
use Rattle.ped_links.specs.ped_units.specs.Verdicts.{settled}
use Rattle.ped_calls.proofs.Judged.{judged_whole, stopped_many}
use Rattle.ped_calls.proofs.MainSteps.{main_decls, expanded_from, went_on, stopped_from}
use Rattle.ped_calls.proofs.opening.judged_within.Goals as goal

pub returns-in-Ok : goal.returns-in-Ok
returns-in-Ok c =
    let us = units_of c.args.file.now.units.now in
    let ss = stmt_trees c.args.statements.now in
    let unit = c.index-file-0.result in
    let decls : map decl_tree c.deref.result.now ≡ us.main.tree.decls = ap (map decl_tree) (cc (c.deref.ensures.value)) ∙ main_decls c.args.file.now.units.now unit c.requires.file.some c.index-file-0.is in
    let arrays : map decl_tree c.arrays_given-arrays.result.items ≡ (given_of c.main.new.course.given).arrays = ap (map decl_tree) c.arrays_given-arrays.ensures in
    let whole = expanded_from us ss (given_of c.in_ok-course.course.given) (given_of c.main.new.course.given) (map decl_tree c.deref.result.now) (map decl_tree c.arrays_given-arrays.result.items) (stmt_trees c.in-Ok.body.items)
    c.in_ok-course.ensures.given decls arrays c.in-Ok.ensures.statements c.in-Ok.ensures.course.given in
    let tree : program_tree c.in_ok-program-in-Ok.program ≡ expanded_program us ss = c.in_ok-program-in-Ok.ensures.tree ∙ ap settled whole in
    IfOk-weaker c.judged_program.result (JudgesProgram (program_tree c.in_ok-program-in-Ok.program)) _
    (λ j h later counted.
    judged_whole us ss later j (went_on us ss later c.args.room c.in_ok-course.course c.main.new.course c.in_ok-course.ensures.given c.in_ok-course.ensures.room c.requires.room counted c.in-Ok.ensures.course.room)
    (subst (λ (t : ProgramTree). JudgesProgram t j) tree h))
    c.judged_program.ensures

pub returns-in-Err-Past : goal.returns-in-Err-Past
returns-in-Err-Past c later counted =
    let us = units_of c.args.file.now.units.now in
    let ss = stmt_trees c.args.statements.now in
    stopped_many us ss later (statements_count us.main.tree.body) c.args.room counted c.requires.room
    (stopped_from us ss c.args.room c.in_ok-course.course c.in-Err-Past.field-0 c.in-Err-Past.field-0-is c.in_ok-course.ensures.given c.in_ok-course.ensures.room c.in-Err-Past.ensures.stopped)
