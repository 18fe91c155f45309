use Rattle.std.proofs.Common.{◌≡◌, ◌<◌, ◌+◌, ℕ, List, length, get_or, ap, sym, subst, ◌∙◌}
use Rattle.ped_tree.specs.Tree.{ProgramTree}
use Rattle.ped_tree.specs.Numbering.{statements_count}
use Rattle.ped_tree.specs.Views.{stmt_trees}
use Rattle.ped_tree.specs.declared.statements.Stmt.{Stmt}
use Rattle.ped_links.specs.ped_symbols.specs.Kinds.{table_of}
use Rattle.ped_links.specs.ped_symbols.specs.NameRefusals.{IsValid}
use Rattle.ped_calls.specs.Courses.{units_of}
use Rattle.ped_calls.specs.Opening.{Judges}
use Rattle.ped_calls.specs.declared.opening.Judgement.{Judgement}
use Rattle.ped_links.specs.ped_units.specs.declared.units.ProgramUnit.{ProgramUnit}
use Rattle.ped_calls.proofs.FirstPast.{all_expanded, many_invalid, names_invalid, whole_judged}
use Rattle.ped_calls.proofs.MainSteps.{main_body}
use Rattle.ped_calls.proofs.opening.expanded.Goals as goal

-- all statements of the main program were judged to be this
judged_so : (us : List ProgramUnit) (u : ProgramUnit) (body : List Stmt) (j k : Judgement) → 0 < length us → u ≡ get_or us 0 u → body ≡ u.program.body.items
    → j ≡ k → ((later : ℕ) → statements_count (stmt_trees body) + later ≡ statements_count (units_of us).main.tree.body → Judges (units_of us) (stmt_trees body) later j)
    → Judges (units_of us) (units_of us).main.tree.body 0 k
judged_so us u body j k some is at same h =
    subst (Judges (units_of us) (units_of us).main.tree.body 0) same (whole_judged (units_of us) (stmt_trees body) j (ap stmt_trees at ∙ main_body us u some is) h)

pub returns-in-Valid-clause-tree : goal.returns-in-Valid-clause-tree
returns-in-Valid-clause-tree c =
    let k = judged_so c.args.file.now.units.now c.index-file-0.result c.deref.result.now _ _ c.requires.file.some c.index-file-0.is (cc (c.deref.ensures.value)) c.in-Valid.is c.in_ok-opened.ensures in
    (k.2 ∙ all_expanded (units_of c.args.file.now.units.now) c.requires.starts, subst (λ (t : ProgramTree). IsValid t) (sym k.2) k.1)

pub returns-in-Valid-clause-table : goal.returns-in-Valid-clause-table
returns-in-Valid-clause-table c =
    let k = judged_so c.args.file.now.units.now c.index-file-0.result c.deref.result.now _ _ c.requires.file.some c.index-file-0.is (cc (c.deref.ensures.value)) c.in-Valid.is c.in_ok-opened.ensures in
    k.3 ∙ ap table_of (sym k.2)

pub first_past-requires-clause-invalid : goal.first_past-requires-clause-invalid
first_past-requires-clause-invalid c =
    many_invalid (units_of c.args.file.now.units.now) c.requires.starts
    (judged_so c.args.file.now.units.now c.index-file-0.result c.deref.result.now _ _ c.requires.file.some c.index-file-0.is (cc (c.deref.ensures.value)) c.in-PastStatements.is c.in_ok-opened.ensures)

pub first_past-requires-in-PastStorage-clause-invalid : goal.first_past-requires-in-PastStorage-clause-invalid
first_past-requires-in-PastStorage-clause-invalid c =
    let k = judged_so c.args.file.now.units.now c.index-file-0.result c.deref.result.now _ _ c.requires.file.some c.index-file-0.is (cc (c.deref.ensures.value)) c.in-PastStorage.is c.in_ok-opened.ensures in
    names_invalid (units_of c.args.file.now.units.now) c.requires.starts k.1
