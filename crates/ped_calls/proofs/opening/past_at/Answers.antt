use Rattle.std.proofs.Common.{◌≡◌, ◌<◌, ◌+◌, ℕ, List, length, get_or, ap, subst, ◌∙◌}
use Rattle.ped_tree.specs.Numbering.{statements_count}
use Rattle.ped_tree.specs.Views.{stmt_trees}
use Rattle.ped_tree.specs.declared.statements.Stmt.{Stmt}
use Rattle.ped_calls.specs.Courses.{units_of}
use Rattle.ped_calls.specs.Opening.{Judges}
use Rattle.ped_links.specs.ped_units.specs.Verdicts.{first_calls}
use Rattle.ped_calls.specs.declared.opening.Judgement.{Judgement}
use Rattle.ped_links.specs.ped_units.specs.declared.units.ProgramUnit.{ProgramUnit}
use Rattle.ped_calls.proofs.Judged.{JudgesAt, judged_at, valid_finds}
use Rattle.ped_calls.proofs.MainSteps.{main_body}
use Rattle.ped_calls.proofs.opening.past_at.Goals as goal

-- the statements with the first CALLs were judged to be this
judged_here : (us : List ProgramUnit) (u : ProgramUnit) (m : ℕ) (body copies given : List Stmt) (j k : Judgement) → 0 < length us → u ≡ get_or us 0 u → body ≡ u.program.body.items → given ≡ copies
    → stmt_trees copies ≡ first_calls m (stmt_trees body) → j ≡ k
    → ((later : ℕ) → statements_count (stmt_trees given) + later ≡ statements_count (units_of us).main.tree.body → Judges (units_of us) (stmt_trees given) later j) → JudgesAt (units_of us) m k
judged_here us u m body copies given j k some is at also first same h =
    subst (JudgesAt (units_of us) m) same
    (judged_at (units_of us) m (stmt_trees given) j
    (ap stmt_trees also ∙ first ∙ ap (λ (ss : List Stmt). first_calls m (stmt_trees ss)) at ∙ ap (first_calls m) (main_body us u some is)) h)

pub returns-in-Valid : goal.returns-in-Valid
returns-in-Valid c =
    valid_finds (units_of c.args.file.now.units.now) c.args.count c.in-Valid.opened
    (judged_here c.args.file.now.units.now c.index-file-0.result c.args.count c.deref.result.now c.in_ok-statements.statements.items c.deref-2.result.now _ _ c.requires.some c.index-file-0.is
    (cc (c.deref.ensures.value)) (cc (c.deref-2.ensures.value)) c.in_ok-statements.ensures.statements c.in-Valid.is c.in_ok-opened.ensures)

pub returns-in-PastStatements : goal.returns-in-PastStatements
returns-in-PastStatements c =
    judged_here c.args.file.now.units.now c.index-file-0.result c.args.count c.deref.result.now c.in_ok-statements.statements.items c.deref-2.result.now _ _ c.requires.some c.index-file-0.is
    (cc (c.deref.ensures.value)) (cc (c.deref-2.ensures.value)) c.in_ok-statements.ensures.statements c.in-PastStatements.is c.in_ok-opened.ensures

pub returns : goal.returns
returns c =
    judged_here c.args.file.now.units.now c.index-file-0.result c.args.count c.deref.result.now c.in_ok-statements.statements.items c.deref-2.result.now _ _ c.requires.some c.index-file-0.is
    (cc (c.deref.ensures.value)) (cc (c.deref-2.ensures.value)) c.in_ok-statements.ensures.statements c.in-PastStorage.is c.in_ok-opened.ensures
