-- A step that begins with a statement.
use Rattle.std.proofs.Common.{List, subst}
use Rattle.ped_tree.specs.Views.{stmt_tree}
use Rattle.ped_store.specs.Keeping.{memory_of}
use Rattle.ped_interleavings.specs.ped_eval.specs.Readiness.{setting_by}
use Rattle.ped_interleavings.specs.Lefts.{Left}
use Rattle.ped_interleavings.specs.Steps.{begun}
use Rattle.ped_machine.specs.Doing.{IsDone}
use Rattle.ped_machine.specs.Parts.{Part, parts_of, parts_left}
use Rattle.ped_machine.specs.Rests.{rest_left}
use Rattle.ped_machine.proofs.Resting.{none_inner, statement_done}
use Rattle.ped_machine.proofs.rests.Rest.step_statement.Goals as goal

pub returns-in-Ok-clause-does : goal.returns-in-Ok-clause-does
returns-in-Ok-clause-does g c n =
    let scope = c.args.state.now.scope in
    let old = c.args.self.now in
    let s = (memory_of c.args.state.now.store).cells in
    let u = (memory_of c.step_advanced.new.state.store).cells in
    let last = rest_left g.C.Work.left c.step_advanced.new.state.scope c.step_advanced.new.self in
    let p = setting_by c.args.symbols.now in
    statement_done p (stmt_tree c.args.stmt.now) c.args.number n scope (parts_of old.parts) s u c.in-Ok.done (rest_left g.C.Work.left scope old) last c.requires.begins (none_inner g.C.Work.left scope old c.requires.none)
    (subst (λ (ps : List Part). (l : Left) → IsDone (begun p (stmt_tree c.args.stmt.now) c.args.number scope (parts_left ps scope) s) l s c.in-Ok.done last u) c.advance-before.ensures.advanced c.in-Ok.ensures.does)
