-- A statement is begun: a DO is entered, and any other does its act.
use Rattle.std.proofs.Common.{◌≡◌, sym, ap, subst, ◌∙◌}
use Rattle.std.specs.Prelude.{IfOk}
use Rattle.ped_tree.specs.Tree.{StmtTree}
use Rattle.ped_tree.specs.Views.{stmt_tree}
use Rattle.ped_store.specs.Keeping.{memory_of}
use Rattle.ped_interleavings.specs.ped_eval.specs.Agreement.{DoCopiesStand}
use Rattle.ped_interleavings.specs.ped_eval.specs.Scopes.{Scope}
use Rattle.ped_interleavings.specs.ped_eval.specs.Readiness.{setting_by}
use Rattle.ped_interleavings.specs.Lefts.{Left}
use Rattle.ped_interleavings.specs.Steps.{begun}
use Rattle.ped_machine.specs.declared.rests.Rest.{Rest}
use Rattle.ped_machine.specs.Doing.{IsDone, HasGrown}
use Rattle.ped_machine.specs.Parts.{parts_of, parts_left}
use Rattle.ped_machine.specs.Rests.{rest_left}
use Rattle.ped_machine.proofs.Growing.{same_copies}
use Rattle.ped_machine.proofs.OpenSteps.{safe_open}
use Rattle.ped_machine.proofs.Resting.{none_inner}
use Rattle.ped_machine.proofs.rests.Rest.step_advanced.Goals as goal

pub returns-in-Some-clause-does : goal.returns-in-Some-clause-does
returns-in-Some-clause-does g c =
    let scope = c.args.state.now.scope in
    let m = memory_of c.args.state.now.store in
    let rest = parts_left (parts_of c.args.self.now.parts) scope in
    let last = rest_left g.C.Work.left c.enter.new.state.scope c.enter.new.self in
    subst (λ (t : StmtTree). IfOk c.enter.result (λ d. (l : Left) → IsDone (begun (setting_by c.args.symbols.now) t c.args.number scope rest m.cells) l m.cells d last (memory_of c.enter.new.state.store).cells))
    (sym c.in-Some.ensures) c.enter.ensures.does

pub returns-in-None-clause-does : goal.returns-in-None-clause-does
returns-in-None-clause-does g c =
    let scope = c.args.state.now.scope in
    let m = memory_of c.args.state.now.store in
    let rest = parts_left (parts_of c.args.self.now.parts) scope in
    let new : Rest _ = record { parts = c.begin.new.parts; inner = c.args.self.now.inner } in
    let last : rest_left g.C.Work.left c.begin.new.state.scope new ≡ parts_left (parts_of new.parts) scope = ap (λ (z : Scope). rest_left g.C.Work.left z new) c.begin.ensures.scope ∙ none_inner g.C.Work.left scope new c.requires.none in
    subst (λ (x : Left). IfOk c.begin.result (λ d. (l : Left) → IsDone (begun (setting_by c.args.symbols.now) (stmt_tree c.args.stmt.now) c.args.number scope rest m.cells) l m.cells d x (memory_of c.begin.new.state.store).cells))
    (sym last) c.begin.ensures.does

pub returns-in-None-clause-copies : goal.returns-in-None-clause-copies
returns-in-None-clause-copies g c =
    let scope = c.args.state.now.scope in
    let inner = c.begin.new.state.scope in
    let m = memory_of c.args.state.now.store in
    let new = memory_of c.begin.new.state.store in
    safe_open c.begin.result (HasGrown m new) (DoCopiesStand inner new.stands) (λ (h : HasGrown m new). same_copies scope inner m new c.begin.ensures.scope h c.requires.ready.copies) c.begin.ensures.grown
