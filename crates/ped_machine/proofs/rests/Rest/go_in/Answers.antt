-- Entries of DO loops.
use Rattle.std.proofs.Common.{◌<◌, ℕ, sym, ap, ◌∙◌, arith}
use Rattle.ped_tree.specs.Views.{head_of, stmt_trees}
use Rattle.ped_store.specs.Acts.{store_behind}
use Rattle.ped_store.specs.Keeping.{memory_of}
use Rattle.ped_interleavings.specs.ped_eval.specs.Loops.{exit_when_none}
use Rattle.ped_interleavings.specs.ped_eval.specs.Plans.{entered_by}
use Rattle.ped_machine.proofs.Growing.{exit_cells, same_copies, left_grows, entry_leaves}
use Rattle.ped_machine.proofs.Leaving.{variable_stands, private_stand, inner_stand}
use Rattle.ped_machine.proofs.OpenSteps.{ok_by}
use Rattle.ped_machine.proofs.rests.Rest.go_in.Goals as goal

pub write_exit-requires-clause-variable : goal.write_exit-requires-clause-variable
write_exit-requires-clause-variable g c =
    variable_stands c.requires.can.0 c.args.state.now.scope (memory_of c.args.state.now.store) c.args.plan.number (head_of c.args.d.now) (stmt_trees c.args.d.now.body.items) c.requires.can.1.0 c.requires.can.1.1

pub write_exit-requires-clause-private : goal.write_exit-requires-clause-private
write_exit-requires-clause-private g c =
    private_stand c.requires.can.0 c.args.state.now.scope (memory_of c.args.state.now.store) c.args.plan.number (head_of c.args.d.now) (stmt_trees c.args.d.now.body.items) c.requires.can.1.0 c.requires.can.1.1

pub write_exit-requires-clause-inner : goal.write_exit-requires-clause-inner
write_exit-requires-clause-inner g c =
    inner_stand c.requires.can.0 c.args.state.now.scope (memory_of c.args.state.now.store) c.args.plan.number (head_of c.args.d.now) (stmt_trees c.args.d.now.body.items) c.requires.can.1.0 c.requires.can.1.1 c.args.plan c.requires.plan

pub returns-then-plan-eq0-clause-store : goal.returns-then-plan-eq0-clause-store
returns-then-plan-eq0-clause-store g c =
    let e = entered_by (head_of c.args.d.now) c.args.plan c.args.plan.behind in
    let scope = c.args.state.now.scope in
    let m = memory_of c.args.state.now.store in
    (λ i. (c.write_exit.ensures.memory i).cells) ∙ exit_cells e scope m ∙ sym (ap (λ (n : ℕ). store_behind (exit_when_none n e scope) m.cells) c.if-plan-eq0.true)

pub returns-then-plan-eq0-clause-copies : goal.returns-then-plan-eq0-clause-copies
returns-then-plan-eq0-clause-copies g c h =
    let scope = c.args.state.now.scope in
    let m = memory_of c.args.state.now.store in
    let new = memory_of c.write_exit.new.state.store in
    same_copies scope c.write_exit.new.state.scope m new c.write_exit.ensures.scope (left_grows (entered_by (head_of c.args.d.now) c.args.plan 0) scope m new c.write_exit.ensures.memory) h

pub returns-then-plan-eq0-clause-grown : goal.returns-then-plan-eq0-clause-grown
returns-then-plan-eq0-clause-grown g c = left_grows (entered_by (head_of c.args.d.now) c.args.plan 0) c.args.state.now.scope (memory_of c.args.state.now.store) (memory_of c.write_exit.new.state.store) c.write_exit.ensures.memory

pub returns-then-d-clause-store : goal.returns-then-d-clause-store
returns-then-d-clause-store g c =
    let some : 0 < c.args.plan.count = omega (arith, c.if-plan-eq0.false) in
    entry_leaves c.args.plan.count (entered_by (head_of c.args.d.now) c.args.plan c.args.plan.behind) c.args.state.now.scope (memory_of c.args.state.now.store).cells some

pub returns-then-d-clause-sound : goal.returns-then-d-clause-sound
returns-then-d-clause-sound g c table can go = record { parts = go; inner = c.opened.ensures.inner c.args.state.now.scope table (memory_of c.args.state.now.store).stands can }

pub returns-clause-store : goal.returns-clause-store
returns-clause-store g c =
    let some : 0 < c.args.plan.count = omega (arith, c.if-plan-eq0.false) in
    ok_by c.enter_do.result _
    (c.enter_do.ensures.room.cells ∙ entry_leaves c.args.plan.count (entered_by (head_of c.args.d.now) c.args.plan c.args.plan.behind) c.args.state.now.scope (memory_of c.args.state.now.store).cells some)
