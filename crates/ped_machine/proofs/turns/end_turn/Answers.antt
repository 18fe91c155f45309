use Rattle.std.proofs.Common.{◌≡◌, Bool, true, false, MatchBool, subst}
use Rattle.ped_store.specs.Keeping.{memory_of}
use Rattle.ped_tree.specs.Views.{head_of}
use Rattle.ped_interleavings.specs.ped_eval.specs.ScopeViews.{outside}
use Rattle.ped_interleavings.specs.ped_eval.specs.Plans.{entered_by}
use Rattle.ped_machine.specs.Parts.{parts_of, turn_view}
use Rattle.ped_machine.proofs.Growing.{ready_in, outer_copies, same_copies, left_grows}
use Rattle.ped_machine.proofs.Leaving.{variable_stands, private_stand, inner_stand}
use Rattle.ped_machine.proofs.Turning.{ends_can, ends_turn_on, last_done, next_done, next_can_go, last_can_go}
use Rattle.ped_machine.proofs.turns.end_turn.Goals as goal

pub is_followed-requires : goal.is_followed-requires
is_followed-requires c = (ends_can (parts_of c.args.parts.now) c.args.state.now.scope c.requires.ends (turn_view c.in-Some.turn.now) c.in-Some.ensures c.requires.can.0 c.requires.can.1.0).0.earlier

-- an iteration follows, or none
follows : (b : Bool) (A B : Type 0) → b ≡ true → MatchBool b A B → A
follows b A B e h = subst (λ (x : Bool). MatchBool x A B) e h

none_follows : (b : Bool) (A B : Type 0) → b ≡ false → MatchBool b A B → B
none_follows b A B e h = subst (λ (x : Bool). MatchBool x A B) e h

pub turn_on-requires : goal.turn_on-requires
turn_on-requires c =
    let more = follows c.is_followed.result _ _ c.if-is_followed.true c.is_followed.ensures in
    record { few = ends_turn_on (parts_of c.args.parts.now) c.args.state.now.scope c.requires.ends (turn_view c.in-Some.turn.now) c.in-Some.ensures c.requires.can.0 c.requires.can.1.0 more.1 }

pub leave_loop-requires-clause-variable : goal.leave_loop-requires-clause-variable
leave_loop-requires-clause-variable c =
    let t = turn_view c.in-Some.turn.now in
    let table = c.requires.can.0 in
    let scope = c.args.state.now.scope in
    let m = memory_of c.args.state.now.store in
    let k = ends_can (parts_of c.args.parts.now) scope c.requires.ends t c.in-Some.ensures table c.requires.can.1.0 in
    variable_stands table (outside scope) m t.plan.number t.head t.body k.0.can (ready_in table scope (outside scope) m c.requires.can.1.1 (outer_copies scope m.stands c.requires.can.1.1.copies))

pub leave_loop-requires-clause-private : goal.leave_loop-requires-clause-private
leave_loop-requires-clause-private c =
    let t = turn_view c.in-Some.turn.now in
    let table = c.requires.can.0 in
    let scope = c.args.state.now.scope in
    let m = memory_of c.args.state.now.store in
    let k = ends_can (parts_of c.args.parts.now) scope c.requires.ends t c.in-Some.ensures table c.requires.can.1.0 in
    private_stand table (outside scope) m t.plan.number t.head t.body k.0.can (ready_in table scope (outside scope) m c.requires.can.1.1 (outer_copies scope m.stands c.requires.can.1.1.copies))

pub leave_loop-requires-clause-inner : goal.leave_loop-requires-clause-inner
leave_loop-requires-clause-inner c =
    let t = turn_view c.in-Some.turn.now in
    let table = c.requires.can.0 in
    let scope = c.args.state.now.scope in
    let m = memory_of c.args.state.now.store in
    let k = ends_can (parts_of c.args.parts.now) scope c.requires.ends t c.in-Some.ensures table c.requires.can.1.0 in
    inner_stand table (outside scope) m t.plan.number t.head t.body k.0.can (ready_in table scope (outside scope) m c.requires.can.1.1 (outer_copies scope m.stands c.requires.can.1.1.copies)) t.plan k.0.plan

pub returns-in-Ok-clause-does : goal.returns-in-Ok-clause-does
returns-in-Ok-clause-does c p n =
    next_done (parts_of c.args.parts.now) c.args.state.now.scope c.requires.ends (turn_view c.in-Some.turn.now) c.in-Some.ensures p n (memory_of c.args.state.now.store) (memory_of c.next_turn.new.state.store)
    (follows c.is_followed.result _ _ c.if-is_followed.true c.is_followed.ensures).0 c.in-Ok.ensures.room.cells (parts_of c.turn_on.new.self) c.turn_on.ensures c.next_turn.new.state.scope c.in-Ok.ensures.ok

pub returns-in-Ok-clause-go : goal.returns-in-Ok-clause-go
returns-in-Ok-clause-go c table h =
    next_can_go (parts_of c.args.parts.now) c.args.state.now.scope c.requires.ends (turn_view c.in-Some.turn.now) c.in-Some.ensures table (parts_of c.turn_on.new.self) c.next_turn.new.state.scope
    c.turn_on.ensures c.in-Ok.ensures.ok (follows c.is_followed.result _ _ c.if-is_followed.true c.is_followed.ensures).0 h

pub returns-in-Err-clause-copies : goal.returns-in-Err-clause-copies
returns-in-Err-clause-copies c h = same_copies c.args.state.now.scope c.next_turn.new.state.scope (memory_of c.args.state.now.store) (memory_of c.next_turn.new.state.store) c.in-Err.ensures.err c.in-Err.ensures.room.grown h

pub returns-in-Some-clause-does : goal.returns-in-Some-clause-does
returns-in-Some-clause-does c p n =
    let k = ends_can (parts_of c.args.parts.now) c.args.state.now.scope c.requires.ends (turn_view c.in-Some.turn.now) c.in-Some.ensures c.requires.can.0 c.requires.can.1.0 in
    last_done (parts_of c.args.parts.now) c.args.state.now.scope c.requires.ends (turn_view c.in-Some.turn.now) c.in-Some.ensures p n (memory_of c.args.state.now.store) (memory_of c.leave_loop.new.state.store)
    (none_follows c.is_followed.result _ _ c.if-is_followed.false c.is_followed.ensures) k.0.earlier c.leave_loop.ensures.memory (parts_of c.pop.new.self) c.pop.ensures c.leave_loop.new.state.scope c.leave_loop.ensures.scope

pub returns-in-Some-clause-go : goal.returns-in-Some-clause-go
returns-in-Some-clause-go c table h =
    last_can_go (parts_of c.args.parts.now) c.args.state.now.scope c.requires.ends (turn_view c.in-Some.turn.now) c.in-Some.ensures table (parts_of c.pop.new.self) c.leave_loop.new.state.scope c.pop.ensures c.leave_loop.ensures.scope h

pub returns-in-Some-clause-grown : goal.returns-in-Some-clause-grown
returns-in-Some-clause-grown c =
    let t = c.in-Some.turn.now in
    left_grows (entered_by (head_of t.d.now) t.plan 0) (outside c.args.state.now.scope) (memory_of c.args.state.now.store) (memory_of c.leave_loop.new.state.store) c.leave_loop.ensures.memory

pub returns-in-Some-clause-copies : goal.returns-in-Some-clause-copies
returns-in-Some-clause-copies c h =
    let t = c.in-Some.turn.now in
    let scope = c.args.state.now.scope in
    let m = memory_of c.args.state.now.store in
    let new = memory_of c.leave_loop.new.state.store in
    same_copies (outside scope) c.leave_loop.new.state.scope m new c.leave_loop.ensures.scope (left_grows (entered_by (head_of t.d.now) t.plan 0) (outside scope) m new c.leave_loop.ensures.memory) (outer_copies scope m.stands h)
