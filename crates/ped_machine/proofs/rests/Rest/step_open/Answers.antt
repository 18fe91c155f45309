-- Steps of the loop that is open.
use Rattle.std.proofs.Common.{◌+◌, [], ◌∷◌, Option, Some, None, refl, sym, subst, ◌∙◌}
use Rattle.ped_tree.specs.Views.{head_of, stmt_trees}
use Rattle.ped_store.specs.Keeping.{memory_of}
use Rattle.ped_interleavings.specs.ped_eval.specs.Agreement.{DoCopiesStand}
use Rattle.ped_interleavings.specs.ped_eval.specs.Plans.{entered_by}
use Rattle.ped_interleavings.specs.ped_eval.specs.Readiness.{setting_by}
use Rattle.ped_machine.specs.declared.opens.Open.{Open}
use Rattle.ped_machine.specs.declared.rests.Rest.{Rest}
use Rattle.ped_machine.specs.Bases.{HasKept}
use Rattle.ped_machine.specs.Doing.{IfOpen}
use Rattle.ped_machine.specs.Opens.{open_entered, place_left, place_scope, IsOpen}
use Rattle.ped_interleavings.specs.ped_eval.specs.Scopes.{Scope}
use Rattle.ped_interleavings.specs.ped_eval.specs.Loops.{frame}
use Rattle.ped_machine.proofs.Dropping.{copies_round_stand, grown_kept, kept_outside}
use Rattle.ped_machine.proofs.Stepped.{safe_both}
use Rattle.ped_machine.specs.Rests.{IfOpened, IsSound}
use Rattle.ped_machine.proofs.Growing.{same_copies, left_grows}
use Rattle.ped_machine.proofs.Leaving.{variable_stands, private_stand, inner_stand}
use Rattle.ped_machine.proofs.OpenLefts.{picked_is}
use Rattle.ped_machine.proofs.OpenRests.{picked_done, picked_kept, closed_done}
use Rattle.ped_machine.proofs.OpenSteps.{safe_open, open_both}
use Rattle.ped_machine.proofs.rests.Rest.step_open.Goals as goal

pub step_at-requires : goal.step_at-requires
step_at-requires g c κs =
    let table = c.args.symbols.now in
    let scope = c.args.state.now.scope in
    let o = c.in-Some.inner in
    let stands = (memory_of c.args.state.now.store).stands in
    let right = subst (λ (x : Option (Open _)). IfOpened g.C.Work.left g.C.Work.base g.C.Work.sound scope x table stands) c.in-Some.is c.requires.sound.inner in
    let k = picked_is o.plan.count _ 0 c.in-Some-pick.place (place_left g.C.Work.left scope o) (sym c.in-Some-pick.is ∙ c.pick.ensures scope table stands right) in
    ((refl, tt), (c.requires.ready, (right, (k.0, k.1))))

pub returns-in-Some-pick-clause-does : goal.returns-in-Some-pick-clause-does
returns-in-Some-pick-clause-does g c =
    let table = c.args.symbols.now in
    let scope = c.args.state.now.scope in
    let old = c.args.self.now in
    let o = c.in-Some.inner in
    let m = memory_of c.args.state.now.store in
    let right = subst (λ (x : Option (Open _)). IfOpened g.C.Work.left g.C.Work.base g.C.Work.sound scope x table m.stands) c.in-Some.is c.requires.sound.inner in
    let picked = sym c.in-Some-pick.is ∙ c.pick.ensures scope table m.stands right in
    let k = picked_is o.plan.count _ 0 c.in-Some-pick.place (place_left g.C.Work.left scope o) picked in
    let new : Rest _ = record { parts = old.parts; inner = Some c.step_at.new.self } in
    picked_done g.C.Work.left scope old o c.in-Some.is new c.step_at.new.self c.step_at.new.state.scope refl refl c.step_at.ensures.scope c.step_at.result c.in-Some-pick.place k.0 c.step_at.ensures.same c.step_at.ensures.elsewhere
    (setting_by table) c.args.choice m.cells (memory_of c.step_at.new.state.store).cells picked c.step_at.ensures.does

pub returns-in-Some-pick-clause-kept : goal.returns-in-Some-pick-clause-kept
returns-in-Some-pick-clause-kept g c =
    let table = c.args.symbols.now in
    let scope = c.args.state.now.scope in
    let old = c.args.self.now in
    let o = c.in-Some.inner in
    let m = memory_of c.args.state.now.store in
    let right = subst (λ (x : Option (Open _)). IfOpened g.C.Work.left g.C.Work.base g.C.Work.sound scope x table m.stands) c.in-Some.is c.requires.sound.inner in
    let k = picked_is o.plan.count _ 0 c.in-Some-pick.place (place_left g.C.Work.left scope o) (sym c.in-Some-pick.is ∙ c.pick.ensures scope table m.stands right) in
    let new : Rest _ = record { parts = old.parts; inner = Some c.step_at.new.self } in
    picked_kept g.C.Work.left scope old o c.in-Some.is new c.step_at.new.self c.step_at.new.state.scope refl refl c.step_at.ensures.scope c.step_at.result c.in-Some-pick.place k.0 c.step_at.ensures.same c.step_at.ensures.elsewhere
    m (memory_of c.step_at.new.state.store) c.step_at.ensures.kept

pub returns-in-Some-pick-clause-copies : goal.returns-in-Some-pick-clause-copies
returns-in-Some-pick-clause-copies g c =
    let scope = c.args.state.now.scope in
    let inner = c.step_at.new.state.scope in
    let o = c.in-Some.inner in
    let m = memory_of c.args.state.now.store in
    let new = memory_of c.step_at.new.state.store in
    let at = place_scope scope o c.in-Some-pick.place in
    safe_open c.step_at.result (HasKept at m new) (DoCopiesStand inner new.stands)
    (λ (h : HasKept at m new). subst (λ (z : Scope). DoCopiesStand z new.stands) (sym c.step_at.ensures.scope) (copies_round_stand (frame (open_entered o) (c.in-Some-pick.place + 1)) scope m new h c.requires.ready.copies)) c.step_at.ensures.grown

pub returns-in-Some-pick-clause-grown : goal.returns-in-Some-pick-clause-grown
returns-in-Some-pick-clause-grown g c =
    let scope = c.args.state.now.scope in
    let m = memory_of c.args.state.now.store in
    let new = memory_of c.step_at.new.state.store in
    let at = place_scope scope c.in-Some.inner c.in-Some-pick.place in
    safe_both c.step_at.result (HasKept at m new) (HasKept at m new) (HasKept scope m new) (λ k q. kept_outside scope at m new (frame (open_entered c.in-Some.inner) (c.in-Some-pick.place + 1) ∷ [], refl) k) c.step_at.ensures.grown c.step_at.ensures.grown

pub write_exit-requires-clause-variable : goal.write_exit-requires-clause-variable
write_exit-requires-clause-variable g c =
    let table = c.args.symbols.now in
    let scope = c.args.state.now.scope in
    let o = c.in-Some.inner in
    let m = memory_of c.args.state.now.store in
    let right = subst (λ (x : Option (Open _)). IfOpened g.C.Work.left g.C.Work.base g.C.Work.sound scope x table m.stands) c.in-Some.is c.requires.sound.inner in
    variable_stands table scope m o.plan.number (head_of o.d.now) (stmt_trees o.d.now.body.items) right.can c.requires.ready

pub write_exit-requires-clause-private : goal.write_exit-requires-clause-private
write_exit-requires-clause-private g c =
    let table = c.args.symbols.now in
    let scope = c.args.state.now.scope in
    let o = c.in-Some.inner in
    let m = memory_of c.args.state.now.store in
    let right = subst (λ (x : Option (Open _)). IfOpened g.C.Work.left g.C.Work.base g.C.Work.sound scope x table m.stands) c.in-Some.is c.requires.sound.inner in
    private_stand table scope m o.plan.number (head_of o.d.now) (stmt_trees o.d.now.body.items) right.can c.requires.ready

pub write_exit-requires-clause-inner : goal.write_exit-requires-clause-inner
write_exit-requires-clause-inner g c =
    let table = c.args.symbols.now in
    let scope = c.args.state.now.scope in
    let o = c.in-Some.inner in
    let m = memory_of c.args.state.now.store in
    let right = subst (λ (x : Option (Open _)). IfOpened g.C.Work.left g.C.Work.base g.C.Work.sound scope x table m.stands) c.in-Some.is c.requires.sound.inner in
    inner_stand table scope m o.plan.number (head_of o.d.now) (stmt_trees o.d.now.body.items) right.can c.requires.ready o.plan right.plan

pub returns-clause-does : goal.returns-clause-does
returns-clause-does g c =
    let table = c.args.symbols.now in
    let scope = c.args.state.now.scope in
    let old = c.args.self.now in
    let o = c.in-Some.inner in
    let m = memory_of c.args.state.now.store in
    let right = subst (λ (x : Option (Open _)). IfOpened g.C.Work.left g.C.Work.base g.C.Work.sound scope x table m.stands) c.in-Some.is c.requires.sound.inner in
    let new : Rest _ = record { parts = old.parts; inner = None } in
    closed_done g.C.Work.left scope old o c.in-Some.is (setting_by table) c.args.choice m (memory_of c.write_exit.new.state.store) new c.write_exit.new.state.scope
    (sym c.in-None-pick.is ∙ c.pick.ensures scope table m.stands right) refl refl c.write_exit.ensures.scope c.write_exit.ensures.memory

pub returns-clause-copies : goal.returns-clause-copies
returns-clause-copies g c =
    let scope = c.args.state.now.scope in
    let o = c.in-Some.inner in
    let m = memory_of c.args.state.now.store in
    let new = memory_of c.write_exit.new.state.store in
    same_copies scope c.write_exit.new.state.scope m new c.write_exit.ensures.scope (left_grows (entered_by (head_of o.d.now) o.plan 0) scope m new c.write_exit.ensures.memory) c.requires.ready.copies

pub returns-clause-grown : goal.returns-clause-grown
returns-clause-grown g c =
    let o = c.in-Some.inner in
    let scope = c.args.state.now.scope in
    let m = memory_of c.args.state.now.store in
    let new = memory_of c.write_exit.new.state.store in
    grown_kept scope m new (left_grows (entered_by (head_of o.d.now) o.plan 0) scope m new c.write_exit.ensures.memory)

pub returns-in-Some-pick-clause-sound : goal.returns-in-Some-pick-clause-sound
returns-in-Some-pick-clause-sound g c =
    let table = c.args.symbols.now in
    let scope = c.args.state.now.scope in
    let stands = (memory_of c.step_at.new.state.store).stands in
    let new : Rest _ = record { parts = c.args.self.now.parts; inner = Some c.step_at.new.self } in
    let P = IsOpen g.C.Work.left g.C.Work.base g.C.Work.sound table stands scope c.step_at.new.self in
    let i : IfOpen c.step_at.result P = c.step_at.ensures.inner in
    open_both c.step_at.result P P (IsSound g.C.Work.left g.C.Work.base g.C.Work.sound c.step_at.new.state.scope new table stands)
    (λ (h : P) (k : P). subst (λ (z : Scope). IsSound g.C.Work.left g.C.Work.base g.C.Work.sound z new table stands) (sym c.step_at.ensures.scope) (record { parts = c.requires.sound.parts; inner = h })) i i
