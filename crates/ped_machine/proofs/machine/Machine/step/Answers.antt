-- A step of the machine, by that of what is left.
use Rattle.std.proofs.Common.{◌≡◌, Bool, Ok, refl, sym, ap, subst, ◌∙◌}
use Rattle.ped_tree.specs.Views.{program_tree}
use Rattle.ped_store.specs.Keeping.{memory_of}
use Rattle.ped_interleavings.specs.ped_eval.specs.Scopes.{Scope}
use Rattle.ped_interleavings.specs.ped_eval.specs.Outcomes.{setting_of}
use Rattle.ped_interleavings.specs.Steps.{step}
use Rattle.ped_machine.specs.Answers.{ends_run, step_by}
use Rattle.ped_machine.specs.Machines.{IsStepBy, IfFaultless}
use Rattle.ped_machine.specs.Rests.{rest_left}
use Rattle.ped_machine.specs.Roots.{outermost_left, root_left, held, IsRight, IsSafe}
use Rattle.ped_machine.specs.declared.machine.Machine.{Machine}
use Rattle.ped_machine.specs.declared.steps.Step.{Step}
use Rattle.ped_machine.specs.declared.steps.Step.TheVariants as answer
use Rattle.ped_machine.proofs.Answering.{told, any_step, root_is, still_right, faultless_maps, went_lighter}
use Rattle.ped_machine.proofs.Dropping.{ready_kept}
use Rattle.ped_machine.proofs.machine.Machine.step.Goals as goal

pub returns-in-Ok-clause-does : goal.returns-in-Ok-clause-does
returns-in-Ok-clause-does c =
    let m = c.args.self.now in
    let t = program_tree m.program.now in
    let d = c.in-Ok.done in
    let scope = c.step.new.state.scope in
    let rest = c.step.new.self in
    let new : Machine = record { alloc = m.alloc; program = m.program; symbols = m.symbols; state = c.step.new.state; rest = rest; is_over = c.ends_run-self.result } in
    let s = (memory_of m.state.store).cells in
    let u = (memory_of c.step.new.state.store).cells in
    let l = rest_left outermost_left scope rest in
    let before = root_left m.is_over m.state.scope m.rest in
    let did = told t m.symbols.now c.args.choice s u d before (rest_left outermost_left m.state.scope m.rest) l c.requires.table (ap (λ (b : Bool). root_left b m.state.scope m.rest) c.if-self.false) c.in-Ok.ensures.does in
    let x = step (setting_of t) before c.args.choice s in
    subst (λ (r : Step). IsStepBy x (held m) r (held new)) (sym c.step_by.ensures)
    (any_step x d (held m) (held new) l u did refl (ap (λ (b : Bool). root_left b scope rest) c.ends_run-self.ensures ∙ root_is (ends_run d) scope rest) refl)

pub returns-in-Ok-clause-lighter : goal.returns-in-Ok-clause-lighter
returns-in-Ok-clause-lighter c h =
    let m = c.args.self.now in
    let t = program_tree m.program.now in
    let new : Machine = record { alloc = m.alloc; program = m.program; symbols = m.symbols; state = c.step.new.state; rest = c.step.new.self; is_over = c.ends_run-self.result } in
    let x = step (setting_of t) (root_left m.is_over m.state.scope m.rest) c.args.choice (memory_of m.state.store).cells in
    let gone : c.step_by.result ≡ answer.Went = cc in
    went_lighter (setting_of t) (held m) (held new) c.args.choice c.lighter.ensures (subst (λ (r : Step). IsStepBy x (held m) r (held new)) gone (returns-in-Ok-clause-does c))

pub returns-in-Ok-clause-safe : goal.returns-in-Ok-clause-safe
returns-in-Ok-clause-safe c =
    let m = c.args.self.now in
    let table = m.symbols.now in
    let d = c.in-Ok.done in
    let scope = c.step.new.state.scope in
    let rest = c.step.new.self in
    let old = memory_of m.state.store in
    let after = memory_of c.step.new.state.store in
    let new : Machine = record { alloc = m.alloc; program = m.program; symbols = m.symbols; state = c.step.new.state; rest = rest; is_over = c.ends_run-self.result } in
    let was = subst (λ (b : Bool). IsRight b m.state.scope m.rest table old) c.if-self.false c.requires.right in
    subst (λ (r : Step). IfFaultless {E = ⊥} (Ok r) (IsSafe new)) (sym c.step_by.ensures)
    (faultless_maps ⊥ (step_by d) (IsRight (ends_run d) scope rest table after) (IsSafe new)
    (λ (h : IsRight (ends_run d) scope rest table after). record { table = c.requires.table; right = subst (λ (b : Bool). IsRight b scope rest table after) (sym c.ends_run-self.ensures) h })
    (still_right ⊥ d scope rest table old after m.state.scope was.ready c.in-Ok.ensures.sound c.in-Ok.ensures.copies c.in-Ok.ensures.grown))

pub returns-in-Err-clause-kept : goal.returns-in-Err-clause-kept
returns-in-Err-clause-kept c =
    let m = c.args.self.now in
    let scope = c.step.new.state.scope in
    let rest = c.step.new.self in
    let k = c.in-Err.ensures.kept in
    record {
      tree = refl;
      left =
          ap (λ (b : Bool). root_left b scope rest) c.if-self.false ∙ ap (λ (z : Scope). rest_left outermost_left z rest) k.0 ∙ k.1
          ∙ sym (ap (λ (b : Bool). root_left b m.state.scope m.rest) c.if-self.false);
      store = k.2.cells;
    }

pub returns-in-Err-clause-safe : goal.returns-in-Err-clause-safe
returns-in-Err-clause-safe c =
    let m = c.args.self.now in
    let table = m.symbols.now in
    let scope = c.step.new.state.scope in
    let rest = c.step.new.self in
    let old = memory_of m.state.store in
    let after = memory_of c.step.new.state.store in
    let was = subst (λ (b : Bool). IsRight b m.state.scope m.rest table old) c.if-self.false c.requires.right in
    record {
      table = c.requires.table;
      right =
          subst (λ (b : Bool). IsRight b scope rest table after) (sym c.if-self.false)
          (record { ready = ready_kept table m.state.scope scope old after c.in-Err.ensures.grown was.ready c.in-Err.ensures.copies; sound = c.in-Err.ensures.sound });
    }
