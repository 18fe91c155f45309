use Rattle.std.proofs.Common.{◌≡◌, ap, ◌∙◌}
use Rattle.std.specs.List.{list_all}
use Rattle.ped_store.specs.Memories.{with_content}
use Rattle.ped_store.specs.Keeping.{memory_of}
use Rattle.ped_eval.specs.Scopes.{Scope, cell_of}
use Rattle.ped_eval.specs.Loops.{left_in_variable}
use Rattle.ped_eval.specs.Plans.{entered_by}
use Rattle.ped_tree.specs.Views.{head_of}
use Rattle.ped_eval.specs.Turns.{undefined_in}
use Rattle.ped_eval.proofs.Undefining.{undefined_stands}
use Rattle.ped_eval.proofs.exits.write_exit.Goals as goal

pub undefine_all-requires : goal.undefine_all-requires
undefine_all-requires c =
    let at : Scope = c.args.state.now.scope in
    let scope : c.leave_variable.new.state.scope ≡ at = c.leave_variable.ensures.scope in
    (λ i. list_all (λ x. (c.leave_variable.ensures.memory i).stands (cell_of (scope i) x)) (c.as_slice.ensures i)) ∙ c.requires.private

pub undefine_all-requires-2 : goal.undefine_all-requires-2
undefine_all-requires-2 c =
    let at : Scope = c.args.state.now.scope in
    let scope : c.undefine_all.new.state.scope ≡ at = c.undefine_all.ensures.scope ∙ c.leave_variable.ensures.scope in
    let stands = (λ i. (c.undefine_all.ensures.memory i).stands) ∙ undefined_stands c.leave_variable.new.state.scope c.as_slice.result.now (memory_of c.leave_variable.new.state.store) ∙ (λ i. (c.leave_variable.ensures.memory i).stands) in
    (λ i. list_all (λ x. stands i (cell_of (scope i) x)) (c.as_slice-2.ensures i)) ∙ c.requires.inner

pub returns-clause-memory : goal.returns-clause-memory
returns-clause-memory c =
    let e = entered_by (head_of c.args.d.now) c.args.plan.now 0 in
    let at : Scope = c.args.state.now.scope in
    let first : c.leave_variable.new.state.scope ≡ at = c.leave_variable.ensures.scope in
    let second : c.undefine_all.new.state.scope ≡ at = c.undefine_all.ensures.scope ∙ first in
    let variable : memory_of c.leave_variable.new.state.store ≡ with_content (cell_of at c.args.d.now.variable) (left_in_variable e) (memory_of c.args.state.now.store) =
    c.leave_variable.ensures.memory in
    let private = c.undefine_all.ensures.memory ∙ (λ i. undefined_in (first i) (c.as_slice.ensures i) (variable i)) in
    c.undefine_all-2.ensures.memory ∙ (λ i. undefined_in (second i) (c.as_slice-2.ensures i) (private i))
