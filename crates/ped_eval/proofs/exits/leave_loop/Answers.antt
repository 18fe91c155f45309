use Rattle.std.proofs.Common.{ap, ◌∙◌}
use Rattle.ped_store.specs.Keeping.{memory_of}
use Rattle.ped_eval.specs.Scopes.{Scope, cell_of}
use Rattle.ped_eval.specs.Plans.{entered_by}
use Rattle.ped_tree.specs.Views.{head_of}
use Rattle.ped_eval.specs.Turns.{exited}
use Rattle.std.specs.List.{list_all}
use Rattle.ped_eval.proofs.exits.leave_loop.Goals as goal

pub write_exit-requires-clause-variable : goal.write_exit-requires-clause-variable
write_exit-requires-clause-variable c = ap (λ (s : Scope). (memory_of c.args.state.now.store).stands (cell_of s c.args.d.now.variable)) c.leave.ensures ∙ c.requires.variable

pub write_exit-requires-clause-private : goal.write_exit-requires-clause-private
write_exit-requires-clause-private c = ap (λ (s : Scope). list_all (λ x. (memory_of c.args.state.now.store).stands (cell_of s x)) c.args.d.now.private) c.leave.ensures ∙ c.requires.private

pub write_exit-requires-clause-inner : goal.write_exit-requires-clause-inner
write_exit-requires-clause-inner c = ap (λ (s : Scope). list_all (λ x. (memory_of c.args.state.now.store).stands (cell_of s x)) c.args.plan.now.inner) c.leave.ensures ∙ c.requires.inner

pub returns-clause-memory : goal.returns-clause-memory
returns-clause-memory c = c.write_exit.ensures.memory ∙ ap (λ (s : Scope). exited (entered_by (head_of c.args.d.now) c.args.plan.now 0) s (memory_of c.args.state.now.store)) c.leave.ensures

pub returns-clause-scope : goal.returns-clause-scope
returns-clause-scope c = c.write_exit.ensures.scope ∙ c.leave.ensures
