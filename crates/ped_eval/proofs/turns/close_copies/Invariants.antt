use Rattle.std.proofs.Common.{◌≡◌, drop, true}
use Rattle.std.specs.List.{list_all}
use Rattle.ped_store.specs.Keeping.{memory_of}
use Rattle.ped_eval.specs.Scopes.{cell_of}
use Rattle.ped_eval.specs.Agreement.{is_copy}
use Rattle.ped_eval.specs.Turns.{without_copies}
use Rattle.ped_eval.proofs.turns.close_copies.Given as goal

abbrev pub invariant-loop-place : goal.invariant-loop-place
invariant-loop-place l = record {
  rest : without_copies l.initial.state.scope (drop l.place l.names) (memory_of l.state.store) ≡ without_copies l.initial.state.scope l.names (memory_of l.initial.state.store);
  right : list_all (λ x. is_copy (cell_of l.initial.state.scope x)) (drop l.place l.names) ≡ true;
  scope : l.state.scope ≡ l.initial.state.scope;
}
