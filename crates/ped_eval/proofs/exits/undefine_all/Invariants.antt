use Rattle.std.proofs.Common.{◌≡◌, drop, true}
use Rattle.std.specs.List.{list_all}
use Rattle.ped_store.specs.Keeping.{memory_of}
use Rattle.ped_eval.specs.Scopes.{cell_of}
use Rattle.ped_eval.specs.Turns.{undefined_in}
use Rattle.ped_eval.proofs.exits.undefine_all.Given as goal

abbrev pub invariant-loop-name : goal.invariant-loop-name
invariant-loop-name l = record {
  rest : undefined_in l.initial.state.scope (drop l.name-index l.names) (memory_of l.state.store) ≡ undefined_in l.initial.state.scope l.names (memory_of l.initial.state.store);
  right : list_all (λ x. (memory_of l.state.store).stands (cell_of l.initial.state.scope x)) (drop l.name-index l.names) ≡ true;
  scope : l.state.scope ≡ l.initial.state.scope;
}
