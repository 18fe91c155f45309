use Rattle.std.proofs.Common.{◌≡◌, drop, true}
use Rattle.std.specs.List.{list_all}
use Rattle.ped_store.specs.Memories.{Memory}
use Rattle.ped_store.specs.Keeping.{memory_of}
use Rattle.ped_interleavings.specs.ped_eval.specs.Scopes.{cell_of}
use Rattle.ped_interleavings.specs.ped_eval.specs.Agreement.{is_copy}
use Rattle.ped_machine.specs.Doing.{HasGrown, HasRoom}
use Rattle.ped_machine.proofs.turns.open_copies.Given as goal

abbrev pub invariant-loop-place : goal.invariant-loop-place
invariant-loop-place l = record {
  room : HasRoom (memory_of l.initial.store) (memory_of l.store);
  copies : list_all (λ x. is_copy (cell_of l.scope x)) (drop l.place l.names) ≡ true;
  stand : (m : Memory) → HasGrown (memory_of l.store) m → list_all (λ x. m.stands (cell_of l.scope x)) (drop l.place l.names) ≡ true → list_all (λ x. m.stands (cell_of l.scope x)) l.names ≡ true;
}
