use Rattle.std.proofs.Common.{◌≡◌, drop, true}
use Rattle.std.specs.List.{list_all}
use Rattle.ped_store.specs.Keeping.{memory_of}
use Rattle.ped_interleavings.specs.ped_eval.specs.Scopes as Scopes
use Rattle.ped_machine.specs.Bases.{is_own, HasKept, HasSameBut, IsWithin}
use Rattle.ped_machine.proofs.turns.forget_copies.Given as goal

abbrev pub invariant-loop-place : goal.invariant-loop-place
invariant-loop-place l = record {
  kept : (base : Scopes.Scope) → IsWithin base l.scope → list_all (is_own base) l.names ≡ true → (list_all (is_own base) (drop l.place l.names) ≡ true) × HasSameBut base (memory_of l.initial.store) (memory_of l.store) × HasKept base (memory_of l.initial.store) (memory_of l.store);
}
