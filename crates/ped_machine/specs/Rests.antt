-- The rest of the whole run or of an iteration, with the PARALLEL DO that is open in it (this project).
use Rattle.std.specs.Prelude.{Bool, Option, Some, None}
use Rattle.ped_symbols.specs.Kinds.{Table}
use Rattle.ped_store.specs.Cells.{Cell}
use Rattle.ped_interleavings.specs.ped_eval.specs.Scopes.{Scope}
use Rattle.ped_interleavings.specs.Lefts.{Left}
use Rattle.ped_machine.specs.Parts.{parts_of, parts_left, CanGo}
use Rattle.ped_machine.specs.Opens.{open_left, IsOpen}
use Rattle.ped_machine.specs.declared.opens.Open.{Open}
use Rattle.ped_machine.specs.declared.rests.Rest.{Rest}

module _ {C : Type 0} (left : C → Left) where
  -- the rest of the loop that is open, and what follows it
  abbrev pub opened_left : Scope → Option (Open C) → Left → Left
  opened_left scope None rest = rest
  opened_left scope (Some o) rest = open_left left scope o rest

  -- the rest, with these iterations around it
  abbrev pub rest_left : Scope → Rest C → Left
  rest_left scope r = opened_left scope r.inner (parts_left (parts_of r.parts) scope)

  module _ (base : C → Scope) (sound : C → Table → (Cell → Bool) → Type 0) (scope : Scope) where
    -- where a loop is open, its steps can be done
    abbrev pub IfOpened : Option (Open C) → Table → (Cell → Bool) → Type 0
    IfOpened None table stands = Unit {0}
    IfOpened (Some o) table stands = IsOpen left base sound table stands scope o

    -- all that is left can be done
    pub record IsSound (r : Rest C) (table : Table) (stands : Cell → Bool) : Type 0 where
      pub parts : CanGo table (parts_of r.parts) scope
      pub inner : IfOpened r.inner table stands
