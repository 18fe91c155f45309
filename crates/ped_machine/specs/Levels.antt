-- What the iterations of PARALLEL DO loops have left that have been started (this project).
use Rattle.std.specs.Prelude.{[], Bool, ⊤}
use Rattle.ped_symbols.specs.Kinds.{Table}
use Rattle.ped_store.specs.Cells.{Cell}
use Rattle.ped_interleavings.specs.ped_eval.specs.Scopes.{Scope}
use Rattle.ped_interleavings.specs.ped_eval.specs.Agreement.{DoCopiesStand}
use Rattle.ped_interleavings.specs.Lefts.{Left, finished}
use Rattle.ped_machine.specs.Parts.{parts_of, base_of}
use Rattle.ped_machine.specs.Rests.{rest_left, IsSound}
use Rattle.ped_machine.specs.declared.levels.Level.{Level}
use Rattle.ped_machine.specs.declared.works.Never.{Never}

-- what an iteration has left
abbrev pub level_left : {C : Type 0} → (C → Left) → Level C → Left
level_left left l = rest_left left l.scope l.rest

-- all that an iteration has left can be done
pub record IsSoundLevel {C : Type 0} (left : C → Left) (base : C → Scope) (sound : C → Table → (Cell → Bool) → Type 0) (l : Level C) (table : Table) (stands : Cell → Bool) : Type 0 where
  pub rest : IsSound left base sound l.scope l.rest table stands
  pub copies : DoCopiesStand l.scope stands

-- the iterations that it is in from its beginning to its end
abbrev pub level_base : {C : Type 0} → Level C → Scope
level_base l = base_of (parts_of l.rest.parts) l.scope

-- where there can be no iteration, there are none
abbrev pub never_base : Never → Scope
never_base w = []

-- where there can be no iteration, nothing is left
abbrev pub never_left : Never → Left
never_left w = finished

-- and that can always be done
abbrev pub IsNever : Never → Table → (Cell → Bool) → Type 0
IsNever w table stands = ⊤
