-- The accesses that the code's accesses stand for (this project).
use Rattle.std.specs.Prelude.{map}
use Rattle.ped_store.specs.Acts.{Turn}
use Rattle.ped_store.specs.CellViews.{cell_view}
use Rattle.ped_store.specs.Races.{Access}
use Rattle.ped_eval.specs.declared.accesses.Turn as code_turn
use Rattle.ped_eval.specs.declared.accesses.Access as code

-- an iteration that an access is in (this project)
abbrev pub turn_view : code_turn.Turn → Turn
turn_view t = record { statement = t.statement; parallel = t.parallel; number = t.number; value = t.value }

-- an access (this project)
abbrev pub access_view : code.Access → Access
access_view a = record { cell = cell_view a.cell; writes = a.writes; place = record { statement = a.statement; turns = map turn_view a.path }; reference = a.reference }
