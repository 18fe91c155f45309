-- The rest of a whole run, by the levels of a machine: DO loops are nested at most six deep (this project).
use Rattle.std.specs.Prelude.{◌≡◌, Bool, true, false}
use Rattle.ped_symbols.specs.Kinds.{Table}
use Rattle.ped_store.specs.Memories.{Memory}
use Rattle.ped_interleavings.specs.ped_eval.specs.Scopes.{Scope}
use Rattle.ped_interleavings.specs.ped_eval.specs.Readiness.{setting_by, IsReady}
use Rattle.ped_interleavings.specs.Lefts.{Left, finished}
use Rattle.ped_machine.specs.Rests.{rest_left, IsSound}
use Rattle.ped_machine.specs.Levels.{level_left, level_base, IsSoundLevel, never_left, never_base, IsNever}
use Rattle.ped_machine.specs.declared.rests.Rest.{Rest}
use Rattle.ped_machine.specs.declared.levels.Level.{Level}
use Rattle.ped_machine.specs.declared.works.Never.{Never}
use Rattle.ped_machine.specs.declared.machine.Machine.{Machine}
use Rattle.ped_machine.specs.Machines.{Held}
use Rattle.ped_tree.specs.Views.{program_tree}
use Rattle.ped_symbols.specs.Kinds.{table_of}
use Rattle.ped_store.specs.Keeping.{memory_of}
use Rattle.ped_store.specs.Cells.{Cell}

-- an iteration of an outermost PARALLEL DO
abbrev pub Outermost : Type 0
Outermost = Level (Level (Level (Level (Level (Level Never)))))

-- what an iteration of a PARALLEL DO has left, with no PARALLEL DO inside of it
abbrev pub left_1 : Level Never → Left
left_1 = level_left never_left

-- the same, with PARALLEL DO loops one deep inside of it
abbrev pub left_2 : Level (Level Never) → Left
left_2 = level_left left_1

-- the same, with PARALLEL DO loops two deep inside of it
abbrev pub left_3 : Level (Level (Level Never)) → Left
left_3 = level_left left_2

-- the same, with PARALLEL DO loops three deep inside of it
abbrev pub left_4 : Level (Level (Level (Level Never))) → Left
left_4 = level_left left_3

-- the same, with PARALLEL DO loops four deep inside of it
abbrev pub left_5 : Level (Level (Level (Level (Level Never)))) → Left
left_5 = level_left left_4

-- what an iteration of an outermost PARALLEL DO has left, with loops five deep inside of it
abbrev pub outermost_left : Outermost → Left
outermost_left = level_left left_5

-- all that an iteration has left can be done, with no PARALLEL DO inside of it
abbrev pub IsSound1 : Level Never → Table → (Cell → Bool) → Type 0
IsSound1 = IsSoundLevel never_left never_base IsNever

-- the same, with PARALLEL DO loops one deep inside of it
abbrev pub IsSound2 : Level (Level Never) → Table → (Cell → Bool) → Type 0
IsSound2 = IsSoundLevel left_1 level_base IsSound1

-- the same, with PARALLEL DO loops two deep inside of it
abbrev pub IsSound3 : Level (Level (Level Never)) → Table → (Cell → Bool) → Type 0
IsSound3 = IsSoundLevel left_2 level_base IsSound2

-- the same, with PARALLEL DO loops three deep inside of it
abbrev pub IsSound4 : Level (Level (Level (Level Never))) → Table → (Cell → Bool) → Type 0
IsSound4 = IsSoundLevel left_3 level_base IsSound3

-- the same, with PARALLEL DO loops four deep inside of it
abbrev pub IsSound5 : Level (Level (Level (Level (Level Never)))) → Table → (Cell → Bool) → Type 0
IsSound5 = IsSoundLevel left_4 level_base IsSound4

-- the same of an iteration of an outermost PARALLEL DO
abbrev pub IsOutermostSound : Outermost → Table → (Cell → Bool) → Type 0
IsOutermostSound = IsSoundLevel left_5 level_base IsSound5

-- all that is left of the whole run can be done, with these iterations around it
pub record IsRootSound (scope : Scope) (r : Rest Outermost) (table : Table) (m : Memory) : Type 0 where
  pub ready : IsReady table scope m
  pub sound : IsSound outermost_left level_base IsOutermostSound scope r table m.stands

-- the rest of a run, which a STOP or a fault may have ended
abbrev pub root_left : Bool → Scope → Rest Outermost → Left
root_left false scope r = rest_left outermost_left scope r
root_left true scope r = finished

-- what is kept of it is right: while it goes on all that is left can be done, and after its end arrays still have their bounds
abbrev pub IsRight : Bool → Scope → Rest Outermost → Table → Memory → Type 0
IsRight false scope r table m = IsRootSound scope r table m
IsRight true scope r table m = m.bounds ≡ (setting_by table).bounds

-- the run that a machine stands for
abbrev pub held : Machine → Held
held m = record { tree = program_tree m.program.now; left = root_left m.is_over m.state.scope m.rest; store = (memory_of m.state.store).cells }

-- a machine whose calls so far have met no fault
pub record IsSafe (m : Machine) : Type 0 where
  pub table : m.symbols.now ≡ table_of (program_tree m.program.now)
  pub right : IsRight m.is_over m.state.scope m.rest m.symbols.now (memory_of m.state.store)
