-- Outcomes of programs: what is printed and what the live-out variables hold, or the fault (ANSI X3.9-1978, sections 8.9, 17; this project).
use Rattle.std.specs.Prelude.{ℕ, ℤ, List, [], map, Option, Some, None}
use Rattle.std.specs.List.{flat_map}
use Rattle.std.specs.Str.Lines.{lines}
use Rattle.ped_base.specs.Dimensions.{Dimensions}
use Rattle.ped_tree.specs.Tree.{DeclTree, Program, Implicit, Integer, Dimension, Parameter, Save, Remark, ProgramTree}
use Rattle.ped_tree.specs.NamesIn.{saved_in}
use Rattle.ped_symbols.specs.declared.symbols.Kind.{Kind}
use Rattle.ped_symbols.specs.declared.symbols.Kind.TheVariants.{Scalar, Array, Constant}
use Rattle.ped_symbols.specs.Kinds.{kind_in, at_last}
use Rattle.ped_store.specs.Cells.{Out}
use Rattle.ped_store.specs.Stores.{Store, store_at_start, lines_in}
use Rattle.ped_store.specs.Variables.{no_dimensions, values_of}
use Rattle.ped_store.specs.Races.{accesses, HasNoRace}
use Rattle.ped_eval.specs.Scopes.{Setting}
use Rattle.ped_eval.specs.Loops.{sorted_once}
use Rattle.ped_eval.specs.Runs.{Ending, going, stopped, failed, Run, run_all}

-- the bounds of a name by what it stands for; none for one that is no array (ANSI X3.9-1978, section 5.1)
abbrev pub bounds_of : Option Kind → Dimensions
bounds_of None = no_dimensions
bounds_of (Some Scalar) = no_dimensions
bounds_of (Some (Array bounds)) = bounds
bounds_of (Some (Constant n)) = no_dimensions

-- the setting of a program: each statement counts under its own number (this project)
abbrev pub setting_of : ProgramTree → Setting
setting_of t = record { bounds = λ x. bounds_of (kind_in t x); constants = (at_last t).values; number = λ n. n }

-- the run of a program on the lines of its data (ANSI X3.9-1978, section 2.4.1; this project)
abbrev pub run_of : ProgramTree → List ℕ → Run
run_of t data_bytes = run_all (setting_of t) t.body 1 [] (store_at_start (lines data_bytes))

-- a live-out variable with its values; an undefined one is None (this project)
pub record LiveRow : Type 0 where
  pub name : List ℕ
  pub values : List (Option ℤ)

-- the live-out variables: the names in SAVE, in byte order (ANSI X3.9-1978, section 8.9; this project)
abbrev pub live_names : ProgramTree → List (List ℕ)
live_names t = sorted_once (flat_map saved_in t.decls)

-- the live-out variables with their values (this project)
abbrev pub live_rows : ProgramTree → Store → List LiveRow
live_rows t s = map (λ x. record { name = x; values = values_of (bounds_of (kind_in t x)) x s }) (live_names t)

-- how a program ends: with the lines that it has printed and the rows of its live-out variables, or with the number of a fault and the statement that met it (this project)
pub data Outcome : Type 0 where
  Ended : List (List ℕ) → List LiveRow → Outcome
  Fault : ℕ → ℕ → Outcome

-- the outcome of an ending (this project)
abbrev pub outcome_of : ProgramTree → Ending → Outcome
outcome_of t (going s) = Ended (lines_in (s Out)) (live_rows t s)
outcome_of t (stopped s) = Ended (lines_in (s Out)) (live_rows t s)
outcome_of t (failed fault statement) = Fault fault statement

-- the outcome of a program on its data, which is one (this project)
abbrev pub outcome : ProgramTree → List ℕ → Outcome
outcome t data_bytes = outcome_of t (run_of t data_bytes).ending

-- the run ends, by END or STOP and without a fault (ANSI X3.9-1978, section 11.12; this project)
abbrev pub Ends : Ending → Type 0
Ends (going s) = Unit {0}
Ends (stopped s) = Unit {0}
Ends (failed fault statement) = ⊥

-- the program runs on its data without a fault and without a race (Allen and Kennedy, section 2.2.1; this project)
abbrev pub IsRaceFree : ProgramTree → List ℕ → Type 0
IsRaceFree t data_bytes = Ends (run_of t data_bytes).ending × HasNoRace (accesses (run_of t data_bytes).acts)
