-- What two DO loops must not do that become one: a later iteration of the first one and an earlier one of the second conflict on no cell that counts.
use Rattle.std.proofs.Common.{◌≡◌, ℕ, ◌≤◌, ◌<◌, List, ◌∷◌, ◌++◌, true, false}
use Rattle.std.specs.Str.Lines.{lines}
use Rattle.ped_tree.specs.Tree.{Head, StmtTrees, Do, ProgramTree}
use Rattle.ped_tree.specs.NamesIn.{loop_variables}
use Rattle.ped_tree.specs.Numbering.{statements_count}
use Rattle.ped_rules.specs.ped_loop_runs.specs.Executions.{IsExecuted}
use Rattle.ped_rules.specs.ped_bodies.specs.Moving.{is_cell_among}
use Rattle.ped_rules.specs.ped_bodies.specs.Trips.{IsMadeOfTrips, entered_from}
use Rattle.ped_rules.specs.ped_steps.specs.Replacing.{followed}
use Rattle.ped_rules.specs.ped_laws.specs.Acts.Conflicts.{blocks_conflict_outside}
use Rattle.ped_rules.specs.ped_laws.specs.Acts.Fitting.{store_after}
use Rattle.ped_rules.specs.ped_laws.specs.Acts.Orders.{IsIn}
use Rattle.ped_rules.specs.ped_laws.specs.Runs.Replaying.{finish_of, goes_on}
use Rattle.ped_rules.specs.ped_eval.specs.Outcomes.{Ends, run_of, setting_of}
use Rattle.ped_rules.specs.ped_eval.specs.Runs.{run, run_all}
use Rattle.ped_rules.specs.ped_eval.specs.Scopes.{Scope, turns_of}
use Rattle.ped_rules.specs.ped_store.specs.Acts.{Act, Turn}
use Rattle.ped_rules.specs.ped_store.specs.Races.{Access, accesses, conflict}
use Rattle.ped_rules.specs.ped_store.specs.Stores.{Store, store_at_start}
use Rattle.ped_splits.proofs.FuseFacts.{renamed, renamed_pair}
use Rattle.ped_splits.specs.Neighbours.{Neighbour, joined_head, next_number, renamed_body}

-- the head of the second DO with the variable of the first
abbrev pub renamed_head : {t : ProgramTree} {s : ℕ} → Neighbour t s → Head
renamed_head x = record x.next { variable = x.own.variable }

-- the body of the second DO with the variable of the first
abbrev pub second_body : {t : ProgramTree} {s : ℕ} → Neighbour t s → StmtTrees
second_body x = renamed_body x.own x.next x.next_body

-- the body of the one DO
abbrev pub both_bodies : {t : ProgramTree} {s : ℕ} → Neighbour t s → StmtTrees
both_bodies x = followed x.own_body (followed x.between (second_body x))

-- the variables of the one DO and of the DO loops in it
abbrev pub joined_variables : {t : ProgramTree} {s : ℕ} → Neighbour t s → List (List ℕ)
joined_variables x = loop_variables (Do (joined_head x.own x.next) (both_bodies x))

-- the store between the two, where the first one is done from this store
abbrev pub store_between : {t : ProgramTree} {s : ℕ} → Neighbour t s → Scope → Store → Store
store_between {t} {s} x scope v = store_after (run (setting_of (renamed x)) (Do x.own x.own_body) s scope v).acts v

-- in an execution of the two DO loops that goes on behind both, in a run of the program in which both have one variable, two accesses conflict that references make: one in an iteration of the second DO, and one in a later iteration of the first
pub record CrossBetween {t : ProgramTree} {s : ℕ} (x : Neighbour t s) (data_bytes : List ℕ) (scope : Scope) (a b : Access) : Type 0 where
  pub front : List Act
  pub behind : List Act
  pub store : Store
  pub executed : IsExecuted (setting_of (renamed x)) (renamed x) (store_at_start (lines data_bytes)) s (statements_count (renamed_pair x)) scope front (run_all (setting_of (renamed x)) (renamed_pair x) s scope store).acts behind store
  pub goes : finish_of (run_all (setting_of (renamed x)) (renamed_pair x) s scope store).ending ≡ goes_on
  pub source : IsIn a (accesses (run_all (setting_of (renamed x)) (renamed_pair x) s scope store).acts)
  pub sink : IsIn b (accesses (run_all (setting_of (renamed x)) (renamed_pair x) s scope store).acts)
  pub source_reference : 0 < a.reference
  pub sink_reference : 0 < b.reference
  pub conflicts : conflict a b ≡ true
  pub j : Turn
  pub js : List Turn
  pub i : Turn
  pub is : List Turn
  pub at_source : a.place.turns ≡ turns_of scope ++ j ∷ js
  pub at_sink : b.place.turns ≡ turns_of scope ++ i ∷ is
  pub of_source : j.statement ≡ next_number x
  pub of_sink : i.statement ≡ s
  pub earlier : j.number < i.number

-- where the run on these data ends of the program in which both have one variable: in each execution of the two no iteration of the first one conflicts with an earlier iteration of the second, but on cells of the variables of DO loops
abbrev pub NoneCrosses : {t : ProgramTree} {s : ℕ} → Neighbour t s → (data_bytes : List ℕ) → Type 0
NoneCrosses {t} {s} x data_bytes =
    Ends (run_of (renamed x) data_bytes).ending
    → (scope : Scope) (front behind : List Act) (v : Store)
    → IsExecuted (setting_of (renamed x)) (renamed x) (store_at_start (lines data_bytes)) s (statements_count (renamed_pair x)) scope front (run_all (setting_of (renamed x)) (renamed_pair x) s scope v).acts behind v
    → finish_of (run_all (setting_of (renamed x)) (renamed_pair x) s scope v).ending ≡ goes_on
    → (first : IsMadeOfTrips (setting_of (renamed x)) x.own x.own_body s scope v) (second : IsMadeOfTrips (setting_of (renamed x)) (renamed_head x) (second_body x) (next_number x) scope (store_between x scope v))
    → (i j : ℕ) → 1 ≤ j → j < i
    → i ≤ (entered_from (setting_of (renamed x)) x.own x.own_body s scope v first.bounds).count
    → j ≤ (entered_from (setting_of (renamed x)) (renamed_head x) (second_body x) (next_number x) scope (store_between x scope v) second.bounds).count
    → blocks_conflict_outside (is_cell_among (joined_variables x)) (first.trip i) (second.trip j) ≡ false
