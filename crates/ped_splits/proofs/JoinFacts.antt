-- Two DO loops of one variable, one behind the other, and the DO that they become: what is needed of them.
use Rattle.std.proofs.Common.{List, [], false, ℕ, ◌+◌, ◌<◌, ◌≡◌, ◌≤◌}
use Rattle.std.specs.Str.Lines.{lines}
use Rattle.ped_base.specs.Lists.{is_among}
use Rattle.ped_tree.specs.NamesIn.{all_loop_variables, loop_variables}
use Rattle.ped_tree.specs.Numbering.{statement_with, statements_count}
use Rattle.ped_tree.specs.Tree.{Do, ExprTree, Head, ProgramTree, StmtTrees, more_stmts}
use Rattle.ped_rules.specs.Rules.{IsBoundOf}
use Rattle.ped_rules.specs.ped_loop_runs.specs.Executions.{IsExecuted}
use Rattle.ped_rules.specs.ped_bodies.specs.Moving.{is_cell_among}
use Rattle.ped_rules.specs.ped_bodies.specs.Trips.{IsMadeOfTrips, entered_from}
use Rattle.ped_rules.specs.ped_steps.specs.Replacing.{alone, followed}
use Rattle.ped_rules.specs.ped_steps.specs.Runs.Gaps.{Gap, filled, number_at}
use Rattle.ped_rules.specs.ped_flow.specs.PlainBounds.{IsFixed, IsPlainlyBuilt, assigned_by, nest_round, outermost_or}
use Rattle.ped_rules.specs.ped_flow.specs.Questions.{IsContained}
use Rattle.ped_rules.specs.ped_laws.specs.Acts.Conflicts.{blocks_conflict_outside}
use Rattle.ped_rules.specs.ped_laws.specs.Acts.Fitting.{store_after}
use Rattle.ped_rules.specs.ped_laws.specs.FlowRuns.Covering.{some_stops_in_loop}
use Rattle.ped_rules.specs.ped_laws.specs.Runs.Replaying.{finish_of, goes_on}
use Rattle.ped_rules.specs.ped_eval.specs.Outcomes.{Ends, run_of, setting_of}
use Rattle.ped_rules.specs.ped_eval.specs.Runs.{run, run_all}
use Rattle.ped_rules.specs.ped_eval.specs.Scopes.{Scope}
use Rattle.ped_rules.specs.ped_store.specs.Acts.{Act}
use Rattle.ped_rules.specs.ped_store.specs.Stores.{Store, store_at_start}
use Rattle.ped_rules.specs.ped_symbols.specs.Kinds.{kind_in}
use Rattle.ped_rules.specs.ped_symbols.specs.NameRefusals.{IsValid}

-- two DO loops stand one behind the other in a program, and have the same variable, and alike bounds and increments; in the other program the one DO stands in their place. They aren't parallel and have no PRIVATE names; the one DO is contained, and behind the second one nobody wants a variable of a DO in them; and of the bounds it is known, in some program, that they are plain, with scalars that keep their values here, too
pub record AreJoined (t u : ProgramTree) (s : ℕ) : Type 0 where
  pub gap : Gap
  pub own : Head
  pub own_body : StmtTrees
  pub between : StmtTrees
  pub next : Head
  pub next_body : StmtTrees
  pub rejected : List (List ℕ)
  pub stands : t.body ≡ filled gap (more_stmts (Do own own_body) (followed between (alone (Do next next_body))))
  pub new_stands : u.body ≡ filled gap (alone (Do (record own { rejected = rejected }) (followed own_body (followed between next_body))))
  pub numbered : number_at gap 1 ≡ s
  pub comments : statements_count between ≡ 0
  pub decls : u.decls ≡ t.decls
  pub kinds : (y : List ℕ) → kind_in u y ≡ kind_in t y
  pub new_valid : IsValid u
  pub serial : own.parallel ≡ false
  pub next_serial : next.parallel ≡ false
  pub private : own.private ≡ []
  pub next_private : next.private ≡ []
  pub variable : next.variable ≡ own.variable
  pub first : next.first ≡ own.first
  pub last : next.last ≡ own.last
  pub step : next.step ≡ own.step
  pub unstopped : some_stops_in_loop t.body ≡ false
  pub contained : IsContained u s
  pub outer : ProgramTree
  pub nest : nest_round outer s ≡ nest_round t s
  pub plain : (e : ExprTree) → IsBoundOf own e → IsPlainlyBuilt (setting_of t).constants outer s e
  pub fixed : (y : List ℕ) → IsFixed (setting_of t).constants outer s y → (is_among y (assigned_by (statement_with (outermost_or s (nest_round t s)) t)) ≡ false) × (is_among y (all_loop_variables t.body) ≡ false)

module _ {t u : ProgramTree} {s : ℕ} (x : AreJoined t u s) where
  -- the number of the second DO
  abbrev pub next_at : ℕ
  next_at = s + 1 + statements_count x.own_body

  -- the head and the body of the one DO
  abbrev pub one_head : Head
  one_head = record x.own { rejected = x.rejected }

  abbrev pub one_body : StmtTrees
  one_body = followed x.own_body (followed x.between x.next_body)

  -- the variables of the one DO and of those in it
  abbrev pub variables_of : List (List ℕ)
  variables_of = loop_variables (Do (record x.own { rejected = x.rejected }) (followed x.own_body (followed x.between x.next_body)))

  -- the two DO loops, and the one
  abbrev pub both_loops : StmtTrees
  both_loops = more_stmts (Do x.own x.own_body) (followed x.between (alone (Do x.next x.next_body)))

  abbrev pub one_loop : StmtTrees
  one_loop = alone (Do (record x.own { rejected = x.rejected }) (followed x.own_body (followed x.between x.next_body)))

-- where the run on these data ends no iteration of the first DO conflicts with an earlier one of the second, but on cells of variables of DO loops
abbrev pub NoneCross : (t u : ProgramTree) (s : ℕ) → AreJoined t u s → (data_bytes : List ℕ) → Type 0
NoneCross t u s x data_bytes =
    Ends (run_of t data_bytes).ending
    → (scope : Scope) (front behind : List Act) (v : Store)
    → IsExecuted (setting_of t) t (store_at_start (lines data_bytes)) s (statements_count (both_loops x)) scope front (run_all (setting_of t) (both_loops x) s scope v).acts behind v
    → finish_of (run_all (setting_of t) (both_loops x) s scope v).ending ≡ goes_on
    → (one : IsMadeOfTrips (setting_of t) x.own x.own_body s scope v) (other : IsMadeOfTrips (setting_of t) x.next x.next_body (s + 1 + statements_count x.own_body) scope (store_after (run (setting_of t) (Do x.own x.own_body) s scope v).acts v))
    → (i j : ℕ) → 1 ≤ j → j < i
    → i ≤ (entered_from (setting_of t) x.own x.own_body s scope v one.bounds).count
    → j ≤ (entered_from (setting_of t) x.next x.next_body (s + 1 + statements_count x.own_body) scope (store_after (run (setting_of t) (Do x.own x.own_body) s scope v).acts v) other.bounds).count
    → blocks_conflict_outside (is_cell_among (variables_of x)) (one.trip i) (other.trip j) ≡ false
