-- Statements of a program exchanged for others, where statements that exist count under their old numbers, and executions know what they are (this project).
use Rattle.std.specs.Prelude.{◌≡◌, ℕ, ◌+◌, ◌<◌, ◌≤◌, List, [], ◌∷◌, ◌++◌, Bool, true, false}
use Rattle.ped_bodies.specs.ped_flow.specs.ped_tree.specs.Tree.{StmtTrees, ProgramTree}
use Rattle.ped_bodies.specs.ped_flow.specs.ped_tree.specs.NamesIn.{stmts_names}
use Rattle.ped_bodies.specs.ped_flow.specs.ped_tree.specs.Numbering.{statements_count}
use Rattle.ped_bodies.specs.ped_store.specs.Cells.{Cell}
use Rattle.ped_bodies.specs.ped_store.specs.Stores.{Store}
use Rattle.ped_bodies.specs.ped_store.specs.Acts.{Act}
use Rattle.ped_bodies.specs.ped_laws.specs.Acts.Fitting.{store_after}
use Rattle.ped_bodies.specs.ped_laws.specs.Acts.Pieces.{Part, same, changed, old_parts, StandsFor}
use Rattle.ped_bodies.specs.ped_laws.specs.FlowRuns.Covering.{some_stop}
use Rattle.ped_bodies.specs.ped_laws.specs.FlowRuns.Exits.{IsOneToOne}
use Rattle.ped_bodies.specs.ped_laws.specs.Runs.Replaying.{goes_on, finish_of, Replays}
use Rattle.ped_bodies.specs.ped_eval.specs.Scopes.{Setting, Scope}
use Rattle.ped_bodies.specs.ped_eval.specs.Runs.{Run, run_all}
use Rattle.ped_bodies.specs.ped_steps.specs.Runs.Gaps.{Gap, filled, number_at}
use Rattle.ped_bodies.specs.ped_steps.specs.Runs.Pasting.{AgreeInBounds, is_in_parallel, HaveSameIndices}
use Rattle.ped_loop_runs.specs.Executions.{IsExecuted}

-- statements of a program, as many in all as given, count under the same numbers before and after: those before the statement with number l as they do, those after it, where old statements have given way to new ones, as many as given of each, under their old numbers; of numbers that no statement has nothing is asked (this project)
pub record CountAlike (p q : Setting) (l old new all : ℕ) : Type 0 where
  pub before : (k : ℕ) → k < l → q.number k ≡ p.number k
  pub behind : (k : ℕ) → l + old + k ≤ all → q.number (l + new + k) ≡ p.number (l + old + k)

-- statements of a program are exchanged for others: the two programs fill one gap, and their runs take the same bounds for what the old program names, and the same constants, and count alike the statements that stay, each under a number of its own. There are some old statements, with no STOP in them, and a PARALLEL DO around them finds the same variables of DO loops in it, of which its iterations have copies (ParaScope; this project)
pub record IsPasted (p q : Setting) (gap : Gap) (old new : StmtTrees) (t u : ProgramTree) : Type 0 where
  pub old_body : t.body ≡ filled gap old
  pub new_body : u.body ≡ filled gap new
  pub bounds : AgreeInBounds p.bounds q.bounds (stmts_names t.body)
  pub constants : p.constants ≡ q.constants
  pub one_each : IsOneToOne p.number
  pub numbers : CountAlike p q (number_at gap 1) (statements_count old) (statements_count new) (statements_count t.body)
  pub some : 0 < statements_count old
  pub unstopped : some_stop old ≡ false
  pub indices : is_in_parallel t (number_at gap 1) ≡ true → HaveSameIndices old new

-- this holds of each execution that goes on, in a run of a program that begins with a store, of this many statements from number l on (plain words)
abbrev pub OfExecutions : (p : Setting) (t : ProgramTree) (start : Store) (l count : ℕ) (piece : Scope → Store → Run) → (Scope → List Act → Store → Type 0) → Type 0
OfExecutions p t start l count piece P = (scope : Scope) (front behind : List Act) (u : Store) → IsExecuted p t start l count scope front (piece scope u).acts behind u → finish_of (piece scope u).ending ≡ goes_on → P scope behind u

-- for each execution, others do the new acts in the same place, from each store that these fit (this project)
abbrev pub DoInstead : (p q : Setting) (t : ProgramTree) (start : Store) (l count : ℕ) (piece : Scope → Store → Run) (others : StmtTrees) (fresh : Scope → Store → List Act) → Type 0
DoInstead p q t start l count piece others fresh = OfExecutions p t start l count piece λ scope behind u. Replays (run_all q others l scope) (fresh scope u) goes_on

-- for each execution, the new acts may stand for the old ones, where for the acts from there on a set of cells is given on which the stores agree (this project)
abbrev pub StandInstead : (agreed : List Act → Cell → Bool) (p : Setting) (t : ProgramTree) (start : Store) (l count : ℕ) (piece : Scope → Store → Run) (fresh : Scope → Store → List Act) → Type 0
StandInstead agreed p t start l count piece fresh = OfExecutions p t start l count piece λ scope behind u.
    StandsFor (record { agreed = agreed ((piece scope u).acts ++ behind); old = (piece scope u).acts; new = fresh scope u }) (agreed behind) u

-- each changed part may stand for the old one, where stores agree on what is given for the acts from there on (this project)
abbrev pub PartsStandBy : (agreed : List Act → Cell → Bool) → List Part → Store → Type 0
PartsStandBy agreed [] s = Unit {0}
PartsStandBy agreed (same acts ∷ ps) s = PartsStandBy agreed ps (store_after acts s)
PartsStandBy agreed (changed old new ∷ ps) s = StandsFor (record { agreed = agreed (old ++ old_parts ps); old = old; new = new }) (agreed (old_parts ps)) s × PartsStandBy agreed ps (store_after old s)

-- an execution that goes on of this many statements from number l on, and what is done in its place: the old acts are those that it does here and from this store, and the new ones are given by the place and the store (this project)
pub record IsExchanged (p : Setting) (t : ProgramTree) (start : Store) (l count : ℕ) (piece : Scope → Store → Run) (fresh : Scope → Store → List Act) (front behind : List Act) (u : Store) (old new : List Act) : Type 0 where
  pub scope : Scope
  pub executed : IsExecuted p t start l count scope front (piece scope u).acts behind u
  pub goes : finish_of (piece scope u).ending ≡ goes_on
  pub old_is : old ≡ (piece scope u).acts
  pub new_is : new ≡ fresh scope u

-- each changed part of a list of acts, which is done from this store after the front and before what follows, is changed so (plain words)
abbrev pub AreChangedBy : (List Act → List Act → Store → List Act → List Act → Type 0) → List Act → List Part → List Act → Store → Type 0
AreChangedBy By front [] behind u = Unit {0}
AreChangedBy By front (same acts ∷ parts) behind u = AreChangedBy By (front ++ acts) parts behind (store_after acts u)
AreChangedBy By front (changed old new ∷ parts) behind u = By front (old_parts parts ++ behind) u old new × AreChangedBy By (front ++ old) parts behind (store_after old u)

-- the changed parts of a list of acts, which is done from this store after the front and before what follows, are executions of the statements at the number (this project)
abbrev pub AreExchanged : (p : Setting) (t : ProgramTree) (start : Store) (l count : ℕ) (piece : Scope → Store → Run) (fresh : Scope → Store → List Act) → List Act → List Part → List Act → Store → Type 0
AreExchanged p t start l count piece fresh = AreChangedBy (IsExchanged p t start l count piece fresh)
