-- Executions of a statement among the acts of a run, and what is asked of a program in which statements come in its place (this project).
use Rattle.std.specs.Prelude.{◌≡◌, ℕ, ◌+◌, ◌≤◌, List, [], ◌∷◌, ◌++◌, Bool, true}
use Rattle.std.specs.List.{list_any}
use Rattle.ped_base.specs.Dimensions.{Dimensions}
use Rattle.ped_base.specs.Lists.{is_among}
use Rattle.ped_tree.specs.Tree.{StmtTrees, Do, ProgramTree}
use Rattle.ped_tree.specs.Nests.{Loop}
use Rattle.ped_tree.specs.Numbering.{statements_count}
use Rattle.ped_weaves.specs.ped_store.specs.Stores.{Store}
use Rattle.ped_weaves.specs.ped_store.specs.Acts.{Turn, Act}
use Rattle.ped_weaves.specs.ped_laws.specs.Acts.Fitting.{store_after}
use Rattle.ped_weaves.specs.ped_eval.specs.Scopes.{Setting, Scope, turns_of}
use Rattle.ped_tree.specs.NamesIn.{all_loop_variables}
use Rattle.ped_weaves.specs.ped_eval.specs.Runs.{run, run_all}
use Rattle.ped_weaves.specs.ped_eval.specs.Outcomes.{Ends}
use Rattle.ped_weaves.specs.ped_flow.specs.PlainBounds.{nest_round, outermost_or}
use Rattle.ped_weaves.specs.ped_flow.specs.Questions.{LoopOf}
use Rattle.ped_weaves.specs.ped_laws.specs.FlowRuns.Exits.{AreIterationsOf}

-- iterations of the loops of a nest, one of each, the outermost first (ANSI X3.9-1978, section 11.10)
abbrev pub AreTurnsOf : (ℕ → ℕ) → List Loop → List Turn → Type 0
AreTurnsOf number [] [] = Unit {0}
AreTurnsOf number [] (t ∷ ts) = ⊥
AreTurnsOf number (l ∷ ls) [] = ⊥
AreTurnsOf number (l ∷ ls) (t ∷ ts) = (t.statement ≡ number l.number) × (t.parallel ≡ l.head.parallel) × AreTurnsOf number ls ts

-- a place at which a run may reach the statement with a number: in iterations of the DO loops around it (ANSI X3.9-1978, section 11.10; this project)
pub record IsPlaceOf (p : Setting) (t : ProgramTree) (l : ℕ) (scope : Scope) : Type 0 where
  pub iterations : AreIterationsOf p t scope
  pub turns : AreTurnsOf p.number (nest_round t l) (turns_of scope)

-- acts are consecutive among others, which are done from the first store, and are themselves done from the second: the acts before them have left it (this project)
pub record IsPartOf (whole : List Act) (start : Store) (acts : List Act) (u : Store) : Type 0 where
  pub front : List Act
  pub behind : List Act
  pub is : whole ≡ front ++ (acts ++ behind)
  pub from : u ≡ store_after front start

-- acts are done in the execution, in a run of a program that begins with a store, of the outermost DO around the statement with number l; it ends without a fault (ANSI X3.9-1978, section 11.10; this project)
pub record IsInExecution (p : Setting) (t : ProgramTree) (start : Store) (l : ℕ) (acts : List Act) (u : Store) : Type 0 where
  pub loop : LoopOf t (outermost_or l (nest_round t l))
  pub from : outermost_or l (nest_round t l) ≤ l
  pub to : l ≤ outermost_or l (nest_round t l) + statements_count loop.body
  pub first : Store
  pub execution : IsPartOf (run_all p t.body 1 [] start).acts start (run p (Do loop.head loop.body) (outermost_or l (nest_round t l)) [] first).acts first
  pub ends : Ends (run p (Do loop.head loop.body) (outermost_or l (nest_round t l)) [] first).ending
  pub part : IsPartOf (run p (Do loop.head loop.body) (outermost_or l (nest_round t l)) [] first).acts first acts u

-- the same where a DO is around the place (this project)
abbrev pub IsInOutermost : Setting → ProgramTree → Store → ℕ → Scope → List Act → Store → Type 0
IsInOutermost p t start l [] acts u = Unit {0}
IsInOutermost p t start l (f ∷ fs) acts u = IsInExecution p t start l acts u

-- in a run of a program, which begins with a store, these acts are done at a place of the statement with number l, and from this store (this project)
pub record IsDone (p : Setting) (t : ProgramTree) (start : Store) (l : ℕ) (scope : Scope) (acts : List Act) (u : Store) : Type 0 where
  pub part : IsPartOf (run_all p t.body 1 [] start).acts start acts u
  pub outer : IsInOutermost p t start l scope acts u

-- the arrays among these names have the same bounds (ANSI X3.9-1978, section 5.1; this project)
abbrev pub AgreeInBounds : (bounds others : List ℕ → Dimensions) → List (List ℕ) → Type 0
AgreeInBounds bounds others names = (x : List ℕ) → is_among x names ≡ true → bounds x ≡ others x

-- a PARALLEL DO is around the statement with this number (ParaScope)
abbrev pub is_in_parallel : ProgramTree → ℕ → Bool
is_in_parallel t l = list_any (λ loop. loop.head.parallel) (nest_round t l)

-- the DO loops in some statements and in others have the same variables, in any order and number (ANSI X3.9-1978, section 11.10; this project)
abbrev pub HaveSameIndices : StmtTrees → StmtTrees → Type 0
HaveSameIndices old new = (x : List ℕ) → is_among x (all_loop_variables new) ≡ is_among x (all_loop_variables old)
