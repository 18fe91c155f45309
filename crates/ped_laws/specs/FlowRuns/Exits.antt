-- What a run does after an exit of a DO, and the paths from that exit (Allen and Kennedy, section 4.4; this project).
use Rattle.std.specs.Prelude.{◌≡◌, ℕ, List, [], ◌∷◌, ◌++◌, Bool, true, false, ◌&&◌, ◌==◌, if◌then◌else◌}
use Rattle.ped_flow.specs.ped_tree.specs.Tree.{ProgramTree}
use Rattle.ped_eval.specs.ped_store.specs.Cells.{Cell}
use Rattle.ped_eval.specs.ped_store.specs.Acts.{Touch, Step, did, entered, ended_turn, closed, faulted, Act}
use Rattle.ped_laws.specs.Acts.Sets.{written_by, needed_by}
use Rattle.ped_eval.specs.ped_store.specs.Stores.{Store}
use Rattle.ped_eval.specs.Scopes.{Setting, Frame, Scope, place_of}
use Rattle.ped_eval.specs.Loops.{inner_variables}
use Rattle.ped_eval.specs.Runs.{run_all}
use Rattle.ped_eval.specs.Outcomes.{Ends}
use Rattle.ped_flow.specs.Events.{Event, overwrites}
use Rattle.ped_flow.specs.Questions.{LoopOf}
use Rattle.ped_laws.specs.FlowRuns.Covering.{IsReadOn}

-- the step leaves a DO: its entry with a count of 0, the end of its last iteration, or the close of a PARALLEL DO (ANSI X3.9-1978, sections 11.10.3, 11.10.4; ParaScope)
abbrev pub is_exit : Step → Bool
is_exit did = false
is_exit (entered count) = count == 0
is_exit (ended_turn left) = left == 0
is_exit closed = true
is_exit faulted = false

-- the act leaves the DO that counts under this number (ANSI X3.9-1978, section 11.10.4)
abbrev pub leaves : ℕ → Act → Bool
leaves number a = (a.place.statement == number) && is_exit a.step

-- numbers under which statements count, one for each (this project)
abbrev pub IsOneToOne : (ℕ → ℕ) → Type 0
IsOneToOne f = (m n : ℕ) → f m ≡ f n → m ≡ n

-- an iteration of a DO of the program: it has the DO's variable, and copies of its PRIVATE names, and in a PARALLEL DO of the variables of that DO and of the DO loops in it (ParaScope; this project)
pub record IsIterationOf (p : Setting) (t : ProgramTree) (f : Frame) : Type 0 where
  pub number : ℕ
  pub loop : LoopOf t number
  pub turn : f.turn.statement ≡ p.number number
  pub variable : f.variable ≡ loop.head.variable
  pub private : f.private ≡ (if loop.head.parallel then loop.head.variable ∷ (loop.head.private ++ inner_variables loop.head.parallel loop.body) else loop.head.private)

-- iterations of DO loops of the program (this project)
abbrev pub AreIterationsOf : Setting → ProgramTree → Scope → Type 0
AreIterationsOf p t [] = Unit {0}
AreIterationsOf p t (f ∷ fs) = IsIterationOf p t f × AreIterationsOf p t fs

-- a path from an exit follows touches, as to a scalar and a cell of it: where they read the cell before they write it, the path reads the scalar before it overwrites it; and where the cell is the scalar's own and the path overwrites the scalar, they write it. A copy that belongs to an iteration may stay as it is where the path begins another one (Allen and Kennedy, section 4.4; this project)
pub record Follows (x : List ℕ) (own c : Cell) (path : List Event) (ts : List Touch) : Type 0 where
  pub read : needed_by ts c ≡ true → IsReadOn x path
  pub written : c ≡ own → overwrites x path ≡ true → written_by ts c ≡ true

-- in a run of a program, which ends without a fault, this DO is left in these iterations, and these acts come after that (ANSI X3.9-1978, section 11.10.4; this project)
pub record IsExit (p : Setting) (t : ProgramTree) (s : Store) (l : ℕ) (scope : Scope) (behind : List Act) : Type 0 where
  pub ends : Ends (run_all p t.body 1 [] s).ending
  pub front : List Act
  pub act : Act
  pub whole : (run_all p t.body 1 [] s).acts ≡ front ++ act ∷ behind
  pub leaves : leaves (p.number l) act ≡ true
  pub iterations : AreIterationsOf p t scope
  pub place : act.place ≡ place_of p l scope
