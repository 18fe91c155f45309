-- Dependences that occur in a run (Allen and Kennedy, section 2.2.1; this project).
use Rattle.std.specs.Prelude.{◌≡◌, ℕ, List, [], true, ◌||◌, ◌⊎◌}
use Rattle.ped_laws.specs.ped_graph.specs.ped_views.specs.declared.directions.Direction.{Direction}
use Rattle.ped_laws.specs.ped_flow.specs.ped_tree.specs.Tree.{ProgramTree}
use Rattle.ped_laws.specs.ped_flow.specs.Questions.{LoopOf, IsIndexIn}
use Rattle.ped_laws.specs.ped_graph.specs.ped_edges.specs.Edges.{Edge}
use Rattle.ped_laws.specs.ped_graph.specs.DependencePane.{extent_of, is_in_body}
use Rattle.ped_laws.specs.ped_eval.specs.ped_store.specs.Acts.{ended_turn, closed, Act}
use Rattle.ped_laws.specs.ped_eval.specs.ped_store.specs.Races.{Access, conflict}
use Rattle.ped_laws.specs.ped_eval.specs.Outcomes.{run_of}
use Rattle.ped_laws.specs.Acts.Orders.{IsIn}
use Rattle.ped_laws.specs.Conflicts.Directions.{StandInDirections, share_a_loop}
use Rattle.ped_laws.specs.Conflicts.Covered.{ComeInRun}

-- the name isn't the variable of a PARALLEL DO around one of these two statements, nor of a DO in such a PARALLEL DO: each iteration has its own copies of these variables (ParaScope; this project)
abbrev pub IsUncopiedAt : ProgramTree → List ℕ → (n m : ℕ) → Type 0
IsUncopiedAt t x n m = (l : ℕ) (loop : LoopOf t l) → loop.head.parallel ≡ true → is_in_body l (extent_of t l) n || is_in_body l (extent_of t l) m ≡ true → IsIndexIn t l x → ⊥

-- no iteration of a PARALLEL DO around a reference of the dependence has its own copy of the dependence's variable, unless a PRIVATE list names it (ParaScope; this project)
abbrev pub IsUncopied : ProgramTree → Edge → Type 0
IsUncopied t e = IsUncopiedAt t e.name e.source.0 e.sink.0

-- the run has left the DO with this number, which is in no other DO, by the end of its last iteration or by its close (ANSI X3.9-1978, section 11.10; this project)
abbrev pub IsLeft : ProgramTree → List ℕ → ℕ → Type 0
IsLeft t data_bytes l = (a : Act) × IsIn a (run_of t data_bytes).acts × (a.place ≡ record { statement = l; turns = [] }) × ((a.step ≡ ended_turn 0) ⊎ (a.step ≡ closed))

-- the dependence occurs in the run: accesses by its two references conflict in one execution of the outermost loop around both, the source's comes first, and they are in these directions (Allen and Kennedy, sections 2.2.1, 2.2.4)
pub record Occurs (t : ProgramTree) (data_bytes : List ℕ) (e : Edge) (vector : List Direction) : Type 0 where
  pub a : Access
  pub b : Access
  pub come : ComeInRun t data_bytes a b
  pub conflicts : conflict a b ≡ true
  pub source : e.source ≡ (a.place.statement, a.reference)
  pub sink : e.sink ≡ (b.place.statement, b.reference)
  pub together : share_a_loop a.place.turns b.place.turns ≡ true
  pub stands : StandInDirections t a.place.turns b.place.turns vector
