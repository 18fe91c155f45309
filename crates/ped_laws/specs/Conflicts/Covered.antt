-- Conflicts of a run that dependences cover (Allen and Kennedy, section 2.2.1; this project).
use Rattle.std.specs.Prelude.{◌≡◌, ℕ, ◌+◌, List, length, ◌++◌, ◌∷◌, true, Some}
use Rattle.ped_graph.specs.ped_views.specs.declared.directions.Direction.{Direction}
use Rattle.ped_flow.specs.ped_tree.specs.Tree.{ProgramTree}
use Rattle.ped_flow.specs.ped_tree.specs.Nests.{Loop}
use Rattle.ped_graph.specs.ped_refs.specs.References.{Reference, references}
use Rattle.ped_eval.specs.ped_store.specs.Races.{Access, accesses}
use Rattle.ped_laws.specs.Acts.Orders.{IsIn}
use Rattle.ped_graph.specs.ped_edges.specs.Edges.{Edge}
use Rattle.ped_eval.specs.Outcomes.{run_of}
use Rattle.ped_laws.specs.Conflicts.Directions.{StandInDirections}

-- one access comes before another among the accesses of a run (plain words)
pub record ComeInRun (t : ProgramTree) (data_bytes : List ℕ) (a b : Access) : Type 0 where
  pub before : List Access
  pub between : List Access
  pub behind : List Access
  pub is : accesses (run_of t data_bytes).acts ≡ before ++ a ∷ (between ++ b ∷ behind)

-- among the dependences there is one from the reference of the first access to that of the second, and one of its vectors holds the directions in which the two are in the loops around both (Allen and Kennedy, sections 2.2.1, 2.2.4)
pub record IsCovered (t : ProgramTree) (edges : List Edge) (a b : Access) : Type 0 where
  pub edge : Edge
  pub listed : IsIn edge edges
  pub source : edge.source ≡ (a.place.statement, a.reference)
  pub sink : edge.sink ≡ (b.place.statement, b.reference)
  pub vector : List Direction
  pub contains : IsIn vector edge.vectors
  pub stands : StandInDirections t a.place.turns b.place.turns vector

-- the loop at this level of a nest is a PARALLEL DO; level 1 is the outermost (ParaScope)
abbrev pub IsParallelAt : List Loop → ℕ → Type 0
IsParallelAt nest level = (front : List Loop) × (l : Loop) × (inner : List Loop) × (nest ≡ front ++ l ∷ inner) × (length front + 1 ≡ level) × (l.head.parallel ≡ true)

-- among the dependences there is one from a reference of the first statement to one of the second, carried by a PARALLEL DO (Allen and Kennedy, section 2.2.5; ParaScope)
pub record IsCarriedInParallel (t : ProgramTree) (edges : List Edge) (first second : ℕ) : Type 0 where
  pub edge : Edge
  pub listed : IsIn edge edges
  pub reference : Reference
  pub of_program : IsIn reference (references t)
  pub source : edge.source ≡ (reference.statement, reference.number)
  pub first_statement : edge.source.0 ≡ first
  pub second_statement : edge.sink.0 ≡ second
  pub level : ℕ
  pub carried : edge.level ≡ Some level
  pub parallel : IsParallelAt reference.nest level
