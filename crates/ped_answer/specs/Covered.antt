-- What the panes of dependences and of calls cover of the run in order of their program, on whatever data: conflicts, but for those of accesses that a DO makes itself, and races; and that what is proven occurs (Allen and Kennedy, section 2.2.1; ParaScope; this project).
use Rattle.std.specs.Prelude.{◌≡◌, ◌⊎◌, ℕ, ◌<◌, List, ◌++◌, Bool, true, false, ◌||◌}
use Rattle.ped_base.specs.Lists.{is_among}
use Rattle.ped_tree.specs.Tree.{ProgramTree}
use Rattle.ped_tree.specs.NamesIn.{all_loop_variables}
use Rattle.ped_tree.specs.SourcePane.{source_pane}
use Rattle.ped_session.specs.ped_rules.specs.ped_views.specs.declared.directions.Direction.{Direction}
use Rattle.ped_session.specs.ped_refs.specs.References.{Reference, references, outermost}
use Rattle.ped_session.specs.ped_rules.specs.ped_edges.specs.Edges.{Edge, proven}
use Rattle.ped_session.specs.ped_rules.specs.ped_edges.specs.Rows.{edges_pane}
use Rattle.ped_session.specs.ped_graph.specs.Dependences.{AreEdges, place_of}
use Rattle.ped_session.specs.ped_graph.specs.DependencePane.{extent_of, is_in, edges_of}
use Rattle.ped_session.specs.ped_flow.specs.Questions.{LoopOf}
use Rattle.ped_session.specs.ped_rules.specs.ped_store.specs.Cells.{Cell, Scalar, Element, Private, In, Out}
use Rattle.ped_session.specs.ped_rules.specs.ped_store.specs.Acts.{Turn}
use Rattle.ped_session.specs.ped_rules.specs.ped_store.specs.Stores.{Store}
use Rattle.ped_session.specs.ped_rules.specs.ped_store.specs.Races.{Access, conflict, race}
use Rattle.ped_session.specs.ped_rules.specs.ped_eval.specs.Runs.{going}
use Rattle.ped_session.specs.ped_rules.specs.ped_eval.specs.Outcomes.{run_of}
use Rattle.ped_session.specs.ped_laws.specs.Acts.Orders.{IsIn}
use Rattle.ped_session.specs.ped_laws.specs.Conflicts.Directions.{share_a_loop}
use Rattle.ped_session.specs.ped_laws.specs.Conflicts.Covered.{ComeInRun, IsCovered, IsCarriedInParallel}
use Rattle.ped_rows.specs.Occurring.{IsUncopied, IsLeft, Occurs}
use Rattle.ped_session.specs.ped_transformations.specs.ped_inline.specs.CallsPane.{calls, calls_pane}
use Rattle.ped_session.specs.ped_transformations.specs.ped_inline.specs.CoveredCalls.{is_in_block, AreInOneCall, IsCoveredFolded}
use Rattle.ped_session.specs.ped_transformations.specs.ped_inline.specs.Folding.{blocks, Row, row_of, AreRows}

-- the cell is that of the scalar with this name: its own, or the copy that belongs to an iteration (ParaScope; this project)
abbrev pub IsCellOf : List ℕ → Cell → Type 0
IsCellOf x (Scalar y) = y ≡ x
IsCellOf x (Private y iterations) = y ≡ x
IsCellOf x (Element y subscripts) = ⊥
IsCellOf x In = ⊥
IsCellOf x Out = ⊥

-- a DO makes an access itself, and no reference does: its variable is read in its body, where the iteration gives the value; or it stores its variable when it is left, and a PARALLEL DO those of the DO loops in it, which become undefined (ANSI X3.9-1978, section 11.10; ParaScope; this project)
pub data IsByLoop (t : ProgramTree) (a : Access) : Type 0 where
  in_body : (turn : Turn) → IsIn turn a.place.turns → (loop : LoopOf t turn.statement) → IsCellOf loop.head.variable a.cell → a.writes ≡ false → a.reference ≡ 0 → IsByLoop t a
  when_left : (loop : LoopOf t a.place.statement) → (x : List ℕ) → (x ≡ loop.head.variable) ⊎ ((loop.head.parallel ≡ true) × (is_among x (all_loop_variables loop.body) ≡ true)) → IsCellOf x a.cell → a.writes ≡ true → a.reference ≡ 0 → IsByLoop t a

-- this is so of two accesses, or a DO makes one of both itself (this project)
abbrev pub IsSoOrByLoop : Type 0 → ProgramTree → Access → Access → Type 0
IsSoOrByLoop So t a b = So ⊎ IsByLoop t a ⊎ IsByLoop t b

-- in the run in order of a program on these data one access comes before another, and they conflict in one execution of a DO around both, whatever makes them (Allen and Kennedy, section 2.2.1)
pub record MeetInRun (t : ProgramTree) (data_bytes : List ℕ) (a b : Access) : Type 0 where
  pub come : ComeInRun t data_bytes a b
  pub conflicts : conflict a b ≡ true
  pub share : share_a_loop a.place.turns b.place.turns ≡ true

-- the same, where both are made by references, so that no DO makes one of them itself (Allen and Kennedy, section 2.2.1)
pub record ConflictInRun (t : ProgramTree) (data_bytes : List ℕ) (a b : Access) : Type 0 where
  pub come : ComeInRun t data_bytes a b
  pub conflicts : conflict a b ≡ true
  pub first : 0 < a.reference
  pub second : 0 < b.reference
  pub share : share_a_loop a.place.turns b.place.turns ≡ true

-- in the run in order of a program on these data one access comes before another, and they race (Allen and Kennedy, section 2.2.5)
pub record RaceInRun (t : ProgramTree) (data_bytes : List ℕ) (a b : Access) : Type 0 where
  pub come : ComeInRun t data_bytes a b
  pub races : race a b ≡ true

-- in the run on whatever data a dependence occurs, in each of its directions: where the run has left the outermost DO around its references, and so where it ends by END; but for a variable of which the iterations of a PARALLEL DO have copies (Allen and Kennedy, section 2.2.1; ParaScope; this project)
pub record OccursOnceLeft (t : ProgramTree) (e : Edge) : Type 0 where
  pub left : (data_bytes : List ℕ) (vector : List Direction) → IsIn vector e.vectors → IsUncopied t e → ((r : Reference) → IsIn r (references t) → place_of r ≡ e.source → IsLeft t data_bytes (outermost r)) → Occurs t data_bytes e vector
  pub ended : (data_bytes : List ℕ) (vector : List Direction) (s : Store) → IsIn vector e.vectors → IsUncopied t e → (run_of t data_bytes).ending ≡ going s → Occurs t data_bytes e vector

-- whatever the data are, these dependences cover each conflict of the run in order that references make; where they don't cover one, a DO makes one of both accesses itself; for each race a PARALLEL DO carries one; and those that are proven occur (Allen and Kennedy, sections 2.2.1, 2.2.5)
pub record CoverRuns (t : ProgramTree) (edges : List Edge) : Type 0 where
  pub conflicts : (data_bytes : List ℕ) (a b : Access) → ConflictInRun t data_bytes a b → IsCovered t edges a b
  pub all : (data_bytes : List ℕ) (a b : Access) → MeetInRun t data_bytes a b → IsSoOrByLoop (IsCovered t edges a b) t a b
  pub races : (data_bytes : List ℕ) (a b : Access) → RaceInRun t data_bytes a b → IsCarriedInParallel t edges a.place.statement b.place.statement
  pub occur : (e : Edge) → IsIn e edges → e.mark ≡ proven → OccursOnceLeft t e

-- the pane of dependences has a row for each dependence of the program, and these cover its run in order (ParaScope)
abbrev pub IsCoveringPane : ProgramTree → List ℕ → Type 0
IsCoveringPane t pane = (edges : List Edge) × AreEdges t edges × (pane ≡ edges_pane edges) × CoverRuns t edges

-- both panes of a program, of which that of dependences covers its run in order (ParaScope)
abbrev pub AreCoveringPanes : ProgramTree → List ℕ → Type 0
AreCoveringPanes t bytes = (pane : List ℕ) × IsCoveringPane t pane × (bytes ≡ source_pane t ++ pane)

-- one of the accesses is made in the statement with this number, or in one that is in it (this project)
abbrev pub touches : ProgramTree → ℕ → Access → Access → Bool
touches t number a b = is_in number (extent_of t number) a.place.statement || is_in number (extent_of t number) b.place.statement

-- whatever the data are, these dependences cover what a statement takes part in, and those that are proven occur (Allen and Kennedy, sections 2.2.1, 2.2.5; this project)
pub record CoverRunsAt (t : ProgramTree) (number : ℕ) (edges : List Edge) : Type 0 where
  pub conflicts : (data_bytes : List ℕ) (a b : Access) → ConflictInRun t data_bytes a b → touches t number a b ≡ true → IsCovered t edges a b
  pub all : (data_bytes : List ℕ) (a b : Access) → MeetInRun t data_bytes a b → touches t number a b ≡ true → IsSoOrByLoop (IsCovered t edges a b) t a b
  pub races : (data_bytes : List ℕ) (a b : Access) → RaceInRun t data_bytes a b → touches t number a b ≡ true → IsCarriedInParallel t edges a.place.statement b.place.statement
  pub occur : (e : Edge) → IsIn e edges → e.mark ≡ proven → OccursOnceLeft t e

-- the rows of a statement are those of its dependences, and these cover what it takes part in (ParaScope)
abbrev pub IsCoveringPaneOf : ℕ → ProgramTree → List ℕ → Type 0
IsCoveringPaneOf number t pane = (edges : List Edge) × AreEdges t edges × (pane ≡ edges_pane (edges_of t number edges)) × CoverRunsAt t number (edges_of t number edges)

-- a row covers two accesses: it goes from the block or statement of the earlier one to that of the later one, and has the level of the loop in whose iterations they first differ (Allen and Kennedy, sections 2.2.1, 2.2.5; ParaScope)
abbrev pub HasRow : ProgramTree → List Edge → List Row → Access → Access → Type 0
HasRow t edges rows a b = (c : IsCoveredFolded t edges a b) × IsIn (row_of (blocks t) c.covered.edge) rows

-- whatever the data are, there is a row for each conflict of the run in order that references make and of which an access is made in a marked block, but not both in one execution of one block; where there is none, a DO makes one of both accesses itself (Allen and Kennedy, sections 2.2.1, 2.2.5; ParaScope)
pub record CoverCalls (t : ProgramTree) (edges : List Edge) (rows : List Row) : Type 0 where
  pub conflicts : (data_bytes : List ℕ) (a b : Access) → ConflictInRun t data_bytes a b → (is_in_block t a || is_in_block t b) ≡ true → (¬ AreInOneCall t a b) → HasRow t edges rows a b
  pub all : (data_bytes : List ℕ) (a b : Access) → MeetInRun t data_bytes a b → (is_in_block t a || is_in_block t b) ≡ true → (¬ AreInOneCall t a b) → IsSoOrByLoop (HasRow t edges rows a b) t a b

-- the pane of calls has a row for each folded dependence, and these cover each conflict in the run in order of what is done in a marked block with what is done outside of this execution of it, in one execution of a DO around both, but for what a DO does itself (ParaScope)
abbrev pub IsCoveringCalls : ProgramTree → List ℕ → Type 0
IsCoveringCalls t pane = (edges : List Edge) × AreEdges t edges × (rows : List Row) × AreRows (blocks t) edges rows × (pane ≡ calls_pane (calls t) rows) × CoverCalls t edges rows
