-- Dependences that a loop carries, and accesses in its trips (Allen and Kennedy, section 2.2.5).
use Rattle.std.specs.Prelude.{◌≡◌, ◌<◌, ℕ, ◌+◌, List, [], ◌∷◌, ◌++◌, map, length, nat_lt, nat_le, Bool, true, false, ◌==◌, ◌&&◌, Option, Some, None}
use Rattle.ped_bodies.specs.ped_views.specs.declared.directions.Direction.{Direction}
use Rattle.ped_bodies.specs.ped_views.specs.declared.directions.Direction.TheVariants.{Before, Same}
use Rattle.ped_bodies.specs.ped_flow.specs.ped_tree.specs.Tree.{StmtTrees, ProgramTree}
use Rattle.ped_bodies.specs.ped_flow.specs.ped_tree.specs.Numbering.{statements_count}
use Rattle.ped_bodies.specs.ped_flow.specs.PlainBounds.{nest_round}
use Rattle.ped_bodies.specs.ped_refs.specs.References.{Reference, references}
use Rattle.ped_bodies.specs.ped_refs.specs.TextPlaces.{place_of}
use Rattle.ped_bodies.specs.ped_edges.specs.Edges.{Edge}
use Rattle.ped_bodies.specs.ped_store.specs.Cells.{Cell}
use Rattle.ped_bodies.specs.ped_store.specs.Stores.{Store}
use Rattle.ped_bodies.specs.ped_store.specs.Acts.{Turn, Act}
use Rattle.ped_bodies.specs.ped_store.specs.Races.{Access, conflict}
use Rattle.ped_bodies.specs.ped_eval.specs.Scopes.{Scope}
use Rattle.ped_bodies.specs.ped_eval.specs.Outcomes.{run_of}
use Rattle.ped_bodies.specs.ped_laws.specs.Acts.Orders.{IsIn}
use Rattle.ped_bodies.specs.ped_laws.specs.Runs.Touching.{StoresWithin}
use Rattle.ped_bodies.specs.ped_laws.specs.Conflicts.Directions.{StandInDirections, share_a_loop}
use Rattle.ped_bodies.specs.ped_laws.specs.Conflicts.Making.{IsMade}
use Rattle.ped_bodies.specs.ped_laws.specs.Conflicts.Covered.{ComeInRun, IsCovered}

-- two references make accesses that conflict, in an execution of an outermost DO that begins with this store (Allen and Kennedy, section 2.2.1)
pub record MakeConflict (t : ProgramTree) (first : Store) (a b : Access) (source sink : Reference) : Type 0 where
  pub at_source : Scope
  pub at_sink : Scope
  pub before : Store
  pub behind : Store
  pub made : IsMade t first a source at_source before
  pub makes : IsMade t first b sink at_sink behind
  pub conflicts : conflict a b ≡ true

-- a dependence covers two accesses, and this loop carries it, by its level; None where no loop does (Allen and Kennedy, section 2.2.5)
abbrev pub IsCoveredAt : ProgramTree → List Edge → Option ℕ → Access → Access → Type 0
IsCoveredAt t edges level a b = (covered : IsCovered t edges a b) × (covered.edge.level ≡ level)

-- a dependence covers two accesses, and the loop inside these iterations carries it: one of its vectors has `=` for these, `<` for that loop, and then the directions in which the accesses are in the loops in it (Allen and Kennedy, section 2.2.5)
pub record IsCarriedInside (t : ProgramTree) (edges : List Edge) (outer is js : List Turn) (a b : Access) : Type 0 where
  pub covered : IsCovered t edges a b
  pub level : covered.edge.level ≡ Some (length outer + 1)
  pub rest : List Direction
  pub vector : covered.vector ≡ map (λ (i : Turn). Same) outer ++ Before ∷ rest
  pub inside : StandInDirections t is js rest

-- the statement with a number is in the body of the DO with number l (plain words)
abbrev pub is_in_body : (l : ℕ) → StmtTrees → ℕ → Bool
is_in_body l body n = nat_lt l n && nat_le n (l + statements_count body)

-- the level is this one (plain words)
abbrev pub is_level : ℕ → Option ℕ → Bool
is_level n None = false
is_level n (Some level) = level == n

-- a dependence between statements in the body of the DO with number l is carried by that DO (Allen and Kennedy, section 2.2.5)
abbrev pub is_carried_by : ProgramTree → (l : ℕ) → StmtTrees → Edge → Bool
is_carried_by t l body e = is_level (length (nest_round t l) + 1) e.level && (is_in_body l body e.source.0 && is_in_body l body e.sink.0)

-- two accesses are in two iterations of one execution of the DO with number l, the first in the earlier one (ANSI X3.9-1978, section 11.10)
pub record AreInTrips (l : ℕ) (outer : List Turn) (i j : Turn) (is js : List Turn) (a b : Access) : Type 0 where
  pub at_first : a.place.turns ≡ outer ++ i ∷ is
  pub at_second : b.place.turns ≡ outer ++ j ∷ js
  pub of_first : i.statement ≡ l
  pub of_second : j.statement ≡ l
  pub earlier : i.number < j.number

-- a dependence covers two accesses, and the DO with number l carries it, inside these iterations (Allen and Kennedy, section 2.2.5)
abbrev pub IsCarriedByLoop : ProgramTree → List Edge → (l : ℕ) → StmtTrees → (outer is js : List Turn) → Access → Access → Type 0
IsCarriedByLoop t edges l body outer is js a b = (c : IsCarriedInside t edges outer is js a b) × (is_carried_by t l body c.covered.edge ≡ true)

-- acts are all done in this iteration, or further inside (plain words)
abbrev pub StandIn : List Turn → Turn → List Act → Type 0
StandIn outer i acts = (a : Act) → IsIn a acts → (inner : List Turn) × (a.place.turns ≡ outer ++ i ∷ inner)

-- in a run of a program these acts are done in one iteration of the DO with number l, and those after them in a later iteration of the same execution (ANSI X3.9-1978, section 11.10)
pub record AreTrips (t : ProgramTree) (data_bytes : List ℕ) (l : ℕ) (earlier later : List Act) : Type 0 where
  pub front : List Act
  pub between : List Act
  pub behind : List Act
  pub is : (run_of t data_bytes).acts ≡ front ++ (earlier ++ (between ++ (later ++ behind)))
  pub outer : List Turn
  pub i : Turn
  pub j : Turn
  pub in_first : StandIn outer i earlier
  pub in_second : StandIn outer j later
  pub of_first : i.statement ≡ l
  pub of_second : j.statement ≡ l
  pub order : i.number < j.number

-- the own stores of these acts lie in the set (plain words)
abbrev pub AllStoreWithin : (Cell → Bool) → List Act → Type 0
AllStoreWithin d acts = (a : Act) → IsIn a acts → StoresWithin d a

-- no two accesses that conflict in the run on these data are covered by one of these dependences that the DO with number l carries: it carries none of them, or those that it carries don't occur there (Allen and Kennedy, sections 2.2.1, 2.2.5; this project)
abbrev pub NoneMeetOn : ProgramTree → List Edge → (data_bytes : List ℕ) → (l : ℕ) → StmtTrees → Type 0
NoneMeetOn t edges data_bytes l body =
    (a b : Access) → ComeInRun t data_bytes a b → conflict a b ≡ true → share_a_loop a.place.turns b.place.turns ≡ true → (c : IsCovered t edges a b) → is_carried_by t l body c.edge ≡ true → ⊥

-- none of these dependences that begins at a reference without subscripts is carried by the DO with number l (Allen and Kennedy, section 2.2.5)
abbrev pub NoneOfScalarsCarriedBy : ProgramTree → List Edge → (l : ℕ) → StmtTrees → Type 0
NoneOfScalarsCarriedBy t edges l body = (r : Reference) → IsIn r (references t) → r.access.subscripts ≡ [] → (e : Edge) → IsIn e edges → e.source ≡ place_of r → is_carried_by t l body e ≡ false
