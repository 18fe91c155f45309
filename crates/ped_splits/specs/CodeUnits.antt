-- How the code keeps units and what is known of the DO that is taken apart. Only contracts of private functions and lemmas use it (this project).
use Rattle.std.specs.Prelude.{◌≡◌, ◌<◌, ◌^◌, ℕ, ◌+◌, ◌-◌, nat_lt, List, map, length, slice_get, slice_index_or, Bool, false, not, ◌&&◌, All, Option, Some, None, if◌then◌else◌}
use Rattle.std.specs.List.{list_any, count_by}
use Rattle.ped_base.specs.Lists.{is_same_text}
use Rattle.ped_tree.specs.Tree.{StmtTrees, ProgramTree}
use Rattle.ped_tree.specs.Numbering.{statements_count}
use Rattle.ped_tree.specs.Views.{stmt_trees, head_of}
use Rattle.ped_rules.specs.ped_flow.specs.Questions.{IsLoop}
use Rattle.ped_edges.specs.Edges.{Edge, is_rejected}
use Rattle.ped_refs.specs.References.{Reference}
use Rattle.ped_splits.specs.declared.units.Unit.{Unit}
use Rattle.ped_splits.specs.declared.units.Parted.{Parted}
use Rattle.ped_splits.specs.Units.{units, homes, is_unit, is_within}
use Rattle.ped_splits.specs.PiBlocks.{reaches}

-- the statements of a unit
abbrev pub unit_tree : Unit → StmtTrees
unit_tree u = stmt_trees u.statements.now

-- the units that the code has found
abbrev pub unit_trees : List Unit → List StmtTrees
unit_trees us = map unit_tree us

-- a word holds the number of statements of each of these units
abbrev pub AreShort : List StmtTrees → Type 0
AreShort us = All (λ u. statements_count u < 2 ^ 32) us

-- these are numbers of this many units
abbrev pub AreBelow : ℕ → List ℕ → Type 0
AreBelow n is = All (λ i. i < n) is

-- the body of the DO that is taken apart
abbrev pub body_of : Parted → StmtTrees
body_of p = stmt_trees p.statement.now.body.items

-- the unit of the statement with number k, by the units of the statements after the one with number s
abbrev pub home_of : (s : ℕ) → List ℕ → (k : ℕ) → Option ℕ
home_of s found k = if nat_lt s k then slice_get found (k - (s + 1)) else None

-- this DO of a program is taken apart into these units
pub record IsParted (t : ProgramTree) (p : Parted) : Type 0 where
  pub is : IsLoop t p.number (head_of p.statement.now) (body_of p)
  pub parts : unit_trees p.units.now ≡ units (body_of p)
  pub places : p.homes.now ≡ homes 0 (units (body_of p))

-- the dependence has to be kept in a DO of this level, and leads from unit i to unit j
abbrev pub leads_between : (level s : ℕ) → List ℕ → (i j : ℕ) → Edge → Bool
leads_between level s found i j e = (is_within level e.level && not (is_rejected e.mark)) && (is_unit i (home_of s found e.source.0) && is_unit j (home_of s found e.sink.0))

-- one of these references in unit i names this variable
abbrev pub refers_by : (s : ℕ) → List ℕ → List Reference → List ℕ → (i : ℕ) → Bool
refers_by s found refs x i = list_any (λ r. is_same_text x r.access.name && is_unit i (home_of s found r.statement)) refs

-- the first unit leads to the second, and not the second to the first
abbrev pub leads : List (List Bool) → (k i : ℕ) → Bool
leads reach k i = reaches reach k i && not (reaches reach i k)

-- how many of these units lead to this one and not it to them
abbrev pub leaders : List (List Bool) → List ℕ → ℕ → ℕ
leaders reach left i = count_by (λ k. leads reach k i) left
