-- The units that `distribute` takes the body of a DO apart into, and the arrows between them (Allen and Kennedy, sections 2.4, 6.2.2; ParaScope).
use Rattle.std.specs.Prelude.{◌≡◌, ℕ, suc, ◌+◌, ◌-◌, ◌==◌, nat_le, nat_lt, List, [], ◌∷◌, ◌++◌, map, length, replicate, slice_get, Bool, true, false, not, ◌&&◌, ◌||◌, ◌↔◌, Option, Some, None, if◌then◌else◌}
use Rattle.std.specs.List.{list_any, range_with_len}
use Rattle.ped_base.specs.Lists.{is_same_text}
use Rattle.ped_bits.specs.Reaching.{Arrow, Reaches, IsSquare}
use Rattle.ped_tree.specs.Tree.{Head, StmtTree, StmtTrees, no_stmts, more_stmts, ProgramTree}
use Rattle.ped_tree.specs.Numbering.{statement_count, statements_count}
use Rattle.ped_rules.specs.Carried.{level_at}
use Rattle.ped_edges.specs.Edges.{Edge, is_rejected}
use Rattle.ped_refs.specs.References.{references}
use Rattle.ped_rules.specs.ped_steps.specs.Replacing.{alone}

-- a comment in front of the first unit, where there is one
abbrev pub before_first : StmtTree → List StmtTrees → List StmtTrees
before_first comment [] = []
before_first comment (u ∷ us) = more_stmts comment u ∷ us

-- the units of a body, in text order: each statement with the comments before it, the last one also with those after it (ParaScope; this project)
abbrev pub units : StmtTrees → List StmtTrees
units no_stmts = []
units (more_stmts s rest) =
    if statement_count s == 0 then before_first s (units rest)
    else if statements_count rest == 0 then more_stmts s rest ∷ []
    else alone s ∷ units rest

-- for each numbered statement of units, in text order, the number of its unit; the first unit has this number
abbrev pub homes : ℕ → List StmtTrees → List ℕ
homes i [] = []
homes i (u ∷ us) = replicate (statements_count u) i ++ homes (suc i) us

-- the unit of the statement with number k in the body of the DO with number s; none where it isn't there
abbrev pub unit_of : (s : ℕ) → StmtTrees → (k : ℕ) → Option ℕ
unit_of s body k = if nat_lt s k then slice_get (homes 0 (units body)) (k - (s + 1)) else None

-- this unit, where there is one
abbrev pub is_unit : ℕ → Option ℕ → Bool
is_unit i None = false
is_unit i (Some j) = j == i

-- the statement with number k is in unit i of the body of the DO with number s
abbrev pub stands_in : (s : ℕ) → StmtTrees → (i k : ℕ) → Bool
stands_in s body i k = is_unit i (unit_of s body k)

-- independent of loops, or carried at this level or deeper (Allen and Kennedy, section 2.2.5)
abbrev pub is_within : ℕ → Option ℕ → Bool
is_within level None = true
is_within level (Some k) = nat_le level k

-- the dependence has to be kept in each iteration of the loops around the DO: the DO or one in it carries it, or none does; and the user hasn't rejected it (Allen and Kennedy, sections 2.4, 6.2.2; ParaScope)
abbrev pub is_to_keep : ProgramTree → (s : ℕ) → Edge → Bool
is_to_keep t s e = is_within (level_at t s) e.level && not (is_rejected e.mark)

-- a reference in unit i names this variable
abbrev pub refers : ProgramTree → (s : ℕ) → StmtTrees → List ℕ → (i : ℕ) → Bool
refers t s body x i = list_any (λ r. is_same_text x r.access.name && stands_in s body i r.statement) (references t)

-- an arrow leads from unit i to unit j: a dependence does that has to be kept, or both refer to one PRIVATE name of the DO, whose copies a DO of its own would part (Allen and Kennedy, sections 2.4, 6.2.2; this project)
abbrev pub is_arrow : ProgramTree → (s : ℕ) → Head → StmtTrees → List Edge → (i j : ℕ) → Bool
is_arrow t s h body edges i j =
    list_any (λ e. is_to_keep t s e && (stands_in s body i e.source.0 && stands_in s body j e.sink.0)) edges
    || list_any (λ x. refers t s body x i && refers t s body x j) h.private

-- the arrows between units, a row for each unit
abbrev pub arrows : ProgramTree → (s : ℕ) → Head → StmtTrees → List Edge → List (List Bool)
arrows t s h body edges =
    let all = range_with_len 0 (length (units body)) in
    map (λ i. map (is_arrow t s h body edges i) all) all

-- the second rows say where the arrows of the first lead, one after another (plain words)
pub record IsClosure (rows reach : List (List Bool)) : Type 0 where
  pub width : length reach ≡ length rows
  pub square : IsSquare reach
  pub reaches : (i j : ℕ) → Arrow reach i j ↔ Reaches rows i j
