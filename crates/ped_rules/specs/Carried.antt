-- Dependences that forbid a step, since the DO carries them (Allen and Kennedy, sections 2.2.5, 5.2; ParaScope).
use Rattle.std.specs.Prelude.{◌≡◌, ℕ, ◌+◌, List, length, slice_get, Bool, true, false, not, ◌&&◌, All, Option, Some, None}
use Rattle.std.specs.List.{list_any}
use Rattle.ped_tree.specs.Tree.{ProgramTree}
use Rattle.ped_views.specs.declared.directions.Direction.{Direction}
use Rattle.ped_views.specs.declared.directions.Direction.TheVariants.{Before, Same, After}
use Rattle.ped_loop_runs.specs.ped_flow.specs.PlainBounds.{nest_round}
use Rattle.ped_edges.specs.Edges.{Edge, is_rejected}
use Rattle.ped_edges.specs.CodeEdges.{edge_of, HasAtMostSixLoops}
use Rattle.ped_edges.specs.declared.edges.Edge.{Edge as CodeEdge}
use Rattle.ped_loop_runs.specs.ped_graph.specs.Dependences.{AreEdges}
use Rattle.ped_loop_runs.specs.ped_graph.specs.DependencePane.{is_level, is_in_body, extent_of}
use Rattle.ped_loop_runs.specs.ped_steps.specs.Causes.{IsFirstForbidding}

-- the level of the DO with this number: 1 where no other is around it (Allen and Kennedy, section 2.2.2)
abbrev pub level_at : ProgramTree → ℕ → ℕ
level_at t s = length (nest_round t s) + 1

-- the DO with this number carries the dependence, of which both ends are in its body (Allen and Kennedy, section 2.2.5)
abbrev pub is_carried_by : ProgramTree → ℕ → Edge → Bool
is_carried_by t s e = is_level (level_at t s) e.level && (is_in_body s (extent_of t s) e.source.0 && is_in_body s (extent_of t s) e.sink.0)

-- the DO carries the dependence, and the user hasn't rejected it (Allen and Kennedy, section 5.2; ParaScope)
abbrev pub carried : ProgramTree → ℕ → Edge → Bool
carried t s e = is_carried_by t s e && not (is_rejected e.mark)

-- the sink is in an earlier iteration (Allen and Kennedy, section 2.2.4)
abbrev pub is_after : Option Direction → Bool
is_after (Some After) = true
is_after (Some Before) = false
is_after (Some Same) = false
is_after None = false

-- a vector of the dependence has `>` for the DO in the one of this level (Allen and Kennedy, section 2.2.4)
abbrev pub has_after : ℕ → Edge → Bool
has_after level e = list_any (λ v. is_after (slice_get v level)) e.vectors

-- the DO carries the dependence, the user hasn't rejected it, and a vector of it has `>` for the next DO in it: the interchange of the two would turn it around (Allen and Kennedy, section 5.2)
abbrev pub crossing : ProgramTree → ℕ → Edge → Bool
crossing t s e = carried t s e && has_after (level_at t s) e

-- of the dependences of a program this is the first that forbids a step, with at most six loops around both its references; or none forbids it (plain words)
abbrev pub IsFirstOf : ProgramTree → (Edge → Bool) → Option CodeEdge → Type 0
IsFirstOf t forbids None = (edges : List Edge) → AreEdges t edges → All (λ e. forbids e ≡ false) edges
IsFirstOf t forbids (Some e) = ((edges : List Edge) × AreEdges t edges × IsFirstForbidding forbids edges (edge_of e)) × HasAtMostSixLoops e
