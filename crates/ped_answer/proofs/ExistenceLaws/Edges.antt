-- Each program has its dependence pane.
use Rattle.std.proofs.Common.{ℕ, refl, List, Option, Some, None}
use Rattle.ped_tree.specs.Tree.{ProgramTree}
use Rattle.ped_session.specs.ped_rules.specs.ped_edges.specs.Rows.{edges_pane}
use Rattle.ped_session.specs.ped_graph.specs.DependencePane.{IsDependencePane, IsDependencePaneOf, edges_of}
use Rattle.ped_session.specs.ped_transformations.specs.ped_inline.specs.CallsPane.{IsCallsPane}
use Rattle.ped_session.specs.ped_transformations.specs.ped_inline.proofs.SomeRows.{some_calls_pane}
use Rattle.ped_session.specs.ped_transformations.specs.ped_splits.proofs.Existence.Edges.{edges_of_program}

pub pane_of_program : (t : ProgramTree) → (pane : List ℕ) × IsDependencePane t pane
pane_of_program t = let edges = edges_of_program t in (edges_pane edges.0, (edges.0, edges.1, refl))

-- and its pane of calls
pub calls_pane_of_program : (t : ProgramTree) → (pane : List ℕ) × IsCallsPane t pane
calls_pane_of_program t = let edges = edges_of_program t in some_calls_pane t edges.0 edges.1

pub pane_of_statement : (t : ProgramTree) (of : Option ℕ) → (pane : List ℕ) × IsDependencePaneOf t of pane
pane_of_statement t None = pane_of_program t
pane_of_statement t (Some number) = let edges = edges_of_program t in (edges_pane (edges_of t number edges.0), (edges.0, edges.1, refl))
