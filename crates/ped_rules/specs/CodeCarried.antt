-- The dependences that the code finds (this project).
use Rattle.std.specs.Prelude.{◌≡◌, List, map, filter, Bool, All}
use Rattle.ped_tree.specs.Tree.{ProgramTree}
use Rattle.ped_edges.specs.Edges.{Edge}
use Rattle.ped_edges.specs.CodeEdges.{edge_of, HasAtMostSixLoops}
use Rattle.ped_edges.specs.declared.edges.Edge.{Edge as CodeEdge}
use Rattle.ped_loop_runs.specs.ped_graph.specs.Dependences.{AreEdges}

-- these are the dependences of a program that pass the test, in the order of the pane
pub record AreThose (t : ProgramTree) (test : Edge → Bool) (found : List CodeEdge) : Type 0 where
  pub all : List Edge
  pub are : AreEdges t all
  pub those : map edge_of found ≡ filter test all
  pub short : All HasAtMostSixLoops found
