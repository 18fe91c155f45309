-- Data on which it is true what C$PED REJECT lines say (ParaScope; this project).
use Rattle.std.specs.Prelude.{◌≡◌, ℕ, List, true}
use Rattle.ped_bodies.specs.ped_flow.specs.ped_tree.specs.Tree.{ProgramTree}
use Rattle.ped_bodies.specs.ped_graph.specs.Dependences.{AreEdges}
use Rattle.ped_bodies.specs.ped_edges.specs.Edges.{Edge, rejected}
use Rattle.ped_bodies.specs.ped_store.specs.Races.{Access, conflict}
use Rattle.ped_bodies.specs.ped_laws.specs.Conflicts.Covered.{ComeInRun, IsCovered}

-- no dependence that a C$PED REJECT line puts aside occurs in the run on these data: it covers no two accesses that conflict there. Where there is no such line, that is so on all data (ParaScope; this project)
abbrev pub IsTrueOn : ProgramTree → (data_bytes : List ℕ) → Type 0
IsTrueOn t data_bytes = (edges : List Edge) → AreEdges t edges → (a b : Access) → ComeInRun t data_bytes a b → conflict a b ≡ true → (c : IsCovered t edges a b) → c.edge.mark ≡ rejected → ⊥
