use Rattle.std.proofs.Common.{◌≡◌, ◌++◌, map, drop}
use Rattle.ped_tree.specs.Views.{program_tree}
use Rattle.ped_refs.specs.References.{references, pairs}
use Rattle.ped_graph.specs.Dependences.{view_of}
use Rattle.ped_graph.specs.Held.{views_of}
use Rattle.ped_graph.specs.KnownProgram.{IsRound}
use Rattle.ped_graph.proofs.preparing.views_of_pairs.Given as goal

abbrev pub invariant-loop-pair : goal.invariant-loop-pair
invariant-loop-pair l = record {
  views : l.views.items ++ map (λ p. view_of (program_tree l.known.program.now) p.0 p.1) (drop l.pair-index (pairs (references (program_tree l.known.program.now))))
      ≡ views_of (program_tree l.known.program.now);
  round : IsRound (program_tree l.known.program.now) l.round;
}
