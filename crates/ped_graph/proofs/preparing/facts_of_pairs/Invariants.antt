use Rattle.std.proofs.Common.{◌≡◌, ◌++◌, map, drop}
use Rattle.ped_tree.specs.Views.{program_tree}
use Rattle.ped_refs.specs.References.{references, pairs}
use Rattle.ped_graph.specs.Dependences.{facts_of}
use Rattle.ped_graph.specs.Held.{framed, frame_of}
use Rattle.ped_graph.specs.CodeFacts.{framed_of}
use Rattle.ped_graph.proofs.preparing.facts_of_pairs.Given as goal

abbrev pub invariant-loop-pair : goal.invariant-loop-pair
invariant-loop-pair l =
    map framed_of l.facts.items ++ map (λ p. framed (facts_of (program_tree l.known.program.now)) p.0 p.1) (drop l.pair-index (pairs (references (program_tree l.known.program.now))))
    ≡ (frame_of (program_tree l.known.program.now)).pairs
