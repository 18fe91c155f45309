use Rattle.std.proofs.Common.{◌≡◌, ◌++◌, map, drop}
use Rattle.ped_refs.specs.Occurrences.{reference_of}
use Rattle.ped_graph.specs.KnownProgram.{own_of}
use Rattle.ped_graph.proofs.own_facts.own_facts_of_all.Given as goal

abbrev pub invariant-loop-occurrence : goal.invariant-loop-occurrence
invariant-loop-occurrence l =
    l.own.items ++ map (λ o. own_of l.consts l.guards (reference_of o)) (drop l.occurrence-index l.found) ≡ map (λ o. own_of l.consts l.guards (reference_of o)) l.found
