use Rattle.std.proofs.Common.{◌≡◌, drop}
use Rattle.std.specs.List.{list_any}
use Rattle.ped_tree.specs.Nests.{Loop}
use Rattle.ped_refs.specs.Loops.{nest_of}
use Rattle.ped_rules.proofs.indices.is_some_parallel.Given as goal

abbrev pub invariant-loop-l : goal.invariant-loop-l
invariant-loop-l l = list_any (λ (m : Loop). m.head.parallel) (nest_of (drop l.l-index l.loops)) ≡ list_any (λ (m : Loop). m.head.parallel) (nest_of l.loops)
