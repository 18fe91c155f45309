use Rattle.std.proofs.Common.{◌≡◌, drop}
use Rattle.ped_graph.specs.CodeParts.{exchanged}
use Rattle.ped_graph.proofs.parts.exchange_kept.Given as goal

-- what is left to exchange gives what all give
abbrev pub invariant-loop-pair : goal.invariant-loop-pair
invariant-loop-pair g l = exchanged (drop l.pair-index l.kept) l.verdicts l.slots ≡ exchanged l.kept l.fn.verdicts l.fn.slots
