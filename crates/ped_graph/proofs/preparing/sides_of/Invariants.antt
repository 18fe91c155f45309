use Rattle.std.proofs.Common.{◌≡◌, length}
use Rattle.ped_tree.specs.Views.{program_tree}
use Rattle.ped_refs.specs.Occurrences.{references_of}
use Rattle.ped_graph.specs.KnownProgram.{IsRound, AreSides}
use Rattle.ped_graph.proofs.preparing.sides_of.Given as goal

-- the sides so far
abbrev pub invariant-loop-occurrence : goal.invariant-loop-occurrence
invariant-loop-occurrence l = record {
  many : length l.sides.items ≡ l.occurrence-index;
  sides : AreSides (program_tree l.known.program.now) (references_of l.known.found.now) l.sides.items;
  round : IsRound (program_tree l.known.program.now) l.round;
}
