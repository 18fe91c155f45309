use Rattle.std.proofs.Common.{◌≡◌, ◌+◌, ◌≤◌, ℕ, List, length, take}
use Rattle.std.specs.List.{count_by}
use Rattle.ped_tree.specs.Views.{program_tree}
use Rattle.ped_graph.specs.Held.{pairs_by, frame_of, views_of}
use Rattle.ped_graph.specs.KnownProgram.{IsRound}
use Rattle.ped_graph.specs.Keeping.{IsOneToOne}
use Rattle.ped_update.specs.Fresh.{is_fresh}
use Rattle.ped_update.specs.Matching.{slots_for, kept_from, IsTable}
use Rattle.ped_update.proofs.matching.match_pairs.Given as goal

-- the pairs so far
abbrev pub invariant-loop-pair : goal.invariant-loop-pair
invariant-loop-pair g l = record {
  frame : l.parts.frame ≡ frame_of (program_tree l.changed.known.program.now);
  many : length l.parts.slots ≡ l.pair-index;
  least : l.fn.steps ≤ l.steps;
  round : IsRound (program_tree l.changed.known.program.now) l.round;
  slots : (keep : List (ℕ × ℕ)) → IsOneToOne keep → IsTable keep l.former.statements.now
      → l.parts.slots ≡ slots_for l.former.graph.now keep (pairs_by (frame_of (program_tree l.changed.known.program.now)).pairs (take l.pair-index (views_of (program_tree l.changed.known.program.now))));
  kept : (keep : List (ℕ × ℕ)) → IsOneToOne keep → IsTable keep l.former.statements.now
      → l.parts.kept ≡ kept_from l.former.graph.now keep 0 (pairs_by (frame_of (program_tree l.changed.known.program.now)).pairs (take l.pair-index (views_of (program_tree l.changed.known.program.now))));
  steps : (keep : List (ℕ × ℕ)) → IsOneToOne keep → IsTable keep l.former.statements.now
      → l.steps ≡ l.fn.steps + count_by (is_fresh l.former.graph.now keep) (pairs_by (frame_of (program_tree l.changed.known.program.now)).pairs (take l.pair-index (views_of (program_tree l.changed.known.program.now))));
}
