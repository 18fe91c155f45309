use Rattle.std.proofs.Common.{◌≡◌, ◌+◌, drop}
use Rattle.std.specs.List.{prefix_len}
use Rattle.ped_graph.specs.Dependences.{is_of, carriage_from}
use Rattle.ped_graph.proofs.levels.count_first.Given as goal

-- the vectors so far are of the level
abbrev pub invariant-loop-place : goal.invariant-loop-place
invariant-loop-place l =
    l.place + prefix_len (λ v. is_of l.level (carriage_from 1 v)) (drop l.place l.vectors) ≡ prefix_len (λ v. is_of l.level (carriage_from 1 v)) l.vectors
