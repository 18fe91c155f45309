use Rattle.std.proofs.Common.{◌+◌, List, [], ◌++◌, map, length, Some, ap, ◌∙◌, arith}
use Rattle.ped_views.specs.declared.directions.Direction.{Direction}
use Rattle.ped_graph.specs.Dependences.{carried}
use Rattle.ped_graph.specs.Held.{held_edge}
use Rattle.ped_graph.specs.Levels.{edge_by}
use Rattle.ped_graph.specs.declared.levels.LevelVectors.{LevelVectors}
use Rattle.ped_graph.proofs.HeldEdges.{carried_pushed}
use Rattle.ped_graph.proofs.LevelOrder.{all_left, left_of_left, same_level}
use Rattle.ped_graph.proofs.levels.carried_levels.Goals as goal

pub loop-place-init : goal.loop-place-init
loop-place-init c =
    let none = ap (λ (ls : List LevelVectors). length ls) c.new-levels.ensures in (
      λ p. ap (λ (ls : List LevelVectors). map (edge_by p) ls) c.new-levels.ensures,
      omega (arith, none),
      all_left (carried 1) c.args.vectors.now c.requires.ordered,
    )

pub loop-place-preserved : goal.loop-place-preserved
loop-place-preserved c =
    let vectors = c.args.vectors.now in
    let place = c.loop-place.place in
    let old = c.loop-place.levels.items in
    let left = c.loop-place.invariant.2 in
    let these = c.split_level.ensures.these ∙ left.all (Some (place + 1)) (same_level (place + 1)) in
    let room = c.push_level.ensures.room in
    let few = c.loop-place.invariant.1 in (
      λ p. carried_pushed p vectors place [] (map (edge_by p) old) (map (edge_by p) c.push_level.new.levels.items) (c.loop-place.invariant.0 p)
          (c.push_level.ensures.levels p ∙ ap (λ (vs : List (List Direction)). map (edge_by p) old ++ held_edge p (Some (place + 1)) vs) these),
      omega (arith, room, few),
      left_of_left (Some (place + 1)) vectors c.loop-place.rest.now c.split_level.result.1.now left c.split_level.ensures.others,
    )
