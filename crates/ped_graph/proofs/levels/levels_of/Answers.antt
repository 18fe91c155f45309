use Rattle.std.proofs.Common.{List, ◌++◌, map, None, ap, ◌∙◌}
use Rattle.ped_views.specs.declared.directions.Direction.{Direction}
use Rattle.ped_graph.specs.Held.{held_edge}
use Rattle.ped_graph.specs.HeldPairs.{held_carried}
use Rattle.ped_edges.specs.Edges.{Edge}
use Rattle.ped_graph.specs.Levels.{edge_by}
use Rattle.ped_graph.proofs.LevelEdges.{divided_carried, divided_forward}
use Rattle.ped_graph.proofs.LevelOrder.{independent_next}
use Rattle.ped_graph.proofs.levels.levels_of.Goals as goal

pub carried_levels-outer-requires-clause-ordered : goal.carried_levels-outer-requires-clause-ordered
carried_levels-outer-requires-clause-ordered c = c.requires.ordered.ordered

pub split_level-requires : goal.split_level-requires
split_level-requires c =
    let left = c.carried_levels-outer.ensures.rest in
    independent_next c.args.loops c.carried_levels-outer.result.1.now left.ordered (left.within c.args.loops c.requires.ordered.within)

pub returns-then-not-is_forward : goal.returns-then-not-is_forward
returns-then-not-is_forward c = λ p forward many.
    divided_carried p c.args.vectors.now c.args.loops (map (edge_by p) c.carried_levels-outer.result.0.items) (forward ∙ c.if-not-is_forward.true) many (c.carried_levels-outer.ensures.levels p)

pub returns : goal.returns
returns c = λ p forward many.
    let vectors = c.args.vectors.now in
    let loops = c.args.loops in
    let left = c.carried_levels-outer.ensures.rest in
    let these = c.split_level.ensures.these ∙ left.all None tt in
    divided_forward p vectors loops (map (edge_by p) c.push_level.new.levels.items) (forward ∙ c.if-not-is_forward.false) many
    (c.push_level.ensures.levels p ∙ ap (λ (es : List Edge). es ++ held_edge p None c.split_level.result.0.now) (c.carried_levels-outer.ensures.levels p)
    ∙ ap (λ (vs : List (List Direction)). held_carried p vectors loops ++ held_edge p None vs) these)
