use Rattle.std.proofs.Common.{ℕ, List, take, drop, sym, ap, subst, ◌∙◌}
use Rattle.std.proofs.lemmas.List.{take_rest}
use Rattle.ped_views.specs.declared.directions.Direction.{Direction}
use Rattle.ped_graph.specs.Levels.{AreLeft, carriage_behind}
use Rattle.ped_graph.proofs.LevelOrder.{splits}
use Rattle.ped_graph.proofs.levels.split_level.Goals as goal

pub returns-clause-these : goal.returns-clause-these
returns-clause-these c =
    let parts = splits c.args.level c.args.vectors.now c.requires in
    ap (λ (n : ℕ). take n c.args.vectors.now) c.count_first-count.ensures.count ∙ parts.these

pub returns-clause-others : goal.returns-clause-others
returns-clause-others c =
    let vectors = c.args.vectors.now in
    let parts = splits c.args.level vectors c.requires in
    let others = subst (λ (n : ℕ). AreLeft (carriage_behind c.args.level) vectors (drop n vectors)) (sym c.count_first-count.ensures.count) parts.others in
    subst (λ (vs : List (List Direction)). AreLeft (carriage_behind c.args.level) vectors vs) (sym (take_rest vectors c.count_first-count.result)) others
