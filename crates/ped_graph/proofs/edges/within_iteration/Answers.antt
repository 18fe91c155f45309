use Rattle.std.proofs.Common.{ℕ, ap, sym, rules, ◌∙◌}
use Rattle.std.proofs.lemmas.Fn.{filter_same}
use Rattle.ped_graph.specs.Owners as Owners
use Rattle.ped_graph.proofs.LevelOrder.{within_none}
use Rattle.ped_graph.proofs.edges.within_iteration.Goals as goal

pub returns-then-level-eq0 : goal.returns-then-level-eq0
returns-then-level-eq0 c =
    sym (ap (λ (n : ℕ). Owners.within_iteration n c.args.vectors.items) c.if-level-eq0.true ∙ within_none c.args.vectors.items)

pub returns : goal.returns
returns c = filter_same _ _ _ (λ x b f k. search rules) _ _ c.retain.ensures.filtered
