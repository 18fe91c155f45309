use Rattle.std.proofs.Common.{sym, ap, subst, ◌∙◌}
use Rattle.ped_tree.specs.Views.{program_tree}
use Rattle.ped_tree.specs.declared.declarations.Program.{Program}
use Rattle.ped_update.specs.ped_graph.specs.Held.{Held, held_of}
use Rattle.ped_update.specs.Deltas.{TakesTo}
use Rattle.ped_versions.proofs.moving.come.Goals as goal

pub returns-clause-graph : goal.returns-clause-graph
returns-clause-graph g c =
    let other = held_of (program_tree c.args.apart.program) in
    let leads = subst (λ (h : Held). TakesTo c.args.apart.delta h other) (sym c.requires.graph) c.requires.way in
    (c.swap-3.ensures.swapped other leads).0 ∙ ap (λ (p : Program). held_of (program_tree p)) (sym c.swap.ensures.x_after)

pub returns-clause-way : goal.returns-clause-way
returns-clause-way g c =
    let other = held_of (program_tree c.args.apart.program) in
    let leads = subst (λ (h : Held). TakesTo c.args.apart.delta h other) (sym c.requires.graph) c.requires.way in
    subst (λ (p : Program). TakesTo c.swap-3.new.delta (held_of (program_tree p)) (held_of (program_tree c.swap.new.y))) (sym c.swap.ensures.x_after)
    (subst (λ (p : Program). TakesTo c.swap-3.new.delta other (held_of (program_tree p))) (sym c.swap.ensures.y_after)
    (subst (λ (h : Held). TakesTo c.swap-3.new.delta other h) c.requires.graph (c.swap-3.ensures.swapped other leads).1))
