use Rattle.std.proofs.Common.{Bool, List, ◌∷◌, sym, ap, subst, ◌∙◌}
use Rattle.ped_views.specs.declared.directions.Direction.{Direction}
use Rattle.ped_graph.specs.Dependences.{carried, carriage_from}
use Rattle.ped_graph.specs.Held.{held_divided}
use Rattle.ped_graph.specs.Levels.{ComeByLevel, leads_on}
use Rattle.ped_graph.proofs.LevelEdges.{HaveNoLevel, none_divided, none_empty, none_led}
use Rattle.ped_graph.proofs.levels.has_levels.Goals as goal

pub returns-in-Some : goal.returns-in-Some
returns-in-Some c = λ off loops order p forward.
    let first = c.in-Some.first.now in
    let rest = c.in-Some.field-0-1.now in
    let all = c.in-Some.ensures.cases.0 in
    let led = sym (c.leads_on.ensures ∙ ap (λ (v : List Direction). leads_on c.args.is_forward (carriage_from 1 v)) c.directions.ensures.value) ∙ off in
    let none = none_led c.args.is_forward first rest led (subst (λ (vs : List (List Direction)). ComeByLevel (carried 1) vs) all order.ordered) in
    ap (λ (vs : List (List Direction)). held_divided p vs) all ∙ none_divided p (first ∷ rest) (subst (λ (t : Bool). HaveNoLevel t (first ∷ rest)) (sym forward) none)

pub returns-in-None : goal.returns-in-None
returns-in-None c = λ off loops order p forward. none_divided p c.args.vectors.now (none_empty p.is_forward c.args.vectors.now c.in-None.ensures.cases)
