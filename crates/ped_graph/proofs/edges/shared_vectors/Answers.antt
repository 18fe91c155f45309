use Rattle.std.proofs.Common.{List, Option, ℕ, ap, sym, subst, ◌∙◌}
use Rattle.ped_views.specs.declared.directions.Direction.{Direction}
use Rattle.ped_graph.specs.Held.{held_by, held_divided}
use Rattle.ped_graph.specs.Levels.{AreByLevel}
use Rattle.ped_graph.proofs.LevelEdges.{none_shared}
use Rattle.ped_graph.proofs.LevelOrder.{within_by_level, none_by_level}
use Rattle.ped_graph.proofs.edges.shared_vectors.Goals as goal

pub returns-in-Some-clause-edges : goal.returns-in-Some-clause-edges
returns-in-Some-clause-edges c = λ p e.
    ap (λ (vs : List (List Direction)). held_divided p vs) c.within_iteration.ensures ∙ sym (ap (λ (o : Option ℕ). held_by o p c.args.vectors.items) (e ∙ c.in-Some.is))

pub returns-in-Some-clause-ordered : goal.returns-in-Some-clause-ordered
returns-in-Some-clause-ordered c = λ loops h.
    subst (λ (vs : List (List Direction)). AreByLevel loops vs) (sym c.within_iteration.ensures) (within_by_level c.in-Some.level loops c.args.vectors.items h)

pub returns-in-None-clause-edges : goal.returns-in-None-clause-edges
returns-in-None-clause-edges c = λ p e. none_shared p c.args.vectors.items c.new.result.items (e ∙ c.in-None.is) c.new.ensures.items

pub returns-in-None-clause-ordered : goal.returns-in-None-clause-ordered
returns-in-None-clause-ordered c = λ loops h. subst (λ (vs : List (List Direction)). AreByLevel loops vs) (sym c.new.ensures.items) (none_by_level loops)
