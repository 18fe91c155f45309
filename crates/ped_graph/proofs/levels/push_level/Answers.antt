use Rattle.std.proofs.Common.{length, sym, ◌∙◌}
use Rattle.std.proofs.lemmas.Bool.{eqb-true, eqb-false}
use Rattle.ped_graph.proofs.LevelEdges.{none_more, one_more}
use Rattle.ped_graph.proofs.levels.push_level.Goals as goal

pub returns-then-is_empty-clause-levels : goal.returns-then-is_empty-clause-levels
returns-then-is_empty-clause-levels c = λ p.
    none_more p c.args.level c.args.vectors.now c.args.levels.now.items (eqb-true (length c.args.vectors.now) 0 (sym c.is_empty.ensures ∙ c.if-is_empty.true))

pub returns-clause-levels : goal.returns-clause-levels
returns-clause-levels c = λ p.
    one_more p (record { level = c.args.level; vectors = c.args.vectors }) c.args.levels.now.items c.push.new.self.items (eqb-false (length c.args.vectors.now) 0 (sym c.is_empty.ensures ∙ c.if-is_empty.false)) c.push.ensures.items
