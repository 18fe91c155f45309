use Rattle.std.proofs.Common.{sym, map, ◌∙◌}
use Rattle.ped_tree.specs.Accesses.{constant_names}
use Rattle.ped_tree.specs.Views.{decl_tree}
use Rattle.ped_flow.proofs.Placing.{variables_after, ok_or_err}
use Rattle.ped_flow.proofs.places.Places.add.Goals as goal

pub invariant_of-self-2 : goal.invariant_of-self-2
invariant_of-self-2 c = record {
  variables = variables_after c.args.self.now.names c.insert-2.new.self (constant_names (map decl_tree c.args.self.now.decls.now)) c.args.name.now c.args.self.now.variables (sym c.is_constant.ensures ∙ c.if-is_constant.false)
      (ok_or_err c.insert-2.result c.insert-2.ensures.ok c.insert-2.ensures.err);
}
