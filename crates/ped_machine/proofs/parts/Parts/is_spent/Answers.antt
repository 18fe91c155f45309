use Rattle.std.proofs.Common.{List, refl, sym, subst, ◌∙◌}
use Rattle.ped_tree.specs.Views.{stmt_trees}
use Rattle.ped_machine.specs.Parts.{Part, parts_of, FirstGoesOn, IsSettled}
use Rattle.ped_machine.proofs.PartsLeft.{settled_block, real_goes}
use Rattle.ped_machine.proofs.parts.Parts.is_spent.Goals as goal

pub returns-then-has_some-clause-settled : goal.returns-then-has_some-clause-settled
returns-then-has_some-clause-settled c =
    subst (λ (ps : List Part). IsSettled (parts_of c.args.self.now) ps) (sym c.set_block.ensures)
    (settled_block (parts_of c.args.self.now) c.in-Some.block (stmt_trees c.without_comments-stmts.result.now) c.in-Some.block.first c.in-Some.ensures refl c.without_comments-stmts.ensures)

pub returns-then-has_some-clause-spent : goal.returns-then-has_some-clause-spent
returns-then-has_some-clause-spent c =
    subst (λ (ps : List Part). FirstGoesOn ps) (sym c.set_block.ensures)
    (real_goes (parts_of c.args.self.now) c.in-Some.block (stmt_trees c.without_comments-stmts.result.now) c.in-Some.block.first c.in-Some.ensures c.without_comments-stmts.ensures.begins (sym c.has_some.ensures ∙ c.if-has_some.true))
