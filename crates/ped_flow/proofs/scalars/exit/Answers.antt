use Rattle.std.proofs.Common.{Bool, [], ◌∷◌, ◌++◌, sym, ap, ◌∙◌, if◌then◌else◌}
use Rattle.ped_tree.specs.Views.{stmt_trees}
use Rattle.ped_tree.specs.Views.{head_of}
use Rattle.ped_flow.specs.Events.{clears, copied}
use Rattle.ped_flow.specs.Summaries.{passing, of_manner}
use Rattle.ped_flow.specs.Kept.{name_of}
use Rattle.ped_flow.proofs.SumLaws.{cleared}
use Rattle.ped_flow.proofs.scalars.exit.Goals as goal

pub returns-then-is_left : goal.returns-then-is_left
returns-then-is_left c =
    c.cleared.ensures
    ∙ ap (λ (b : Bool). if b then of_manner clears 0 else passing) (sym c.if-is_left.true ∙ c.is_left.ensures)
    ∙ sym (cleared (name_of c.args.scalar.now) c.args.number ((if c.args.d.now.parallel then c.args.d.now.variable ∷ [] else []) ++ copied (head_of c.args.d.now) (stmt_trees c.args.d.now.body.items)))

pub returns : goal.returns
returns c =
    c.passing.ensures
    ∙ ap (λ (b : Bool). if b then of_manner clears 0 else passing) (sym c.if-is_left.false ∙ c.is_left.ensures)
    ∙ sym (cleared (name_of c.args.scalar.now) c.args.number ((if c.args.d.now.parallel then c.args.d.now.variable ∷ [] else []) ++ copied (head_of c.args.d.now) (stmt_trees c.args.d.now.body.items)))
