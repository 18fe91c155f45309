use Rattle.std.proofs.Common.{map, ap, sym, ◌∙◌}
use Rattle.std.proofs.lemmas.List.{length-map}
use Rattle.std.specs.Prelude.{not, ◌==◌}
use Rattle.ped_tree.specs.Views.{expr_tree}
use Rattle.ped_fits.proofs.Lists.{has_some_length}
use Rattle.ped_fits.proofs.expressions.has_expr.Goals as goal

pub returns : goal.returns
returns c =
    ap not c.is_empty.ensures
    ∙ ap (λ n. not (n == 0)) (sym (length-map c.args.exprs.now expr_tree))
    ∙ has_some_length (map expr_tree c.args.exprs.now)
