use Rattle.std.proofs.Common.{map, ap, sym, ◌∙◌}
use Rattle.std.proofs.lemmas.List.{length-map}
use Rattle.std.specs.Prelude.{nat_le, ◌==◌}
use Rattle.ped_tree.specs.Views.{expr_tree, pack_exprs}
use Rattle.ped_tree.specs.Grammar.Fits.{takes_arguments}
use Rattle.ped_fits.proofs.Lists.{takes_two, takes_one, takes_two_or_more, takes_two_or_more_again}
use Rattle.ped_fits.proofs.expressions.takes_arguments.Goals as goal

pub returns-in-Mod : goal.returns-in-Mod
returns-in-Mod c =
    let es = map expr_tree c.args.arguments.now in
    ap (λ n. n == 2) (sym (length-map c.args.arguments.now expr_tree)) ∙ takes_two es ∙ ap (λ f. takes_arguments f (pack_exprs es)) (sym c.in-Mod.is)

pub returns-in-Abs : goal.returns-in-Abs
returns-in-Abs c =
    let es = map expr_tree c.args.arguments.now in
    ap (λ n. n == 1) (sym (length-map c.args.arguments.now expr_tree)) ∙ takes_one es ∙ ap (λ f. takes_arguments f (pack_exprs es)) (sym c.in-Abs.is)

pub returns-in-Max : goal.returns-in-Max
returns-in-Max c =
    let es = map expr_tree c.args.arguments.now in
    ap (λ n. nat_le 2 n) (sym (length-map c.args.arguments.now expr_tree)) ∙ takes_two_or_more es ∙ ap (λ f. takes_arguments f (pack_exprs es)) (sym c.in-Max.is)

pub returns-in-Min : goal.returns-in-Min
returns-in-Min c =
    let es = map expr_tree c.args.arguments.now in
    ap (λ n. nat_le 2 n) (sym (length-map c.args.arguments.now expr_tree)) ∙ takes_two_or_more_again es ∙ ap (λ f. takes_arguments f (pack_exprs es)) (sym c.in-Min.is)
