use Rattle.std.proofs.Common.{◌≤◌, ◌∙◌, ap, map, length, arith, take_all}
use Rattle.ped_tree.specs.Views.{expr_tree, pack_exprs}
use Rattle.ped_symbolic.specs.Substitution.{substituted}
use Rattle.ped_symbolic.proofs.Packed.{exprs_packed}
use Rattle.ped_symbolic.proofs.substitution.expressions.+substitute.Goals as goal

pub substitute_in_all-returns-clause-packed : goal.substitute_in_all-returns-clause-packed
substitute_in_all-returns-clause-packed t c =
    let x = c.args.name.now in
    let by = expr_tree c.args.by.now in
    let old = map expr_tree c.args.exprs.now in
    let ended : length c.args.exprs.now ≤ c.loop-e.e-index = omega (arith, c.loop-e-test.false, c.loop-e.auto.e-index-end) in
    ap pack_exprs (c.loop-e.invariant ∙ ap (λ es. map (substituted x by) (map expr_tree es)) (take_all c.loop-e.e-index c.args.exprs.now ended)) ∙ exprs_packed x by old
