use Rattle.std.proofs.Common.{◌≡◌, ◌≤◌, ◌∙◌, List, [], ◌∷◌, refl, ap, map, length, arith, take_all}
use Rattle.ped_tree.specs.Tree.{ExprTree, more_exprs}
use Rattle.ped_tree.specs.Views.{expr_tree, pack_exprs}
use Rattle.ped_links.specs.ped_units.specs.Expanding.{Meanings, replaced, all_replaced}
use Rattle.ped_calls.specs.Meaning.{meanings_of}
use Rattle.ped_calls.proofs.replacing.+replaced.Goals as goal

-- expressions of a list, packed for a tree
exprs_packed : (m : Meanings) (es : List ExprTree) → pack_exprs (map (replaced m) es) ≡ all_replaced m (pack_exprs es)
exprs_packed m [] = refl
exprs_packed m (e ∷ es) = ap (more_exprs (replaced m e)) (exprs_packed m es)

pub all_replaced-returns-clause-packed : goal.all_replaced-returns-clause-packed
all_replaced-returns-clause-packed t c =
    let m = meanings_of c.args.m.now in
    let old = map expr_tree c.args.exprs.now in
    let ended : length c.args.exprs.now ≤ c.loop-e.e-index = omega (arith, c.loop-e-test.false, c.loop-e.auto.e-index-end) in
    ap pack_exprs (c.loop-e.invariant ∙ ap (λ es. map (replaced m) (map expr_tree es)) (take_all c.loop-e.e-index c.args.exprs.now ended)) ∙ exprs_packed m old
