use Rattle.std.proofs.Common.{List, [], ap, ◌∙◌}
use Rattle.ped_views.specs.Views.{Range}
use Rattle.ped_tree.specs.Views.{expr_tree}
use Rattle.ped_refs.specs.Loops.{nest_of}
use Rattle.ped_affine.specs.Ranges.{interval_of, Around}
use Rattle.ped_affine.specs.PairViews.{heads_of}
use Rattle.ped_affine.specs.Arguments.{setting_of}
use Rattle.ped_affine.specs.Surroundings.{with_ranges}
use Rattle.ped_affine.proofs.Surrounding.{nest_inside}
use Rattle.ped_affine.proofs.ranges.interval.Goals as goal

pub returns : goal.returns
returns c =
    let s = setting_of c.args.setting.now in
    let heads = heads_of (nest_of c.args.nest.now) in
    c.interval_in.ensures.value
    ∙ ap (λ (rs : List Range). interval_of s (with_ranges heads rs) (expr_tree c.args.e.now)) c.find_ranges.ensures
    ∙ ap (λ (around : Around). interval_of s around (expr_tree c.args.e.now)) (nest_inside s [] heads)
