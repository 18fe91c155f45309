use Rattle.std.proofs.Common.{sym, ◌∙◌, arith}
use Rattle.std.proofs.lemmas.List.{drop_all}
use Rattle.ped_refs.specs.Loops.{nest_of}
use Rattle.ped_affine.specs.Ranges.{nest_ranges}
use Rattle.ped_affine.specs.PairViews.{heads_of}
use Rattle.ped_affine.specs.Arguments.{setting_of}
use Rattle.ped_affine.proofs.Surrounding.{length-nest_ranges}
use Rattle.ped_affine.proofs.views.further_ranges.Goals as goal

pub returns-then-common-nest : goal.returns-then-common-nest
returns-then-common-nest c =
    let s = setting_of c.args.setting.now in
    c.new.ensures.items
    ∙ sym (drop_all c.args.common (nest_ranges s (heads_of (nest_of c.args.nest.now))) (omega (arith, length-nest_ranges s c.args.nest.now)))
