use Rattle.std.proofs.Common.{◌≡◌, ◌+◌, ◌-◌, ◌++◌, ◌∷◌, ◌∙◌, sym, ap, [], List, length, arith}
use Rattle.std.specs.Prelude.{slice_get}
use Rattle.std.proofs.lemmas.List.{length-map, length-append}
use Rattle.ped_views.specs.Views.{Range}
use Rattle.ped_refs.specs.Loops.{nest_of, loop_of}
use Rattle.ped_affine.specs.Ranges.{nest_ranges}
use Rattle.ped_affine.specs.PairViews.{heads_of}
use Rattle.ped_affine.specs.Arguments.{setting_of}
use Rattle.ped_evidence.proofs.LevelsListed.{ranges_of_long, take_next, take_whole}
use Rattle.ped_evidence.proofs.levels.ranges.Goals as goal

pub loop-i-preserved : goal.loop-i-preserved
loop-i-preserved c =
    let all : List Range = nest_ranges (setting_of c.args.setting.now) (heads_of (nest_of c.args.nest.now)) in
    let place : c.loop-i.i + 1 - 1 ≡ c.loop-i.i = omega arith in
    let len = length-append c.loop-i.found.items (c.range.result ∷ []) in
    let new = ap length c.in_ok-push.ensures.items in
    record { so_far = c.in_ok-push.ensures.items ∙ (ap (λ (xs : List Range). xs ++ c.range.result ∷ []) c.loop-i.invariant.so_far ∙ sym (take_next all c.loop-i.i c.range.result (ap (slice_get all) (sym place) ∙ c.range.ensures))); as_many = omega (arith, len, new, c.loop-i.invariant.as_many) }

pub returns-clause-ranges : goal.returns-clause-ranges
returns-clause-ranges c =
    let all : List Range = nest_ranges (setting_of c.args.setting.now) (heads_of (nest_of c.args.nest.now)) in
    let long : length all ≡ length c.args.nest.now = ranges_of_long (setting_of c.args.setting.now) (nest_of c.args.nest.now) ∙ length-map c.args.nest.now loop_of in
    c.loop-i.invariant.so_far ∙ take_whole c.loop-i.i all (omega (arith, long))
