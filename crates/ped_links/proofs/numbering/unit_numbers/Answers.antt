use Rattle.std.proofs.Common.{◌≡◌, ◌+◌, ◌-◌, ◌<◌, ◌≤◌, List, length, map, take, drop, refl, ap, ◌∙◌, arith}
use Rattle.std.proofs.lemmas.List.{length-map, length-drop, length-take-le}
use Rattle.ped_units.specs.Units.{ProgramUnit}
use Rattle.ped_links.specs.Numbers.{number_among}
use Rattle.ped_units.specs.Views.{program_unit_of}
use Rattle.ped_links.proofs.Numbered.{numbers_more, unit_behind, all_behind}
use Rattle.ped_links.proofs.numbering.unit_numbers.Goals as goal

pub loop-number-preserved : goal.loop-number-preserved
loop-number-preserved c =
    let units = c.args.units.now in
    let us = map program_unit_of units in
    let n = c.loop-number.number in
    let unit = c.index-units-number.result in
    let above = c.loop-number.invariant.above in
    let below : n < length units = omega arith in
    let wide = length-map units program_unit_of in
    let long = length-drop 1 us in
    let low : n - 1 ≤ length (drop 1 us) = omega (arith, above, below, wide, long) in
    let place : n ≡ length (take (n - 1) (drop 1 us)) + 1 = let front = length-take-le (n - 1) (drop 1 us) low in omega (arith, front, above) in
    record {
      above = omega (arith, above);
      are = numbers_more (take (n - 1) (drop 1 us)) (take (n + 1 - 1) (drop 1 us)) (program_unit_of unit) unit.name n c.loop-number.numbers.entries c.keep_unit.new.numbers.entries place
          (unit_behind units n unit above below c.index-units-number.is) refl c.in_ok-keep_unit.ensures c.loop-number.invariant.are;
    }

pub returns : goal.returns
returns c x h =
    let us = map program_unit_of c.args.units.now in
    let wide = length-map c.args.units.now program_unit_of in
    let above = c.loop-number.invariant.above in
    let ended : length us ≤ c.loop-number.number = omega (arith, wide, above) in
    c.loop-number.invariant.are x h ∙ ap (λ (vs : List ProgramUnit). number_among vs 1 x) (all_behind us c.loop-number.number ended)
