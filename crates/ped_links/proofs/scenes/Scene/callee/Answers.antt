use Rattle.std.proofs.Common.{◌≡◌, length, ap, ◌∙◌, arith}
use Rattle.std.proofs.lemmas.List.{length-map}
use Rattle.ped_units.specs.Units.{all_units}
use Rattle.ped_units.specs.Views.{program_unit_of}
use Rattle.ped_links.proofs.NumberedUnits.{number_below}
use Rattle.ped_links.proofs.scenes.Scene.callee.Goals as goal

pub returns-clause-number : goal.returns-clause-number
returns-clause-number c us scene =
    let number = c.number_of.ensures (all_units us) scene.numbers in
    let long = ap length scene.units in
    let as_long = length-map c.args.self.now.units.now program_unit_of in
    let wide : length c.args.self.now.units.now ≡ length (all_units us) = omega (arith, long, as_long) in
    c.below.ensures.same (number_below us c.args.name.now c.number_of.result (length c.args.self.now.units.now) number wide) ∙ number
