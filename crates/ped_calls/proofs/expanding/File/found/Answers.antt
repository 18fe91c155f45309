use Rattle.std.proofs.Common.{◌<◌, ◌∙◌, map, drop, length, sym, arith, inr}
use Rattle.ped_links.specs.ped_units.specs.Views.{program_unit_of}
use Rattle.ped_calls.proofs.MainSteps.{number_missing, number_below, unit_found, tables_count}
use Rattle.ped_calls.proofs.expanding.File.found.Goals as goal

pub subroutine-requires : goal.subroutine-requires
subroutine-requires c =
    let us = c.args.self.now.units.now in
    let is = sym (c.number_of.ensures (map program_unit_of us) c.requires.numbers) ∙ c.in-Some.is in
    let below : c.in-Some.number < length us = number_below us c.args.name.now c.in-Some.number is in
    let count = tables_count us c.args.self.now.tables.now c.requires.tables in
    record { file = c.requires; unit = below; table = omega (arith, below, count) }

pub returns-in-Some : goal.returns-in-Some
returns-in-Some c =
    let us = c.args.self.now.units.now in
    let is = sym (c.number_of.ensures (map program_unit_of us) c.requires.numbers) ∙ c.in-Some.is in
    record {
      deeper = omega arith;
      unit = unit_found us c.args.name.now c.in-Some.number _ is c.subroutine.ensures.unit;
      table = c.subroutine.ensures.table;
      number = c.in-Some.number;
      is_number = c.subroutine.ensures.unit;
    }

pub returns-in-None : goal.returns-in-None
returns-in-None c =
    let us = c.args.self.now.units.now in
    inr (number_missing (drop 1 (map program_unit_of us)) 1 c.args.name.now (sym (c.number_of.ensures (map program_unit_of us) c.requires.numbers) ∙ c.in-None.is))
