use Rattle.std.proofs.Common.{◌≡◌, ◌+◌, ◌≤◌, List, [], ◌∷◌, ◌++◌, length, map, take, refl, sym, ap, subst, ◌∙◌, arith, take_all}
use Rattle.std.proofs.lemmas.Grind.{common_steps}
use Rattle.std.proofs.lemmas.List.{map_push}
use Rattle.ped_units.specs.Units as plain
use Rattle.ped_links.specs.Arguments.{AreFormals}
use Rattle.ped_units.specs.Views.{program_unit_of}
use Rattle.ped_units.specs.declared.units.ProgramUnit.{ProgramUnit}
use Rattle.ped_links.proofs.FormalTables.{no_formals}
use Rattle.ped_links.proofs.formals.Formals.new.Goals as goal

pub loop-unit-init : goal.loop-unit-init
loop-unit-init c = no_formals _ c.new.ensures.items c.new-2.ensures.items refl

pub loop-unit-preserved : goal.loop-unit-preserved
loop-unit-preserved c =
    let all = c.args.units.now in
    let i = c.loop-unit.unit-index in
    let unit = c.unit-item.result in
    let more : take (i + 1) all ≡ take i all ++ unit ∷ [] = grind (arith, common_steps) in
    subst (λ (us : List plain.ProgramUnit). AreFormals us c.add.new.self) (sym (ap (map program_unit_of) more ∙ map_push program_unit_of (take i all) unit))
    (c.in_ok-add.ensures (map program_unit_of (take i all)) (program_unit_of unit) (sym c.as_slice.ensures) c.loop-unit.invariant)

pub returns : goal.returns
returns c =
    let all = c.args.units.now in
    let ended : length all ≤ c.loop-unit.unit-index = omega arith in
    subst (λ (us : List ProgramUnit). AreFormals (map program_unit_of us) c.loop-unit.formals) (take_all c.loop-unit.unit-index all ended) c.loop-unit.invariant
