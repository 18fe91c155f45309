use Rattle.std.proofs.Common.{◌≡◌, ◌+◌, ◌≤◌, List, [], ◌∷◌, ◌++◌, length, map, take, sym, ap, subst, ◌∙◌, arith, take_all}
use Rattle.std.proofs.lemmas.Grind.{common_steps}
use Rattle.std.proofs.lemmas.List.{length-map, map_push}
use Rattle.ped_units.specs.Units as plain
use Rattle.ped_links.specs.Scenes.{AreWalked}
use Rattle.ped_units.specs.Views.{program_unit_of}
use Rattle.ped_links.specs.declared.placing.Found.{Found}
use Rattle.ped_units.specs.declared.units.ProgramUnit.{ProgramUnit}
use Rattle.ped_links.proofs.PlacesMet.{walked_more, walked_long}
use Rattle.ped_links.proofs.linking.walks.Goals as goal

pub loop-unit-preserved : goal.loop-unit-preserved
loop-unit-preserved c =
    let all = c.args.units.now in
    let i = c.loop-unit.unit-index in
    let unit = c.unit-item.result in
    let walk = c.in_ok-placed_calls.field-0 in
    let more : take (i + 1) all ≡ take i all ++ unit ∷ [] = grind (arith, common_steps) in
    subst (λ (us : List plain.ProgramUnit). AreWalked us c.push.new.self.items) (sym (ap (map program_unit_of) more ∙ map_push program_unit_of (take i all) unit))
    (subst (λ (fs : List Found). AreWalked (map program_unit_of (take i all) ++ program_unit_of unit ∷ []) fs) (sym {A = List Found} c.in_ok-push.ensures.items)
    (walked_more (map program_unit_of (take i all)) c.loop-unit.walks.items (program_unit_of unit) walk c.loop-unit.invariant (record { calls = c.in_ok-placed_calls.ensures.calls; private = c.in_ok-placed_calls.ensures.private })))

pub returns-clause-wide : goal.returns-clause-wide
returns-clause-wide c =
    let all = c.args.units.now in
    let ended : length all ≤ c.loop-unit.unit-index = omega arith in
    walked_long (map program_unit_of all) c.loop-unit.walks.items (subst (λ (us : List ProgramUnit). AreWalked (map program_unit_of us) c.loop-unit.walks.items) (take_all c.loop-unit.unit-index all ended) c.loop-unit.invariant) ∙ length-map all program_unit_of

pub returns-clause-walked : goal.returns-clause-walked
returns-clause-walked c =
    let all = c.args.units.now in
    let ended : length all ≤ c.loop-unit.unit-index = omega arith in
    subst (λ (us : List ProgramUnit). AreWalked (map program_unit_of us) c.loop-unit.walks.items) (take_all c.loop-unit.unit-index all ended) c.loop-unit.invariant
