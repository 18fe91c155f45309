use Rattle.std.proofs.Common.{◌≡◌, ◌<◌, ◌+◌, List, map, length, get_or, ap, subst, ◌∙◌, arith}
use Rattle.ped_tree.specs.Grammar.RefusalViews.{kind_of}
use Rattle.ped_links.specs.ped_units.specs.Units as units
use Rattle.ped_links.specs.ped_units.specs.Linking.{calls_of}
use Rattle.ped_calls.specs.Courses.{units_of}
use Rattle.ped_calls.specs.Opening.{FindsPast}
use Rattle.ped_links.specs.Placing.{placed_call}
use Rattle.ped_links.specs.ped_units.specs.Verdicts.{IsFirstPast}
use Rattle.ped_links.specs.ped_units.specs.Views.{program_unit_of}
use Rattle.ped_links.specs.declared.placing.PlacedCall.{PlacedCall}
use Rattle.ped_links.specs.ped_units.specs.declared.units.ProgramUnit.{ProgramUnit}
use Rattle.ped_calls.proofs.FirstPast.{within_none, within_more, first_at, none_left}
use Rattle.ped_calls.proofs.MainSteps.{main_there}
use Rattle.ped_calls.proofs.opening.first_past.Goals as goal

pub loop-place-init : goal.loop-place-init
loop-place-init c = record { within = within_none (units_of c.args.file.now.units.now); at = omega arith; valid = λ h. absurd (omega (arith, h)) }

pub loop-place-preserved : goal.loop-place-preserved
loop-place-preserved c =
    let us = units_of c.args.file.now.units.now in
    let place = c.loop-place.place in
    let none = subst (FindsPast us (place + 1)) c.in-None.is c.in_ok-kind.ensures in
    record { within = within_more us place c.loop-place.invariant.within none.0; at = omega arith; valid = λ h. none.1 }

-- the CALLs of the main program, as the code keeps them
calls_kept : (us : List ProgramUnit) (d : ProgramUnit) (found : List PlacedCall) (calls : List PlacedCall) → 0 < length us → found ≡ map placed_call (calls_of (program_unit_of (get_or us 0 d))) → calls ≡ found
    → calls ≡ map placed_call (calls_of (units_of us).main)
calls_kept us d found calls some are is = is ∙ are ∙ ap (λ (v : units.ProgramUnit). map placed_call (calls_of v)) (main_there us d some)

pub returns-in-Some : goal.returns-in-Some
returns-in-Some c =
    let us = units_of c.args.file.now.units.now in
    let place = c.loop-place.place in
    let calls = c.as_slice-calls.result.now in
    let are = calls_kept c.args.file.now.units.now c.index-file-0.result c.in_ok-found.found.calls.items calls c.requires.file.some c.in_ok-found.ensures.calls (cc (c.as_slice-calls.ensures.value)) in
    let past = subst (FindsPast us (place + 1)) c.in-Some.is c.in_ok-kind.ensures in
    c.past.ensures us (subst (λ (d : PlacedCall). IsFirstPast us (kind_of c.in-Some.kind) d.line) c.index-calls-place.is (first_at us (kind_of c.in-Some.kind) calls place c.index-calls-place.result c.requires.invalid c.loop-place.invariant.within past are c.loop-place-test.true c.index-calls-place.is))

pub unreachable-requires : goal.unreachable-requires
unreachable-requires c =
    let us = units_of c.args.file.now.units.now in
    let calls = c.as_slice-calls.result.now in
    let are = calls_kept c.args.file.now.units.now c.index-file-0.result c.in_ok-found.found.calls.items calls c.requires.file.some c.in_ok-found.ensures.calls (cc (c.as_slice-calls.ensures.value)) in
    c.requires.invalid (none_left us calls c.loop-place.place c.requires.starts are c.loop-place-test.false c.loop-place.invariant.valid)
