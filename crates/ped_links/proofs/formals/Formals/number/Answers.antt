use Rattle.std.proofs.Common.{◌≡◌, length, ap, ◌∙◌, arith}
use Rattle.ped_links.specs.Arguments.{formals_at}
use Rattle.ped_links.proofs.FormalTables.{bases_long, places_long, base_is, places_there, no_number_by, number_there}
use Rattle.ped_links.proofs.formals.Formals.number.Goals as goal

pub returns-then-unit-len-clause-number : goal.returns-then-unit-len-clause-number
returns-then-unit-len-clause-number c us h below =
    let bases = c.args.self.now.bases in
    let long : length bases.items ≡ length us = ap length h.bases ∙ bases_long 0 us in
    absurd (omega (arith, below, long, bases.ok.0, c.len.ensures, c.if-unit-len.true))

pub returns-then-unit-len-2-clause-number : goal.returns-then-unit-len-2-clause-number
returns-then-unit-len-2-clause-number c us h below =
    let places = c.args.self.now.places in
    let long = places_long us places.items h.places in
    absurd (omega (arith, below, long, places.ok.0, c.len-2.ensures, c.if-unit-len-2.true))

pub returns-in-Some-clause-number : goal.returns-in-Some-clause-number
returns-in-Some-clause-number c us h below =
    let self = c.args.self.now in
    let unit = c.args.unit in
    let base = c.index-in-Some.result.now in
    let places = places_there us self.places.items unit c.index.result.now h.places below c.index.ensures in
    let there = number_there us unit base c.in-Some.place c.args.name.now self c.place_of.result h (c.place_of.ensures (formals_at us unit) places) c.in-Some.is (c.index-in-Some.ensures ∙ base_is us self unit base h below) in
    c.sum_below.ensures.sum there.0 ∙ there.1

pub returns-in-None-clause-number : goal.returns-in-None-clause-number
returns-in-None-clause-number c us h below =
    let self = c.args.self.now in
    let unit = c.args.unit in
    let places = places_there us self.places.items unit c.index.result.now h.places below c.index.ensures in
    no_number_by us unit c.args.name.now c.place_of.result (c.place_of.ensures (formals_at us unit) places) c.in-None.is
