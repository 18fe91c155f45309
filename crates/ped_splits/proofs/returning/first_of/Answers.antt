use Rattle.std.proofs.Common.{arith}
use Rattle.ped_edges.specs.CodeEdges.{HasAtMostSixLoops}
use Rattle.ped_splits.specs.CodeFusing.{StandsInside}
use Rattle.ped_splits.proofs.BackAmong.{kept_none, kept_some, kept_has}
use Rattle.ped_splits.proofs.returning.first_of.Goals as goal

pub with_present_numbers-requires : goal.with_present_numbers-requires
with_present_numbers-requires c =
    let inside = kept_has c.args.bodies.now c.args.edges.items c.keep_forbidding.new.edges.items c.keep_forbidding.ensures c.in-Some.edge c.in-Some.ensures.0 c.in-Some.ensures.1 (StandsInside c.args.bodies.now) c.requires.inside in
    let source = inside.source in
    let sink = inside.sink in
    let second = c.requires.second in
    let behind = c.requires.behind in
    record { source = omega (arith, source, behind); sink = omega (arith, sink, second) }

pub returns-in-Some : goal.returns-in-Some
returns-in-Some c =
    let short = kept_has c.args.bodies.now c.args.edges.items c.keep_forbidding.new.edges.items c.keep_forbidding.ensures c.in-Some.edge c.in-Some.ensures.0 c.in-Some.ensures.1 HasAtMostSixLoops c.requires.short in
    kept_some c.args.bodies.now c.args.edges.items c.keep_forbidding.new.edges.items c.keep_forbidding.ensures c.in-Some.edge c.in-Some.ensures.0 c.in-Some.ensures.1 c.with_present_numbers.result
    c.with_present_numbers.ensures.present (c.with_present_numbers.ensures.short short)

pub returns-in-None : goal.returns-in-None
returns-in-None c = kept_none c.args.bodies.now c.args.edges.items c.keep_forbidding.new.edges.items c.keep_forbidding.ensures c.in-None.ensures
