use Rattle.std.proofs.Common.{List, length, ap, arith}
use Rattle.ped_tree.specs.Views.{program_tree}
use Rattle.ped_refs.specs.Occurrences.{reference_of}
use Rattle.ped_graph.specs.Guards.{guards}
use Rattle.ped_graph.specs.KnownProgram.{own_of}
use Rattle.ped_graph.specs.declared.own_facts.OwnFacts.{OwnFacts}
use Rattle.ped_graph.proofs.Places.{item_mapped}
use Rattle.ped_graph.proofs.Slices.{length_mapped}
use Rattle.ped_graph.proofs.preparing.own_at.Goals as goal

pub own_there-requires : goal.own_there-requires
own_there-requires c =
    let known = c.args.known.now in
    let long = ap (λ (os : List OwnFacts). length os) c.requires.known.own in
    let many = length_mapped (λ o. own_of known.consts.now (guards (program_tree known.program.now)) (reference_of o)) known.found.now in
    let below = c.requires.within in
    omega (arith, long, many, below)

pub returns : goal.returns
returns c = λ r e.
    let known = c.args.known.now in
    item_mapped reference_of (own_of known.consts.now (guards (program_tree known.program.now))) known.found.now known.own.now c.args.place r c.own_there.result.now c.requires.known.own e c.own_there.ensures
