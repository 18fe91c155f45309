use Rattle.std.proofs.Common.{◌∙◌, sym}
use Rattle.ped_graph.proofs.Slices.{item_there}
use Rattle.ped_graph.proofs.Exchanging.{verdict_there, is_there}
use Rattle.ped_graph.proofs.edges.verdict_at.Goals as goal

pub verdict-requires : goal.verdict-requires
verdict-requires g c =
    let slots = c.args.verdicts.now in
    let slot = c.index-verdicts-place.result in
    let v = verdict_there slots c.args.place slot c.requires.there (item_there slots c.args.place slot c.index-verdicts-place.is c.requires.within) in
    is_there slot v.0 v.2

pub returns : goal.returns
returns g c =
    let slots = c.args.verdicts.now in
    let slot = c.index-verdicts-place.result in
    let v = verdict_there slots c.args.place slot c.requires.there (item_there slots c.args.place slot c.index-verdicts-place.is c.requires.within) in
    v.1 ∙ sym v.2 ∙ c.verdict.ensures
