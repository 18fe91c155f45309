use Rattle.std.proofs.Common.{◌<◌, ◌∙◌, ap, sym, length, slice_get, arith}
use Rattle.ped_graph.specs.Held.{Held}
use Rattle.ped_graph.proofs.Slices.{item_there}
use Rattle.ped_graph.proofs.Exchanging.{verdict_there, is_there}
use Rattle.ped_graph.proofs.graph.Graph.verdict.Goals as goal

pub verdict-requires : goal.verdict-requires
verdict-requires g c =
    let slots = c.self.inside.verdicts.items in
    let same = ap (λ (h : Held). length h.frame.pairs) c.self.view_is in
    let paired = c.self.invariant.paired in
    let asked = c.requires in
    let below : c.args.n < length slots = omega (arith, same, paired, asked) in
    let at = item_there slots c.args.n c.index.result.now c.index.ensures below in
    let v = verdict_there slots c.args.n c.index.result.now c.self.invariant.there at in
    is_there c.index.result.now v.0 v.2

pub returns : goal.returns
returns g c =
    let slots = c.self.inside.verdicts.items in
    let same = ap (λ (h : Held). length h.frame.pairs) c.self.view_is in
    let paired = c.self.invariant.paired in
    let asked = c.requires in
    let below : c.args.n < length slots = omega (arith, same, paired, asked) in
    let at = item_there slots c.args.n c.index.result.now c.index.ensures below in
    let v = verdict_there slots c.args.n c.index.result.now c.self.invariant.there at in
    ap (λ (h : Held). slice_get h.views c.args.n) (sym c.self.view_is) ∙ v.1 ∙ sym v.2 ∙ c.verdict.ensures
