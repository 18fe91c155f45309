use Rattle.std.proofs.Common.{◌≡◌, ◌∙◌, ap, sym, subst, ℕ}
use Rattle.ped_tree.specs.Views.{program_tree}
use Rattle.ped_refs.specs.References.{outermost}
use Rattle.ped_refs.specs.Occurrences.{reference_of, references_of}
use Rattle.ped_graph.specs.Sides.{IsSide}
use Rattle.ped_graph.specs.Dependences.{setting_in, site_of}
use Rattle.ped_graph.proofs.Places.{places_there, one_there}
use Rattle.ped_update.proofs.matching.is_told.Goals as goal

pub returns : goal.returns
returns c = λ told p at.
    let t = program_tree c.args.changed.now.known.program.now in
    let refs = references_of c.args.changed.now.known.found.now in
    let pair = c.args.pair.now in
    let there = places_there refs pair p at in
    let first : reference_of c.occurrence_at-source.result.now ≡ p.0 = one_there refs pair.source _ p.0 c.occurrence_at-source.ensures.there there.0 in
    let second : reference_of c.occurrence_at-sink.result.now ≡ p.1 = one_there refs pair.sink _ p.1 c.occurrence_at-sink.ensures.there there.1 in
    let same : outermost p.1 ≡ outermost p.0 = ap outermost (sym second) ∙ sym (c.have_same_outermost.ensures c.if-not-have_same_outermost.false) ∙ ap outermost first in
    let source = c.requires.sides pair.source p.0 c.side_there-first.result.now there.0 c.side_there-first.ensures in
    let sink = c.requires.sides pair.sink p.1 c.side_there-second.result.now there.1 c.side_there-second.ensures in
    c.tells_view.ensures told (setting_in t (outermost p.0)) (site_of p.0) (site_of p.1) source (subst (λ (n : ℕ). IsSide (setting_in t n) (site_of p.1) c.side_there-second.result.now) same sink)
