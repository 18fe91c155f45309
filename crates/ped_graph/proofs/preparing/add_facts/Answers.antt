use Rattle.std.proofs.Common.{◌∙◌, ◌++◌, ◌∷◌, [], ap, ℕ, ℤ, List, map}
use Rattle.std.proofs.lemmas.Result.{on_ok_weaker}
use Rattle.ped_tree.specs.Views.{program_tree}
use Rattle.ped_refs.specs.Occurrences.{reference_of, references_of}
use Rattle.ped_graph.specs.Guards.{guards}
use Rattle.ped_graph.specs.KnownProgram.{own_of}
use Rattle.ped_graph.specs.Dependences.{facts_of}
use Rattle.ped_graph.specs.Held.{framed}
use Rattle.ped_graph.specs.CodeFacts.{framed_of}
use Rattle.ped_graph.proofs.Places.{places_there, one_there}
use Rattle.ped_graph.proofs.preparing.add_facts.Goals as goal

pub returns : goal.returns
returns c = on_ok_weaker c.push_facts.result (λ more p e.
    let known = c.args.known.now in
    let t = program_tree known.program.now in
    let refs = references_of known.found.now in
    let pair = c.args.pair.now in
    let there = places_there refs pair p e in
    let source = one_there refs pair.source _ p.0 c.occurrence_at.ensures.there there.0 in
    let sink = one_there refs pair.sink _ p.1 c.occurrence_at-2.ensures.there there.1 in
    let constants = c.requires.known.constants in
    let first = c.own_at.ensures _ c.occurrence_at.ensures.there ∙ ap (λ (v : List (List ℕ × ℤ)). own_of v (guards t) (reference_of c.occurrence_at.result.now)) constants in
    let second = c.own_at-2.ensures _ c.occurrence_at-2.ensures.there ∙ ap (λ (v : List (List ℕ × ℤ)). own_of v (guards t) (reference_of c.occurrence_at-2.result.now)) constants in
    more (facts_of t) first second ∙ (λ i. map framed_of c.args.all.now.items ++ framed (facts_of t) (source i) (sink i) ∷ []))
    c.push_facts.ensures
