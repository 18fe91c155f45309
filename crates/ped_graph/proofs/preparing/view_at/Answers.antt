use Rattle.std.proofs.Common.{◌∙◌, ap, ℕ, []}
use Rattle.std.proofs.lemmas.Result.{IfOk-weaker}
use Rattle.ped_tree.specs.Views.{program_tree}
use Rattle.ped_tree.specs.Numbering.{statement_with}
use Rattle.ped_tree.specs.Names.Collecting.{with_names}
use Rattle.ped_refs.specs.Occurrences.{references_of}
use Rattle.ped_affine.specs.PairViews.{view_at}
use Rattle.ped_graph.specs.Dependences.{assigned_by, site_of}
use Rattle.ped_graph.proofs.Places.{places_there, one_there}
use Rattle.ped_graph.proofs.preparing.view_at.Goals as goal

pub returns : goal.returns
returns c = IfOk-weaker c.view_in.result _ _ (λ view h p e.
    let known = c.args.known.now in
    let t = program_tree known.program.now in
    let refs = references_of known.found.now in
    let pair = c.args.pair.now in
    let there = places_there refs pair p e in
    let source = one_there refs pair.source _ p.0 c.occurrence_at-source.ensures.there there.0 in
    let sink = one_there refs pair.sink _ p.1 c.occurrence_at-sink.ensures.there there.1 in
    let constants = c.requires.known.constants in
    let number = c.requires.entered p.0 there.0 in
    let assigned = c.requires.round ∙ ap (λ (n : ℕ). with_names [] (assigned_by (statement_with n t))) number in
    h ∙ (λ i. view_at (record { constants = constants i; loop_variables = c.requires.known.loop_variables i; assigned = assigned i }) (site_of (source i)) (site_of (sink i))))
    c.view_in.ensures
