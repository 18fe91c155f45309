use Rattle.std.proofs.Common.{◌≡◌, ◌∙◌, ap, ℕ, [], subst}
use Rattle.std.proofs.lemmas.Result.{IfOk-weaker}
use Rattle.ped_tree.specs.Views.{program_tree}
use Rattle.ped_tree.specs.Numbering.{statement_with}
use Rattle.ped_tree.specs.Names.Collecting.{with_names}
use Rattle.ped_refs.specs.References.{outermost}
use Rattle.ped_refs.specs.Occurrences.{reference_of}
use Rattle.ped_affine.specs.Ranges.{Setting}
use Rattle.ped_affine.specs.PairViews.{Site}
use Rattle.ped_graph.specs.Sides.{IsSide}
use Rattle.ped_graph.specs.Dependences.{assigned_by, setting_in, site_of}
use Rattle.ped_graph.proofs.preparing.side_of.Goals as goal

pub returns : goal.returns
returns c = IfOk-weaker c.side_at.result _ _ (λ w h.
    let known = c.args.known.now in
    let t = program_tree known.program.now in
    let r = reference_of c.args.occurrence.now in
    let constants = c.requires.known.constants in
    let loop_variables = c.requires.known.loop_variables in
    let assigned = c.requires.round ∙ ap (λ (n : ℕ). with_names [] (assigned_by (statement_with n t))) c.requires.entered in
    let there : Setting = record { constants = known.consts.now; loop_variables = known.loop_variables.now; assigned = c.args.round.now.assigned } in
    let setting : there ≡ setting_in t (outermost r) = λ i. record { constants = constants i; loop_variables = loop_variables i; assigned = assigned i } in
    subst (λ (s : Setting). IsSide s (site_of r) w) setting (subst (λ (p : Site). IsSide there p w) c.place_of.ensures.site h))
    c.side_at.ensures
