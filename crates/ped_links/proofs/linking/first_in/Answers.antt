use Rattle.std.proofs.Common.{Option, sym, ap, subst, ◌∙◌}
use Rattle.ped_units.specs.Linking.{Stands}
use Rattle.ped_links.specs.FirstLinks.{IsFirstOf, first_link_of}
use Rattle.ped_units.specs.declared.refusals.UnitFinding.{UnitFinding}
use Rattle.ped_links.proofs.LinkStages.{first_of_stages}
use Rattle.ped_links.proofs.linking.first_in.Goals as goal

pub returns : goal.returns
returns c us scene named =
    let heads = c.in_ok-at_heads.at_heads in
    let places = c.first_at_places-at_places.result in
    let recursions = c.in_ok-at_recursions.at_recursions in
    let arguments = c.in_ok-at_arguments.at_arguments in
    subst (IsFirstOf (Stands us))
    (sym (c.first_of_two.ensures ∙ ap (λ (o : Option UnitFinding). first_link_of o arguments) (c.first_of_two-found-2.ensures ∙ ap (λ (o : Option UnitFinding). first_link_of o recursions) c.first_of_two-found.ensures)))
    (first_of_stages us heads places recursions arguments (c.in_ok-at_heads.ensures us scene named) (c.first_at_places-at_places.ensures us scene) (c.in_ok-at_recursions.ensures us scene) (c.in_ok-at_arguments.ensures us scene))
