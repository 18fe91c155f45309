use Rattle.std.proofs.Common.{◌≡◌, ◌↔◌, ℕ, List, [], Option, Some, None, Decides, refl, get_or, subst, ◌∙◌}
use Rattle.std.specs.Prelude.{IsTrue, ◌||◌}
use Rattle.std.proofs.lemmas.Bool.Decides.{Decides-and, Decides-or}
use Rattle.ped_units.specs.Linking.{IsAssigned}
use Rattle.ped_links.specs.Scenes.{unit_at}
use Rattle.ped_links.proofs.ArgumentSteps.{read_at}
use Rattle.ped_links.proofs.Seeds.{among_there}
use Rattle.ped_links.proofs.arguments.At.is_again_at.Goals as goal

pub returns : goal.returns
returns c us i at =
    let self = c.args.self.now in
    let fs = self.formals.now in
    let ns = self.call.now.arguments in
    let v = unit_at us self.callee in
    let p = c.args.place in
    let name = c.args.name.now in
    let r = c.index-self-place.result in
    let argument = c.index-as_slice-place.is ∙ read_at c.as_slice.result.now ns p c.index-as_slice-place.result None c.as_slice.ensures c.requires.arguments in
    let again : Decides c.is_name-again.result (get_or ns p None ≡ Some name) = subst (λ (a : Option (List ℕ)). IsTrue c.is_name-again.result ↔ (a ≡ Some name)) argument c.is_name-again.ensures in
    let told = c.is_assigned-assigned.ensures us at.marks at.below (among_there us fs p self.callee r at.formals at.below c.requires.formals) in
    let assigned : Decides c.is_assigned-assigned.result (IsAssigned us v (get_or fs p [])) = subst (λ (f : List ℕ). IsTrue c.is_assigned-assigned.result ↔ IsAssigned us v f) (read_at fs fs p r [] refl c.requires.formals) told in
    let other : Decides c.args.other_assigned (IsTrue c.args.other_assigned) = (λ e. e, λ e. e) in
    Decides-and c.is_name-again.result (c.args.other_assigned || c.is_assigned-assigned.result) again (Decides-or c.args.other_assigned c.is_assigned-assigned.result other assigned)
