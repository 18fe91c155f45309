use Rattle.std.proofs.Common.{◌↔◌, ◌+◌, List, ℕ, [], Option, None, drop, get_or, sym, subst, ◌∙◌}
use Rattle.std.proofs.lemmas.Bool.{false≢true}
use Rattle.std.specs.Prelude.{IsTrue}
use Rattle.ped_links.specs.Arguments.{IsAliasedFirst}
use Rattle.ped_links.specs.Scenes.{unit_at}
use Rattle.ped_links.proofs.ArgumentSteps.{read_at}
use Rattle.ped_links.proofs.arguments.At.is_aliased_at.Goals as goal

pub returns-in-Some : goal.returns-in-Some
returns-in-Some c us i at =
    let self = c.args.self.now in
    let p = c.args.place in
    let fs = self.formals.now in
    let ns = self.call.now.arguments in
    let is = sym c.in-Some.is ∙ c.index-as_slice-place.is ∙ read_at c.as_slice.result.now ns p c.index-as_slice-place.result None c.as_slice.ensures c.requires.arguments in
    subst (λ (a : Option (List ℕ)). IsTrue c.is_name_aliased.result ↔ IsAliasedFirst us (unit_at us i) (unit_at us self.callee) (get_or fs p []) a (drop (p + 1) fs) (drop (p + 1) ns)) is (c.is_name_aliased.ensures us i at)

pub returns-in-None : goal.returns-in-None
returns-in-None c us i at =
    let self = c.args.self.now in
    let p = c.args.place in
    let fs = self.formals.now in
    let ns = self.call.now.arguments in
    let is = sym c.in-None.is ∙ c.index-as_slice-place.is ∙ read_at c.as_slice.result.now ns p c.index-as_slice-place.result None c.as_slice.ensures c.requires.arguments in
    (λ t. absurd (false≢true t), λ h. absurd (subst (λ (a : Option (List ℕ)). IsAliasedFirst us (unit_at us i) (unit_at us self.callee) (get_or fs p []) a (drop (p + 1) fs) (drop (p + 1) ns)) (sym is) h))
