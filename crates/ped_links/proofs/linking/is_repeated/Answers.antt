use Rattle.std.proofs.Common.{ℕ, List, Option, sym, subst}
use Rattle.ped_links.specs.LinkPlaces.{IsBelow, HasEarlier}
use Rattle.ped_links.proofs.linking.is_repeated.Goals as goal

pub returns-in-Some : goal.returns-in-Some
returns-in-Some c us known =
    let number = c.number_of.ensures us known in
    let is = c.in-Some.is in (
      λ t. subst (λ (name : Option (List ℕ)). HasEarlier us name c.args.number) (sym is) (subst (λ (o : Option ℕ). IsBelow o c.args.number) number (c.is_below.ensures.0 t)),
      λ h. c.is_below.ensures.1 (subst (λ (o : Option ℕ). IsBelow o c.args.number) (sym number) (subst (λ (name : Option (List ℕ)). HasEarlier us name c.args.number) is h)),
    )
