use Rattle.std.proofs.Common.{Some, sym, ap, ◌∙◌}
use Rattle.std.proofs.lemmas.Option.{same_Some}
use Rattle.ped_base.specs.Lists.{is_same_text}
use Rattle.ped_base.proofs.NameEquality.{name_same, same_itself, same_is}
use Rattle.ped_links.proofs.arguments.is_name.Goals as goal

pub returns-in-Some : goal.returns-in-Some
returns-in-Some c =
    let other = c.in-Some.other in
    let name = c.args.name.now in
    let test = c.eq.ensures ∙ name_same other name in
    (λ t. c.in-Some.is ∙ ap Some (same_is other name (sym test ∙ t)), λ h. test ∙ ap (is_same_text other) (sym (same_Some other name (sym c.in-Some.is ∙ h))) ∙ same_itself other)
