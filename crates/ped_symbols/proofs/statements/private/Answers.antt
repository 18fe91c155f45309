use Rattle.std.proofs.Common.{◌≡◌, ◌∙◌, ap, refl, map, ◌++◌, true, rules}
use Rattle.std.proofs.lemmas.Result.{IfOk-weaker}
use Rattle.ped_base.specs.Lists.{has_some}
use Rattle.ped_symbols.specs.Uses.{used_as}
use Rattle.ped_symbols.specs.declared.uses.Role.TheVariants.{Private}
use Rattle.ped_symbols.proofs.Walking.{over_private}
use Rattle.ped_symbols.proofs.statements.private.Goals as goal

pub returns : goal.returns
returns c =
    let names = c.args.names.now in
    let some : has_some names ≡ true = search rules in
    IfOk-weaker c.at_site.result _ _
    (λ next at. over_private c.args.known.now c.args.kinds.now c.at_site.new.kinds c.args.found next c.deref.result.now _ names some at
    (c.deref.ensures.value ∙ c.in_ok-push_all.ensures ∙ ap (λ us. us ++ map (used_as Private) names) c.new-uses.ensures.items)
    c.in_ok-stands_twice.ensures refl refl refl)
    c.at_site.ensures
