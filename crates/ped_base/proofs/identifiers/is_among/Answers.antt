use Rattle.std.proofs.Common.{◌∙◌}
use Rattle.std.specs.List.{list_any}
use Rattle.ped_base.proofs.NameEquality.{name_same, same_flip}
use Rattle.ped_base.proofs.identifiers.is_among.Goals as goal

pub returns : goal.returns
returns c = c.contains.ensures.value ∙ (λ i. list_any (λ y. (name_same y c.args.name.now ∙ same_flip y c.args.name.now) i) c.args.names.now)
