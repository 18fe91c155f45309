use Rattle.std.proofs.Common.{ap, ◌∙◌}
use Rattle.ped_tree.specs.Constants.NamedConstants.{value_named}
use Rattle.ped_base.proofs.NameEquality.{looked_up}
use Rattle.ped_tree.proofs.constants.named.Consts.get.Goals as goal

pub returns : goal.returns
returns c =
    c.copied.ensures ∙ c.get.ensures.value ∙ looked_up c.args.name.now c.self.inside.values.entries
    ∙ ap (λ consts. value_named consts c.args.name.now) c.self.view_is
