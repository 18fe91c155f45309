use Rattle.std.proofs.Common.{ap, ◌∙◌}
use Rattle.ped_base.specs.Lists.{is_among}
use Rattle.ped_base.proofs.NameEquality.{any_same}
use Rattle.ped_tree.proofs.names.sets.NameSet.contains.Goals as goal

pub returns : goal.returns
returns c = c.contains.ensures ∙ any_same c.args.name.now c.self.inside.names.keys ∙ ap (is_among c.args.name.now) c.self.view_is
