use Rattle.std.proofs.Common.{◌≡◌, subst, map, OnOk}
use Rattle.ped_tree.specs.Views.{expr_tree, pack_exprs}
use Rattle.ped_tree.specs.Names.Collecting.{with_names}
use Rattle.ped_links.specs.ped_units.proofs.CollectedNames.{names_of_arguments}
use Rattle.ped_calls.proofs.occurring.add_arguments.Goals as goal

pub returns : goal.returns
returns c =
    subst (λ names. OnOk c.add_exprs.result (c.add_exprs.new.names ≡ with_names c.args.names.now names))
    (names_of_arguments (pack_exprs (map expr_tree c.args.arguments.now))) c.add_exprs.ensures
