use Rattle.ped_tree.specs.Views.{program_tree, stmt_trees, head_of}
use Rattle.ped_rules.proofs.HeadLaws.PlainPlaces.{told_of_both}
use Rattle.ped_rules.proofs.bounds.are_plain.Goals as goal

pub is_plain-requires-clause-is : goal.is_plain-requires-clause-is
is_plain-requires-clause-is g c = record { head = head_of c.args.d.now; body = stmt_trees c.args.d.now.body.items; is = c.requires.is }

pub is_plain-requires-2-clause-is : goal.is_plain-requires-2-clause-is
is_plain-requires-2-clause-is g c = record { head = head_of c.args.d.now; body = stmt_trees c.args.d.now.body.items; is = c.requires.is }

pub returns : goal.returns
returns g c =
    told_of_both (program_tree c.args.scene.now.tree.now) c.args.number (head_of c.args.d.now) c.in_ok-first.first c.in_ok-last.last c.both.result c.both.ensures c.in_ok-first.ensures c.in_ok-last.ensures
