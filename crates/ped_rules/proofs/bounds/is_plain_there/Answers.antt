use Rattle.ped_tree.specs.Views.{expr_tree}
use Rattle.ped_rules.proofs.HeadLaws.PlainAnswers.{plain_is}
use Rattle.ped_rules.proofs.bounds.is_plain_there.Goals as goal

pub returns : goal.returns
returns c = plain_is c.args.place.now c.requires.placed (expr_tree c.args.e.now) c.is_built.result c.is_near.result c.both.result c.both.ensures c.is_built.ensures c.is_near.ensures
