use Rattle.std.proofs.Common.{refl}
use Rattle.ped_tree.specs.Views.{stmt_tree}
use Rattle.ped_reduce.proofs.SummedCode.{pushed}
use Rattle.ped_reduce.proofs.summing.add_one.Goals as goal

pub returns : goal.returns
returns c = pushed c.args.all.now.items c.push.new.self.items c.args.statement (stmt_tree c.args.statement) c.in_ok-push.ensures.items refl
