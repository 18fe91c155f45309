use Rattle.ped_tree.specs.Views.{stmt_tree}
use Rattle.ped_flow.specs.Kept.{name_of, constants_of}
use Rattle.ped_flow.proofs.Apart.{before_passing, if_some}
use Rattle.ped_flow.proofs.before.off_way.Goals as goal

pub returns-in-Some-clause-unreached : goal.returns-in-Some-clause-unreached
returns-in-Some-clause-unreached c =
    if_some c.past.result (before_passing (constants_of c.args.scalar.now) (name_of c.args.scalar.now) c.args.l (stmt_tree c.args.s.now) c.args.number c.in-Some.ensures.away) c.past.ensures.passing
