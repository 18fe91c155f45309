use Rattle.std.proofs.Common.{List, ap, subst, length, arith}
use Rattle.ped_views.specs.declared.directions.Direction.{Direction}
use Rattle.ped_verdict.specs.Marked.{AreAdded}
use Rattle.ped_verdict.specs.Sights.{OtherExcludes}
use Rattle.ped_verdict.proofs.Asked.{passed_none}
use Rattle.ped_verdict.proofs.walks.exclude_others.Goals as goal

pub exclude_in-requires-clause-front : goal.exclude_in-requires-clause-front
exclude_in-requires-clause-front c = let none = ap length c.empty.ensures in omega arith

pub exclude_in-requires-clause-passed : goal.exclude_in-requires-clause-passed
exclude_in-requires-clause-passed c = passed_none c.args.view.now c.args.sights.now c.empty.result c.empty.ensures

pub returns : goal.returns
returns c = subst (λ (g : List Direction). AreAdded (length c.args.view.now.loops) g (OtherExcludes c.args.view.now) c.args.excluded.now c.exclude_in.new.excluded) c.empty.ensures c.exclude_in.ensures
