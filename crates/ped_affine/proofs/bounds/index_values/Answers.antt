use Rattle.std.proofs.Common.{sym, ◌∙◌, drop, arith}
use Rattle.std.proofs.lemmas.List.{drop_all}
use Rattle.ped_refs.specs.Loops.{nest_of}
use Rattle.ped_affine.specs.PairViews.{heads_of}
use Rattle.ped_affine.proofs.Surrounding.{none_left}
use Rattle.ped_affine.proofs.bounds.index_values.Goals as goal

pub returns-clause-value : goal.returns-clause-value
returns-clause-value c =
    sym (none_left c.args.name.now (heads_of (nest_of (drop c.loop-i.i c.args.around.now.loops.now))) (drop c.loop-i.i c.args.around.now.ranges.now) (drop_all c.loop-i.i c.args.around.now.ranges.now (omega arith)))
    ∙ c.loop-i.invariant
