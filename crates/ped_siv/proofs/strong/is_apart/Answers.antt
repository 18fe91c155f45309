use Rattle.std.proofs.Common.{rules, FitsSigned}
use Rattle.std.specs.Int.{w128}
use Rattle.ped_siv.proofs.Answering.{same_words, one_distance}
use Rattle.ped_siv.proofs.strong.is_apart.Goals as goal

pub returns-in-Some : goal.returns-in-Some
returns-in-Some c =
    let fd : FitsSigned w128 c.args.distance = c.ranges.distance in
    let fo : FitsSigned w128 c.in-Some.own = search rules in
    one_distance _ c.in-Some.own c.args.distance _ _ c.requires c.in-Some.ensures.divides (same_words c.in-Some.own c.args.distance fo fd)
