use Rattle.std.specs.Int.{w128}
use Rattle.std.proofs.lemmas.Int.{to_z-of_z}
use Rattle.ped_eval.proofs.Frames.{turned}
use Rattle.ped_eval.proofs.scopes.turn_last.Goals as goal

pub returns-in-Some-clause-turned : goal.returns-in-Some-clause-turned
returns-in-Some-clause-turned c =
    rw (to_z-of_z w128 c.args.value c.ranges.value) (turned c.args.frames.now c.in-Some.frame.now c.args.number c.args.value c.requires c.in-Some.ensures.item.1)
