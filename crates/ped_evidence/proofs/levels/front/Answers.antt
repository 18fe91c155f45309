use Rattle.std.proofs.Common.{sym}
use Rattle.std.proofs.lemmas.List.{take-map}
use Rattle.ped_refs.specs.Loops.{loop_of}
use Rattle.ped_evidence.proofs.levels.front.Goals as goal

pub returns : goal.returns
returns c = sym (take-map loop_of c.args.place c.args.nest.now)
