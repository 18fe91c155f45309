use Rattle.std.proofs.Common.{ap, ◌∙◌}
use Rattle.ped_store.specs.Cells.{Private}
use Rattle.ped_eval.proofs.Frames.{iterations_round}
use Rattle.ped_eval.proofs.scopes.copy_in.Goals as goal

pub returns-clause-view : goal.returns-clause-view
returns-clause-view c = ap (Private c.args.name.now) (c.iterations_of.ensures ∙ iterations_round c.args.frames.now)
