use Rattle.std.proofs.Common.{sym, ◌∙◌}
use Rattle.ped_eval.proofs.Frames.{among_got}
use Rattle.ped_eval.proofs.scopes.is_at.Goals as goal

pub returns-in-Some : goal.returns-in-Some
returns-in-Some c = λ h. among_got c.args.names.now c.args.place c.args.name.now c.get.result c.in-Some.found c.in-Some.is c.get.ensures.lookup.0 c.get.ensures.lookup.1 (sym c.eq.ensures ∙ h)
