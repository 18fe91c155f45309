use Rattle.std.proofs.Common.{sym, ◌∙◌}
use Rattle.std.proofs.lemmas.Result.{on_ok_weaker}
use Rattle.ped_eval.specs.Loops.{exit_touches}
use Rattle.ped_eval.specs.Plans.{entered_by}
use Rattle.ped_tree.specs.Views.{head_of}
use Rattle.ped_eval.specs.Noting.{noted, accesses_by}
use Rattle.ped_eval.proofs.Watching.{idle_follows}
use Rattle.ped_eval.proofs.telling.tell_exit.Goals as goal

pub returns-then-keeps_nothing : goal.returns-then-keeps_nothing
returns-then-keeps_nothing g c =
    idle_follows g.W.Watch.follows c.args.watch.now (λ a. g.met.W.Watch.idles c.args.watch.now a (sym c.keeps_nothing.ensures ∙ c.if-keeps_nothing.true)) (accesses_by c.args.plan.now.number c.args.scope.now (noted (exit_touches (entered_by (head_of c.args.d.now) c.args.plan.now c.args.plan.now.behind) c.args.scope.now)))

pub returns : goal.returns
returns g c =
    on_ok_weaker c.tell.result (λ told. told (noted (exit_touches (entered_by (head_of c.args.d.now) c.args.plan.now c.args.plan.now.behind) c.args.scope.now)) c.exit_notes-notes.ensures) c.tell.ensures
