use Rattle.std.proofs.Common.{sym, ap, subst, ◌∙◌, List, map}
use Rattle.ped_eval.specs.Follow.{Follow}
use Rattle.ped_eval.specs.Noting.{Noted, noted_view, accesses_by}
use Rattle.std.proofs.lemmas.Result.{on_ok_weaker}
use Rattle.ped_eval.proofs.Watching.{idle_follows}
use Rattle.ped_eval.proofs.telling.tell.Goals as goal

pub returns-then-keeps_nothing : goal.returns-then-keeps_nothing
returns-then-keeps_nothing g c ns noted =
    idle_follows g.W.Watch.follows c.args.watch.now (λ a. g.met.W.Watch.idles c.args.watch.now a (sym c.keeps_nothing.ensures ∙ c.if-keeps_nothing.true)) (accesses_by c.args.statement c.args.scope.now ns)

pub returns : goal.returns
returns g c =
    on_ok_weaker c.tell_each.result
    (λ told ns noted. subst (λ (xs : List Noted). Follow g.W.Watch.follows c.args.watch.now (accesses_by c.args.statement c.args.scope.now xs) c.tell_each.new.watch) (ap (map noted_view) c.deref.ensures.value ∙ noted c.if-not-notes.false) told)
    c.tell_each.ensures
