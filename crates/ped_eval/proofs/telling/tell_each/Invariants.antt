use Rattle.std.proofs.Common.{◌≡◌, map, drop}
use Rattle.ped_eval.specs.Scopes.{turns_of}
use Rattle.ped_eval.specs.AccessViews.{turn_view}
use Rattle.ped_eval.specs.Follow.{Follow}
use Rattle.ped_eval.specs.Noting.{noted_view, accesses_by}
use Rattle.ped_eval.proofs.telling.tell_each.Given as goal

abbrev pub invariant-loop-touch : goal.invariant-loop-touch
invariant-loop-touch g l = record {
  statement : l.access.statement ≡ l.statement;
  path : map turn_view l.access.path ≡ turns_of l.scope;
  told : (new : _) → Follow g.W.Watch.follows l.watch (accesses_by l.statement l.scope (map noted_view (drop l.touch-index l.touches))) new
      → Follow g.W.Watch.follows l.initial.watch (accesses_by l.statement l.scope (map noted_view l.touches)) new;
}
