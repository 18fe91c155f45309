use Rattle.std.proofs.Common.{◌≡◌, ◌+◌, ◌*◌, ◌^◌, ◌≤◌, ◌<◌, take}
use Rattle.ped_answer.specs.Generated.{Tally, Applies}
use Rattle.ped_answer.specs.Tallies.{first_count, counted}
use Rattle.ped_answer.proofs.tallies.apply_items.Given as goal

abbrev pub invariant-loop-item : goal.invariant-loop-item
invariant-loop-item g l = record {
  so_far : Tally;
  applies : Applies (take l.item-index l.items) l.fn.session so_far l.session;
  counts : l.tally ≡ counted (first_count l.fn.session.tested) so_far;
  ticks : l.steps ≡ l.fn.steps + so_far.tests;
  few_accepted : l.tally.accepted ≤ l.item-index;
  few_refused : l.tally.refused ≤ l.item-index;
  few_tested : l.tally.tested < 2 ^ 64 * (l.item-index + 1);
}
