use Rattle.std.proofs.Common.{◌≡◌, ◌≤◌, map, take}
use Rattle.ped_laws.specs.ped_eval.specs.AccessViews.{turn_view}
use Rattle.ped_order.specs.Entered.{Enters, told_by, in_turns}
use Rattle.ped_order.proofs.entering.enter.Given as goal

abbrev pub invariant-loop-level : goal.invariant-loop-level
invariant-loop-level l = Enters (told_by l.initial.entries.entries) l.entries.entries l.from l.touch.sighting (in_turns (map turn_view (take l.level l.turns)) l.touch) × (l.from ≤ l.level)
