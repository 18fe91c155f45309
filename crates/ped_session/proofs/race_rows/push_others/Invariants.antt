use Rattle.std.proofs.Common.{◌≡◌, ◌++◌, drop}
use Rattle.std.specs.List.{flat_map}
use Rattle.ped_session.specs.RaceRows.{next_subscript}
use Rattle.ped_session.proofs.race_rows.push_others.Given as goal

abbrev pub invariant-loop-subscript : goal.invariant-loop-subscript
invariant-loop-subscript l = l.out ++ flat_map next_subscript (drop l.subscript-index l.subscripts) ≡ l.fn.out ++ flat_map next_subscript l.subscripts
