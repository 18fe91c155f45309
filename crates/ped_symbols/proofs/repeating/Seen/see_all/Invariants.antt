use Rattle.std.proofs.Common.{◌≡◌, List, ◌++◌, take, drop}
use Rattle.std.specs.Prelude.{◌||◌}
use Rattle.ped_symbols.specs.declared.uses.Use.{Use}
use Rattle.ped_symbols.specs.NameRefusals.{declares_again}
use Rattle.ped_symbols.specs.Passes.{HasSeen}
use Rattle.ped_symbols.proofs.repeating.Seen.see_all.Given as goal

abbrev pub invariant-loop-u : goal.invariant-loop-u
invariant-loop-u l = (before : List Use) → HasSeen l.initial.self before →
    HasSeen l.self (before ++ take l.u-index l.uses)
    × ((l.again || declares_again (before ++ take l.u-index l.uses) (drop l.u-index l.uses)) ≡ declares_again before l.uses)
