use Rattle.std.proofs.Common.{◌≡◌, ℕ, nat_eq, take}
use Rattle.indexmap.specs.IndexMap.{get}
use Rattle.ped_update.specs.Matching.{former_in}
use Rattle.ped_update.proofs.matching.former_statements.Given as goal

-- the statements so far
abbrev pub invariant-loop-before : goal.invariant-loop-before
invariant-loop-before l = (now : ℕ) → get nat_eq l.former now ≡ former_in (take l.before-index l.keep) now
