use Rattle.std.proofs.Common.{◌≡◌, ◌++◌, drop}
use Rattle.ped_views.specs.Excluded.{group_of}
use Rattle.ped_verdict.proofs.groups.group.Given as goal

-- the rows found so far and those of the positions ahead are all
abbrev pub invariant-loop-position : goal.invariant-loop-position
invariant-loop-position l = l.rows.items ++ group_of l.place (drop l.position-index l.positions) ≡ group_of l.place l.positions
