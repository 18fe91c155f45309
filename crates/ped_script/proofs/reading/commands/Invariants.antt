use Rattle.std.proofs.Common.{◌≡◌, ◌+◌, ◌++◌, length}
use Rattle.ped_script.specs.Items.{items_from, commands_of}
use Rattle.ped_script.proofs.reading.commands.Given as goal

abbrev pub invariant-loop-line : goal.invariant-loop-line
invariant-loop-line l = l.items ++ items_from (l.lines.read + 1) 0 l.lines.lines ≡ commands_of l.script

abbrev pub decreases-loop-line : goal.decreases-loop-line
decreases-loop-line l = length l.lines.lines
