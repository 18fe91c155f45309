use Rattle.std.proofs.Common.{◌+◌, length}
use Rattle.ped_links.specs.Reaching.{ends_in, unmarked}
use Rattle.ped_links.proofs.Reached.{IsSearch}
use Rattle.ped_links.proofs.reaching.Arrows.reached.Given as goal

abbrev pub invariant-loop-number : goal.invariant-loop-number
invariant-loop-number l = IsSearch (ends_in l.self.ends.items) l.seeds l.marks.items l.waiting.items

abbrev pub decreases-loop-number : goal.decreases-loop-number
decreases-loop-number l = unmarked l.marks.items + length l.waiting.items
