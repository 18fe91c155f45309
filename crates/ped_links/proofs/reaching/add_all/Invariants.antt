use Rattle.std.proofs.Common.{take}
use Rattle.ped_links.specs.Reaching.{AreAdded}
use Rattle.ped_links.proofs.reaching.add_all.Given as goal

abbrev pub invariant-loop-number : goal.invariant-loop-number
invariant-loop-number l = AreAdded (take l.number-index l.numbers) l.initial.marks l.initial.waiting.items l.marks l.waiting.items
