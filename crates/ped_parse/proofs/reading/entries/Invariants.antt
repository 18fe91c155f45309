use Rattle.std.proofs.Common.{map}
use Rattle.ped_tree.specs.Grammar.StatementViews.{statement_of}
use Rattle.ped_tree.specs.Grammar.ItemViews.{entry_of}
use Rattle.ped_parse.specs.Entries.{AreReadAs}
use Rattle.ped_parse.proofs.reading.entries.Given as goal

abbrev pub invariant-loop-statement : goal.invariant-loop-statement
invariant-loop-statement l = AreReadAs (map statement_of l.yielded) (map entry_of l.entries.items)
