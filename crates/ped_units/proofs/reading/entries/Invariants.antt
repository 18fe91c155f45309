use Rattle.std.proofs.Common.{map}
use Rattle.ped_tree.specs.Grammar.StatementViews.{statement_of}
use Rattle.ped_units.specs.Seeing.{AreItemsReadAs}
use Rattle.ped_units.specs.Views.{unit_entry_of}
use Rattle.ped_units.proofs.reading.entries.Given as goal

abbrev pub invariant-loop-statement : goal.invariant-loop-statement
invariant-loop-statement l = AreItemsReadAs (map statement_of l.yielded) (map unit_entry_of l.entries.items)
