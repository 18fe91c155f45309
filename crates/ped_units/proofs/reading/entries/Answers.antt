use Rattle.std.proofs.Common.{◌∷◌, [], ◌++◌, List, sym, subst, map}
use Rattle.ped_tree.specs.Grammar.StatementViews.{statement_of}
use Rattle.ped_units.specs.Seeing.{AreItemsReadAs}
use Rattle.ped_units.specs.Views.{unit_entry_of}
use Rattle.ped_units.specs.declared.items.UnitEntry.{UnitEntry}
use Rattle.ped_units.proofs.Entries.{entry_read}
use Rattle.ped_units.proofs.reading.entries.Goals as goal

pub loop-statement-preserved : goal.loop-statement-preserved
loop-statement-preserved c =
    subst (λ (es : List UnitEntry). AreItemsReadAs (map statement_of (c.loop-statement.yielded ++ c.in-Some.statement ∷ [])) (map unit_entry_of es)) (sym c.in_ok-push.ensures.items)
    (entry_read c.loop-statement.yielded c.loop-statement.entries.items c.in-Some.statement c.in_ok-entry.field-0 c.loop-statement.invariant c.in_ok-entry.ensures)
