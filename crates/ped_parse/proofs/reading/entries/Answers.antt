use Rattle.std.proofs.Common.{◌∷◌, [], ◌++◌, List, sym, subst, map}
use Rattle.ped_tree.specs.Grammar.StatementViews.{statement_of}
use Rattle.ped_tree.specs.Grammar.ItemViews.{entry_of}
use Rattle.ped_tree.specs.declared.grammar.items.Entry as items
use Rattle.ped_parse.specs.Entries.{AreReadAs}
use Rattle.ped_parse.proofs.Entries.{entry_read}
use Rattle.ped_parse.proofs.reading.entries.Goals as goal

-- src/reading.rt:69:5
pub loop-statement-preserved : goal.loop-statement-preserved
loop-statement-preserved c =
    subst (λ (es : List items.Entry). AreReadAs (map statement_of (c.loop-statement.yielded ++ c.in-Some.statement ∷ [])) (map entry_of es)) (sym c.in_ok-push.ensures.items)
    (entry_read c.loop-statement.yielded c.loop-statement.entries.items c.in-Some.statement c.in_ok-entry.field-0 c.loop-statement.invariant c.in_ok-entry.ensures)
