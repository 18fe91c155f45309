use Rattle.std.proofs.Common.{List, map, sym, ap, subst, ◌∙◌}
use Rattle.ped_tree.specs.Grammar.Refusal.{first_of}
use Rattle.ped_tree.specs.Grammar.ProgramRefusals.{program_refusals}
use Rattle.ped_tree.specs.Grammar.Occurrences.{saved_names}
use Rattle.ped_tree.specs.Grammar.StatementViews.{note_of, statement_of}
use Rattle.ped_tree.specs.declared.grammar.statements.Statement as lines
use Rattle.ped_tree.specs.declared.grammar.statements.NoteLine.{NoteLine}
use Rattle.ped_tree.specs.Grammar.ItemViews.{entry_of}
use Rattle.ped_tree.specs.declared.grammar.items.Entry as items
use Rattle.ped_parse.specs.Entries.{AreReadAs}
use Rattle.ped_parse.proofs.ReadAs.{refused_here, tree_here, lines_here}
use Rattle.ped_parse.proofs.reading.nested.Goals as goal

-- src/reading.rt:49:1
pub returns-in-Some-clause-refused : goal.returns-in-Some-clause-refused
returns-in-Some-clause-refused c =
    refused_here c.args.cut c.in_ok-entries.entries.items c.in_ok-refusal.field-0 c.in-Some.refusal
    (subst (λ (ss : List lines.Statement). AreReadAs (map statement_of ss) (map entry_of c.in_ok-entries.entries.items)) c.into_vec.ensures c.in_ok-entries.ensures)
    (λ all p q. c.in_ok-refusal.ensures all p (q ∙ ap (λ (ns : List NoteLine). map note_of ns) (sym c.as_slice.ensures)) ∙ ap (λ (es : List items.Entry). first_of (program_refusals all (map entry_of es))) c.deref-2.ensures.value)
    c.in-Some.is

-- src/reading.rt:45:1
pub returns-clause-tree : goal.returns-clause-tree
returns-clause-tree c =
    tree_here c.args.cut c.in_ok-entries.entries.items c.in_ok-refusal.field-0 c.in_ok-saved.saved _
    (subst (λ (ss : List lines.Statement). AreReadAs (map statement_of ss) (map entry_of c.in_ok-entries.entries.items)) c.into_vec.ensures c.in_ok-entries.ensures)
    (λ all p q. c.in_ok-refusal.ensures all p (q ∙ ap (λ (ns : List NoteLine). map note_of ns) (sym c.as_slice.ensures)) ∙ ap (λ (es : List items.Entry). first_of (program_refusals all (map entry_of es))) c.deref-2.ensures.value)
    c.in-None.is
    (c.in_ok-saved.ensures ∙ ap (λ (es : List items.Entry). saved_names (map entry_of es)) c.deref.ensures.value)
    c.in_ok-program_of-in-None.ensures.tree

-- src/reading.rt:45:1
pub returns-clause-lines : goal.returns-clause-lines
returns-clause-lines c =
    lines_here c.args.cut c.in_ok-entries.entries.items c.in_ok-refusal.field-0 c.in_ok-saved.saved _
    (subst (λ (ss : List lines.Statement). AreReadAs (map statement_of ss) (map entry_of c.in_ok-entries.entries.items)) c.into_vec.ensures c.in_ok-entries.ensures)
    (λ all p q. c.in_ok-refusal.ensures all p (q ∙ ap (λ (ns : List NoteLine). map note_of ns) (sym c.as_slice.ensures)) ∙ ap (λ (es : List items.Entry). first_of (program_refusals all (map entry_of es))) c.deref-2.ensures.value)
    c.in-None.is
    (c.in_ok-saved.ensures ∙ ap (λ (es : List items.Entry). saved_names (map entry_of es)) c.deref.ensures.value)
    c.in_ok-program_of-in-None.ensures.lines
