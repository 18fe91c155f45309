use Rattle.std.proofs.Common.{List, map, refl, sym, ap, subst}
use Rattle.ped_tree.specs.Grammar.StatementViews.{note_of, statement_of, statements_view}
use Rattle.ped_tree.specs.declared.grammar.statements.Statement as lines
use Rattle.ped_tree.specs.declared.grammar.statements.NoteLine.{NoteLine}
use Rattle.ped_units.specs.Reading.{segments_of}
use Rattle.ped_units.specs.Seeing.{AreItemsReadAs, AreReadUnits}
use Rattle.ped_units.specs.Views.{unit_entry_of}
use Rattle.ped_units.specs.declared.reading.ReadUnit.{ReadUnit}
use Rattle.ped_units.proofs.Read.{refused_units_here, units_here}
use Rattle.ped_units.proofs.reading.nested.Goals as goal

pub returns-in-Some-clause-refused : goal.returns-in-Some-clause-refused
returns-in-Some-clause-refused c text l same =
    let es = map unit_entry_of c.in_ok-entries.entries.items in
    let all = statements_view c.args.cut in
    c.at.ensures.refuses text (refused_units_here c.args.cut es c.first_of_all.result c.in-Some.refusal
    (subst (λ (ss : List lines.Statement). AreItemsReadAs (map statement_of ss) es) c.into_vec.ensures c.in_ok-entries.ensures)
    (c.first_of_all.ensures all (segments_of es) (subst (λ (us : List ReadUnit). AreReadUnits all (segments_of es) us) (sym c.deref.ensures.value) (c.in_ok-units.ensures all refl (ap (λ (ns : List NoteLine). map note_of ns) (sym c.as_slice.ensures)))))
    c.in-Some.is text l same)

pub returns-clause-units : goal.returns-clause-units
returns-clause-units c =
    let es = map unit_entry_of c.in_ok-entries.entries.items in
    let all = statements_view c.args.cut in
    let read = c.in_ok-units.ensures all refl (ap (λ (ns : List NoteLine). map note_of ns) (sym c.as_slice.ensures)) in
    units_here c.args.cut es c.first_of_all.result c.in_ok-built-in-None.field-0.items
    (subst (λ (ss : List lines.Statement). AreItemsReadAs (map statement_of ss) es) c.into_vec.ensures c.in_ok-entries.ensures)
    (c.first_of_all.ensures all (segments_of es) (subst (λ (us : List ReadUnit). AreReadUnits all (segments_of es) us) (sym c.deref.ensures.value) read))
    c.in-None.is (c.in_ok-built-in-None.ensures all (segments_of es) read)
