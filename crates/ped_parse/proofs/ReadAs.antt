-- What is read of the statements of a text, where literals are saturated, is refused as they are, and is what they say where nothing is refused.
use Rattle.std.proofs.Common.{◌≡◌, ℕ, false, List, [], ◌∷◌, map, Option, Some, None, refl, sym, ap, subst, ◌∙◌}
use Rattle.ped_tree.specs.Tree.{ProgramTree}
use Rattle.ped_tree.specs.Grammar.Refusal.{Finding, first_of}
use Rattle.ped_tree.specs.Grammar.Statement.{Statements}
use Rattle.ped_tree.specs.Grammar.Grouping.{statements_of}
use Rattle.ped_tree.specs.Grammar.LineRefusals.{first_line_refusal}
use Rattle.ped_tree.specs.Grammar.Items.{Reading, says, outside_profile, no_form, Entry}
use Rattle.ped_tree.specs.Grammar.Occurrences.{saved_names}
use Rattle.ped_tree.specs.Grammar.Contexts.{Context, at_start, behind, behind_all}
use Rattle.ped_tree.specs.Grammar.ProgramForms.{first_lines}
use Rattle.ped_tree.specs.Grammar.ProgramRefusals.{where_it_says, passes_limit, at_statement, at_statements, at_end, program_refusals}
use Rattle.ped_tree.specs.Grammar.Reading.{AreEntries, IsCutInto, first_program_refusal, Refuses, in_statements, Reads, HasFirstLines}
use Rattle.ped_statements.specs.ped_expressions.specs.ExpressionReading.{saturated}
use Rattle.ped_statements.specs.ped_expressions.proofs.Large.{neither}
use Rattle.ped_statements.specs.Saturated.{reading_with_literals, entry_with_literals}
use Rattle.ped_tree.specs.Grammar.StatementViews.{note_of, statement_of, statements_view}
use Rattle.ped_tree.specs.declared.grammar.statements.Statements as lines
use Rattle.ped_tree.specs.Grammar.ItemViews.{entry_of}
use Rattle.ped_tree.specs.declared.grammar.items.Entry as items
use Rattle.ped_tree.specs.Grammar.RefusalViews.{finding_of, found_of}
use Rattle.ped_tree.specs.declared.grammar.refusals.Refusal.{Refusal}
use Rattle.ped_blocks.specs.Machine.{nothing_built, take_entries, built_program}
use Rattle.ped_blocks.proofs.BlocksFound.{none_stands, left_empty, right_empty, first_none, built_is_read}
use Rattle.ped_parse.specs.Entries.{AreReadAs}
use Rattle.ped_parse.proofs.OtherLiterals.{both}
use Rattle.ped_parse.proofs.LargeItems.{small_same}
use Rattle.ped_parse.proofs.OtherRefusals.{refusals_with}

small_reading : (saved : List (List ℕ)) (c : Context) (rest : List Entry) (r : Reading) → where_it_says (passes_limit saved c rest) r ≡ false → reading_with_literals saturated r ≡ r
small_reading saved c rest (says i) h = ap says (small_same i (neither _ _ (neither _ _ (neither _ _ (neither _ _ h).0).0).0).0)
small_reading saved c rest outside_profile h = refl
small_reading saved c rest no_form h = refl

small_entry : (saved : List (List ℕ)) (c : Context) (e : Entry) (rest : List Entry) → at_statement saved c e rest ≡ [] → entry_with_literals saturated e ≡ e
small_entry saved c e rest h =
    let p = small_reading saved c rest e.reading (none_stands _ _ _ (right_empty _ _ h)) in
    λ j. record { statement = e.statement; reading = p j }

small_entries : (saved : List (List ℕ)) (c : Context) (es : List Entry) → at_statements saved c es ≡ [] → map (entry_with_literals saturated) es ≡ es
small_entries saved c [] h = refl
small_entries saved c (e ∷ es) h =
    both (λ f fs. f ∷ fs) (small_entry saved c e es (left_empty _ _ h)) (small_entries saved (behind c e) es (right_empty (at_statement saved c e es) _ h))

-- where nothing is refused, no literal is saturated
none_saturated : (all : Statements) (es : List Entry) → first_of (program_refusals all es) ≡ None → map (entry_with_literals saturated) es ≡ es
none_saturated all es h = small_entries (saved_names es) at_start es (left_empty _ (at_end (behind_all at_start es) all) (first_none (program_refusals all es) h))

cut : (text : List ℕ) (es : List Entry) → first_line_refusal text ≡ None → AreEntries (statements_of text).statements es → IsCutInto text es
cut text es h r = record { accepted = h; readings = r }

pub refused_as_read : (text : List ℕ) (es : List Entry) (f : Finding) → first_line_refusal text ≡ None → AreReadAs (statements_of text).statements es
    → first_of (program_refusals (statements_of text) es) ≡ Some f → Refuses text f
refused_as_read text es f h r k =
    let plain = r.0 in
    in_statements plain (cut text plain h r.1) (sym (ap first_of (refusals_with (statements_of text) plain)) ∙ ap (λ (fs : List Entry). first_of (program_refusals (statements_of text) fs)) (sym r.2) ∙ k)

-- the plain statements of what was read, where nothing is refused
accepted_plain : (text : List ℕ) (es : List Entry) → (r : AreReadAs (statements_of text).statements es) → first_of (program_refusals (statements_of text) es) ≡ None → first_program_refusal text r.0 ≡ None
accepted_plain text es r k = sym (ap first_of (refusals_with (statements_of text) r.0)) ∙ ap (λ (fs : List Entry). first_of (program_refusals (statements_of text) fs)) (sym r.2) ∙ k

same_entries : (text : List ℕ) (es : List Entry) → (r : AreReadAs (statements_of text).statements es) → first_of (program_refusals (statements_of text) es) ≡ None → es ≡ r.0
same_entries text es r k = r.2 ∙ none_saturated (statements_of text) r.0 (accepted_plain text es r k)

pub tree_as_read : (text : List ℕ) (es : List Entry) → first_line_refusal text ≡ None → AreReadAs (statements_of text).statements es
    → first_of (program_refusals (statements_of text) es) ≡ None → Reads text (built_program (take_entries (saved_names es) nothing_built es))
tree_as_read text es h r k =
    let same = same_entries text es r k in
    let plain = r.0 in
    subst (λ (fs : List Entry). Reads text (built_program (take_entries (saved_names fs) nothing_built fs))) (sym same) (built_is_read text plain (cut text plain h r.1) (accepted_plain text es r k))

pub lines_as_read : (text : List ℕ) (es : List Entry) → first_line_refusal text ≡ None → AreReadAs (statements_of text).statements es
    → first_of (program_refusals (statements_of text) es) ≡ None → HasFirstLines text (first_lines (saved_names es) es)
lines_as_read text es h r k =
    let same = same_entries text es r k in
    let plain = r.0 in
    record { entries = plain; cut = cut text plain h r.1; counted = ap (λ (fs : List Entry). first_lines (saved_names fs) fs) (sym same) }

-- the same of what the code reads, refuses and builds

pub refused_here : (cut : lines.Statements) (es : List items.Entry) (found : Option Refusal) (f : Refusal)
    → AreReadAs (map statement_of cut.statements) (map entry_of es)
    → ((all : Statements) → all.lines ≡ cut.lines → all.directives ≡ map note_of cut.directives → found_of found ≡ first_of (program_refusals all (map entry_of es)))
    → found ≡ Some f → (text : List ℕ) → first_line_refusal text ≡ None → statements_view cut ≡ statements_of text → Refuses text (finding_of f)
refused_here cut es found f r h k text l same =
    let read = subst (λ (s : Statements). AreReadAs s.statements (map entry_of es)) same r in
    let first = subst (λ (s : Statements). found_of found ≡ first_of (program_refusals s (map entry_of es))) same (h (statements_view cut) refl refl) in
    refused_as_read text (map entry_of es) (finding_of f) l read (sym first ∙ ap found_of k)

none_here : (cut : lines.Statements) (es : List items.Entry) (found : Option Refusal)
    → ((all : Statements) → all.lines ≡ cut.lines → all.directives ≡ map note_of cut.directives → found_of found ≡ first_of (program_refusals all (map entry_of es)))
    → found ≡ None → (text : List ℕ) → statements_view cut ≡ statements_of text → first_of (program_refusals (statements_of text) (map entry_of es)) ≡ None
none_here cut es found h k text same =
    let first = subst (λ (s : Statements). found_of found ≡ first_of (program_refusals s (map entry_of es))) same (h (statements_view cut) refl refl) in
    sym first ∙ ap found_of k

pub tree_here : (cut : lines.Statements) (es : List items.Entry) (found : Option Refusal) (saved : List (List ℕ)) (tree : ProgramTree)
    → AreReadAs (map statement_of cut.statements) (map entry_of es)
    → ((all : Statements) → all.lines ≡ cut.lines → all.directives ≡ map note_of cut.directives → found_of found ≡ first_of (program_refusals all (map entry_of es)))
    → found ≡ None → saved ≡ saved_names (map entry_of es) → tree ≡ built_program (take_entries saved nothing_built (map entry_of es))
    → (text : List ℕ) → first_line_refusal text ≡ None → statements_view cut ≡ statements_of text → Reads text tree
tree_here cut es found saved tree r h k names built text l same =
    let read = subst (λ (s : Statements). AreReadAs s.statements (map entry_of es)) same r in
    let whole = tree_as_read text (map entry_of es) l read (none_here cut es found h k text same) in
    subst (λ (t : ProgramTree). Reads text t) (sym (built ∙ ap (λ (xs : List (List ℕ)). built_program (take_entries xs nothing_built (map entry_of es))) names)) whole

pub lines_here : (cut : lines.Statements) (es : List items.Entry) (found : Option Refusal) (saved : List (List ℕ)) (numbers : List ℕ)
    → AreReadAs (map statement_of cut.statements) (map entry_of es)
    → ((all : Statements) → all.lines ≡ cut.lines → all.directives ≡ map note_of cut.directives → found_of found ≡ first_of (program_refusals all (map entry_of es)))
    → found ≡ None → saved ≡ saved_names (map entry_of es) → numbers ≡ first_lines saved (map entry_of es)
    → (text : List ℕ) → first_line_refusal text ≡ None → statements_view cut ≡ statements_of text → HasFirstLines text numbers
lines_here cut es found saved numbers r h k names counted text l same =
    let read = subst (λ (s : Statements). AreReadAs s.statements (map entry_of es)) same r in
    let whole = lines_as_read text (map entry_of es) l read (none_here cut es found h k text same) in
    subst (λ (ns : List ℕ). HasFirstLines text ns) (sym (counted ∙ ap (λ (xs : List (List ℕ)). first_lines xs (map entry_of es)) names)) whole
