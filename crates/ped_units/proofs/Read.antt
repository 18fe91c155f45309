-- What is read of the statements of a file, where literals are saturated, is refused as they are, and is what they say where nothing is refused.
use Rattle.std.proofs.Common.{◌≡◌, ℕ, List, [], ◌∷◌, ◌++◌, map, Bool, false, Option, Some, None, refl, sym, ap, subst, ◌∙◌}
use Rattle.std.specs.List.{flat_map, list_any}
use Rattle.ped_tree.specs.Tree.{more_stmts, no_stmts}
use Rattle.ped_tree.specs.Grammar.Refusal.{Finding, first_of}
use Rattle.ped_tree.specs.Grammar.Statement.{Statements}
use Rattle.ped_tree.specs.Grammar.Items.{Item, says, outside_profile, no_form, logical_if, Entry}
use Rattle.ped_tree.specs.Grammar.Contexts.{Context, at_start, behind, behind_all}
use Rattle.ped_tree.specs.Grammar.Literals.{stmt_has_large_literal}
use Rattle.ped_tree.specs.Grammar.Grouping.{statements_of}
use Rattle.ped_tree.specs.Grammar.LineRefusals.{first_line_refusal}
use Rattle.ped_tree.specs.Grammar.Occurrences.{saved_names}
use Rattle.ped_tree.specs.Grammar.ProgramForms.{first_lines}
use Rattle.ped_tree.specs.Grammar.ProgramRefusals.{listed_stmts, where_it_says, is_too_large, passes_limit, at_statement, at_statements, at_end, program_refusals}
use Rattle.ped_valid.specs.ped_parse.specs.ped_blocks.specs.Machine.{nothing_built, take_entries, built_program}
use Rattle.ped_valid.specs.ped_parse.specs.ped_blocks.proofs.BlocksFound.{none_stands, left_empty, right_empty, first_none}
use Rattle.ped_expressions.specs.ExpressionReading.{saturated}
use Rattle.ped_expressions.proofs.Large.{neither, cond_small_saturated}
use Rattle.ped_valid.specs.ped_parse.proofs.LargeItems.{small_same}
use Rattle.ped_tree.specs.Grammar.RefusalViews.{finding_of, found_of}
use Rattle.ped_tree.specs.Grammar.StatementViews.{statement_of, statements_view}
use Rattle.ped_tree.specs.declared.grammar.refusals.Refusal.{Refusal}
use Rattle.ped_tree.specs.declared.grammar.statements.Statements as lines
use Rattle.ped_units.specs.Forms.{UnitItem, plain, calls, calls_if, begins_unit, returns}
use Rattle.ped_units.specs.Units as units
use Rattle.ped_units.specs.Units.{ProgramUnits, all_units, call_statement}
use Rattle.ped_units.specs.Reading.{UnitEntry, AreUnitEntries, IsCutIntoUnits, Segment, segments_of, is_end_next, as_reading, as_entries, is_subroutine, stand_in, seen_entries, kept_entries, name_in, formals_in, IsHeaded, IsUnitOf, AreUnitsOf}
use Rattle.ped_units.specs.Refusals.{call_in, call_passes_limit, at_call, other_refusals, segment_refusals, before_another, segments_refusals, first_segments_refusal, ReadsUnits}
use Rattle.ped_units.specs.UnitReading.{item_with_literals}
use Rattle.ped_units.specs.Views.{program_unit_of}
use Rattle.ped_units.specs.Seeing.{entry_with_literals, AreItemsReadAs, IsBuiltOf, AreBuiltOf}
use Rattle.ped_units.specs.Verdicts.{RefusesUnits, in_statements, found_in_text}
use Rattle.ped_units.specs.declared.units.ProgramUnit.{ProgramUnit}
use Rattle.ped_units.proofs.Nested.{unit_built}
use Rattle.ped_units.proofs.Saturating.{small_called, head_with, segment_with, segments_with, subroutine_with, segments_refusals_with}

-- where no limit is passed, nothing is saturated

not_large : (saved : List (List ℕ)) (c : Context) (rest : List Entry) (i : Item) → passes_limit saved c rest i ≡ false → is_too_large i ≡ false
not_large saved c rest i h = (neither _ _ (neither _ _ (neither _ _ (neither _ _ h).0).0).0).0

small_item : (saved : List (List ℕ)) (c : Context) (rest : List Entry) (in_subroutine before_end : Bool) (i : UnitItem)
    → where_it_says (passes_limit saved c rest) (as_reading stand_in in_subroutine before_end i) ≡ false → call_passes_limit (call_in i) ≡ false → item_with_literals saturated i ≡ i
small_item saved c rest in_subroutine before_end (plain (says i)) h k = ap (λ (j : Item). plain (says j)) (small_same i (not_large saved c rest i h))
small_item saved c rest in_subroutine before_end (plain outside_profile) h k = refl
small_item saved c rest in_subroutine before_end (plain no_form) h k = refl
small_item saved c rest in_subroutine before_end (calls d) h k = ap calls (small_called d (neither _ _ k).0)
small_item saved c rest in_subroutine before_end (calls_if e d) h k =
    let condition = cond_small_saturated e (neither _ (list_any stmt_has_large_literal (listed_stmts (more_stmts (stand_in d) no_stmts))) (not_large saved c rest (logical_if e (more_stmts (stand_in d) no_stmts)) h)).0 in
    let call = small_called d (neither _ _ k).0 in
    λ j. calls_if (condition j) (call j)
small_item saved c rest in_subroutine before_end (begins_unit x formals) h k = refl
small_item saved c rest in_subroutine before_end returns h k = refl

small_entries : (saved : List (List ℕ)) (c : Context) (in_subroutine : Bool) (es : List UnitEntry) → at_statements saved c (as_entries stand_in in_subroutine es) ≡ [] → flat_map at_call es ≡ [] → map (entry_with_literals saturated) es ≡ es
small_entries saved c in_subroutine [] h k = refl
small_entries saved c in_subroutine (e ∷ es) h k =
    let here = as_reading stand_in in_subroutine (is_end_next es) e.item in
    let first : Entry = record { statement = e.statement; reading = here } in
    let rest = as_entries stand_in in_subroutine es in
    let limit = none_stands _ _ _ (right_empty _ _ (left_empty (at_statement saved c first rest) _ h)) in
    let call = none_stands _ _ _ (left_empty (at_call e) (flat_map at_call es) k) in
    let p = small_item saved c rest in_subroutine (is_end_next es) e.item limit call in
    let more = small_entries saved (behind c first) in_subroutine es (right_empty (at_statement saved c first rest) _ h) (right_empty (at_call e) (flat_map at_call es) k) in
    λ i. record { statement = e.statement; item = p i } ∷ more i

small_segment : (all : Statements) (s : Segment) → segment_refusals all s ≡ [] → map (entry_with_literals saturated) s.entries ≡ s.entries
small_segment all s h =
    let others = left_empty (other_refusals s) _ h in
    let program = right_empty (other_refusals s) (program_refusals all (seen_entries s)) h in
    small_entries (saved_names (seen_entries s)) at_start (is_subroutine s.head) s.entries (left_empty _ (at_end (behind_all at_start (seen_entries s)) all) program) (left_empty (flat_map at_call s.entries) _ others)

-- a unit that was built of statements at which nothing is refused is theirs

name_with : (i : UnitItem) → name_in (item_with_literals saturated i) ≡ name_in i
name_with (plain r) = refl
name_with (calls c) = refl
name_with (calls_if e c) = refl
name_with (begins_unit x formals) = refl
name_with returns = refl

formals_with : (i : UnitItem) → formals_in (item_with_literals saturated i) ≡ formals_in i
formals_with (plain r) = refl
formals_with (calls c) = refl
formals_with (calls_if e c) = refl
formals_with (begins_unit x formals) = refl
formals_with returns = refl

headed_as_written : (head : Option UnitEntry) (u : units.ProgramUnit) → IsHeaded (head_with head) u → IsHeaded head u
headed_as_written None u h = h
headed_as_written (Some e) u h = (h.0 ∙ name_with e.item, h.1 ∙ formals_with e.item, h.2)

none_of_both : (xs ys : List Finding) → xs ++ ys ≡ [] → first_of ys ≡ None
none_of_both xs ys h = ap first_of (right_empty xs ys h)

pub built_as_written : (all : Statements) (s : Segment) (u : ProgramUnit) → segment_refusals all s ≡ [] → IsBuiltOf (segment_with s) u → IsUnitOf s (program_unit_of u)
built_as_written all s u h b =
    let same = small_segment all s h in
    let kept : kept_entries (segment_with s) ≡ kept_entries s = λ i. as_entries call_statement (subroutine_with s.head i) (same i) in
    let seen : seen_entries (segment_with s) ≡ seen_entries s = λ i. as_entries stand_in (subroutine_with s.head i) (same i) in
    unit_built all s (program_unit_of u) (none_of_both (other_refusals s) (program_refusals all (seen_entries s)) h) (headed_as_written s.head (program_unit_of u) b.headed)
    (b.tree ∙ (λ i. built_program (take_entries (saved_names (seen i)) nothing_built (kept i))))
    (b.lines ∙ (λ i. first_lines (saved_names (seen i)) (kept i)))

all_as_written : (all : Statements) (ss : List Segment) (us : List ProgramUnit) → segments_refusals all ss ≡ [] → AreBuiltOf (map segment_with ss) us → AreUnitsOf ss (map program_unit_of us)
all_as_written all [] [] h b = tt
all_as_written all [] (u ∷ us) h b = absurd b
all_as_written all (s ∷ ss) [] h b = absurd b
all_as_written all (s ∷ []) (u ∷ us) h b = (built_as_written all s u h b.0, all_as_written all [] us refl b.1)
all_as_written all (s ∷ t ∷ ss) (u ∷ us) h b = (
  built_as_written (before_another all) s u (left_empty (segment_refusals (before_another all) s) (segments_refusals all (t ∷ ss)) h) b.0,
  all_as_written all (t ∷ ss) us (right_empty (segment_refusals (before_another all) s) (segments_refusals all (t ∷ ss)) h) b.1,
)

-- the units that a text reads as, in a list
pub record UnitsRead (text : List ℕ) (us : List ProgramUnit) : Type 0 where
  pub units : ProgramUnits
  pub reads : ReadsUnits text units
  pub are : map program_unit_of us ≡ all_units units

cut : (text : List ℕ) (es : List UnitEntry) → first_line_refusal text ≡ None → AreUnitEntries (statements_of text).statements es → IsCutIntoUnits text es
cut text es h r = record { accepted = h; items = r }

with_units : (text : List ℕ) (es : List UnitEntry) (us : List ProgramUnit) → IsCutIntoUnits text es → first_segments_refusal text es ≡ None → AreUnitsOf (segments_of es) (map program_unit_of us) → UnitsRead text us
with_units text es [] c h are = absurd are
with_units text es (u ∷ us) c h are = record {
  units = record { main = program_unit_of u; others = map program_unit_of us };
  reads = record { entries = es; cut = c; accepted = h; are = are };
  are = refl;
}

-- what was read is refused as the text is
pub refused_as_written : (text : List ℕ) (es : List UnitEntry) (f : Finding) → first_line_refusal text ≡ None → AreItemsReadAs (statements_of text).statements es
    → first_of (segments_refusals (statements_of text) (segments_of es)) ≡ Some f → RefusesUnits text (found_in_text f)
refused_as_written text es f h r k =
    let plain_es = r.0 in
    let all = statements_of text in
    let same : segments_refusals all (segments_of es) ≡ segments_refusals all (segments_of plain_es) =
    ap (λ (x : List UnitEntry). segments_refusals all (segments_of x)) r.2 ∙ ap (segments_refusals all) (segments_with plain_es) ∙ segments_refusals_with all (segments_of plain_es) in
    in_statements f refl plain_es (cut text plain_es h r.1) (sym (ap first_of same) ∙ k)

-- where nothing is refused, what was built are the units that the text reads as
pub units_as_written : (text : List ℕ) (es : List UnitEntry) (us : List ProgramUnit) → first_line_refusal text ≡ None → AreItemsReadAs (statements_of text).statements es
    → first_of (segments_refusals (statements_of text) (segments_of es)) ≡ None → AreBuiltOf (segments_of es) us → UnitsRead text us
units_as_written text es us h r k b =
    let plain_es = r.0 in
    let all = statements_of text in
    let segments : segments_of es ≡ map segment_with (segments_of plain_es) = ap segments_of r.2 ∙ segments_with plain_es in
    let none : first_segments_refusal text plain_es ≡ None = sym (ap first_of (ap (segments_refusals all) segments ∙ segments_refusals_with all (segments_of plain_es))) ∙ k in
    with_units text plain_es us (cut text plain_es h r.1) none
    (all_as_written all (segments_of plain_es) us (first_none (segments_refusals all (segments_of plain_es)) none) (subst (λ (ss : List Segment). AreBuiltOf ss us) segments b))

-- the same of what the code reads

pub refused_units_here : (cut : lines.Statements) (es : List UnitEntry) (found : Option Refusal) (f : Refusal) → AreItemsReadAs (map statement_of cut.statements) es
    → found_of found ≡ first_of (segments_refusals (statements_view cut) (segments_of es)) → found ≡ Some f
    → (text : List ℕ) → first_line_refusal text ≡ None → statements_view cut ≡ statements_of text → RefusesUnits text (found_in_text (finding_of f))
refused_units_here cut es found f r h k text l same =
    let read = subst (λ (s : Statements). AreItemsReadAs s.statements es) same r in
    let first = subst (λ (s : Statements). found_of found ≡ first_of (segments_refusals s (segments_of es))) same h in
    refused_as_written text es (finding_of f) l read (sym first ∙ ap found_of k)

pub units_here : (cut : lines.Statements) (es : List UnitEntry) (found : Option Refusal) (us : List ProgramUnit) → AreItemsReadAs (map statement_of cut.statements) es
    → found_of found ≡ first_of (segments_refusals (statements_view cut) (segments_of es)) → found ≡ None → AreBuiltOf (segments_of es) us
    → (text : List ℕ) → first_line_refusal text ≡ None → statements_view cut ≡ statements_of text → (units : ProgramUnits) × ReadsUnits text units × (map program_unit_of us ≡ all_units units)
units_here cut es found us r h k b text l same =
    let read = subst (λ (s : Statements). AreItemsReadAs s.statements es) same r in
    let first = subst (λ (s : Statements). found_of found ≡ first_of (segments_refusals s (segments_of es))) same h in
    let all = units_as_written text es us l read (sym first ∙ ap found_of k) b in
    (all.units, all.reads, all.are)
