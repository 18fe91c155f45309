-- What is refused at units doesn't depend on how large a literal is that is too large, and where nothing is refused none is.
use Rattle.std.proofs.Common.{◌≡◌, ℕ, List, [], ◌∷◌, ◌++◌, map, length, Bool, true, false, cond, Option, Some, None, refl, sym, ap, ◌∙◌}
use Rattle.std.specs.Prelude.{◌||◌, ◌&&◌, nat_lt}
use Rattle.ped_tree.specs.declared.conditions.Relation.TheVariants.{Eq}
use Rattle.ped_tree.specs.declared.expressions.Intrinsic.TheVariants.{Max}
use Rattle.ped_tree.specs.Tree.{ExprTree, ExprTrees, Int, Var, Sub, Call, no_exprs, Rel, StmtTree, Assign, no_stmts, more_stmts, DeclTree, Program, Implicit, Integer, Dimension, Parameter, Save, Remark}
use Rattle.ped_tree.specs.NamesIn.{exprs_names}
use Rattle.ped_tree.specs.Grammar.LimitNumbers.{most_characters}
use Rattle.ped_tree.specs.Grammar.Literals.{have_large_literal}
use Rattle.ped_tree.specs.Grammar.Refusal.{refused_if, Syntax, StopPlace, Limit}
use Rattle.ped_tree.specs.Grammar.Statement.{Statements}
use Rattle.ped_tree.specs.Grammar.Items.{Item, declares, saves_all, does, continues, logical_if, block_if, else_if, else_line, end_if, begins_do, ends_do, keeps_private, ends_program, Reading, says, outside_profile, no_form}
use Rattle.ped_tree.specs.Grammar.Occurrences.{is_end_entry}
use Rattle.ped_tree.specs.Grammar.ProgramRefusals.{stops, program_refusals}
use Rattle.ped_expressions.specs.ExpressionReading.{saturated, with_literals, all_with_literals}
use Rattle.ped_expressions.specs.ConditionReading.{cond_with_literals}
use Rattle.ped_expressions.proofs.Large.{cond_large_saturated}
use Rattle.ped_valid.specs.ped_parse.specs.ped_statements.specs.Saturated as plain_entries
use Rattle.ped_valid.specs.ped_parse.specs.ped_statements.specs.Saturated.{reading_with_literals}
use Rattle.ped_valid.specs.ped_parse.proofs.OtherLiterals.{names_with, is_end_with, stops_with, flat_with}
use Rattle.ped_valid.specs.ped_parse.proofs.LargeItems.{small_same}
use Rattle.ped_valid.specs.ped_parse.proofs.OtherRefusals.{refusals_with}
use Rattle.ped_units.specs.Forms.{Called, UnitItem, plain, calls, calls_if, begins_unit, returns}
use Rattle.ped_units.specs.Reading.{UnitEntry, Segment, ends, begins, own_entries, further_segments, segments_of, is_end_next, as_reading, as_entries, is_subroutine, minus_names, difference_of, stand_in, seen_entries}
use Rattle.ped_units.specs.Refusals.{call_in, call_passes_limit, is_main_declaration, is_of_main, where_plain, at_all_directives, at_subroutine_entry, at_call, at_head, other_refusals, segment_refusals, before_another, segments_refusals, call_text}
use Rattle.ped_units.specs.UnitReading.{called_with_literals, item_with_literals}
use Rattle.ped_units.specs.Seeing.{entry_with_literals}

-- arguments

names_same : (es : ExprTrees) → exprs_names (all_with_literals saturated es) ≡ exprs_names es
names_same es = names_with saturated (does (Assign (Int 0) (Call Max es)))

large_same : (es : ExprTrees) → have_large_literal (all_with_literals saturated es) ≡ have_large_literal es
large_same es = cond_large_saturated (Rel Eq (Int 0) (Call Max es))

right_arguments : ExprTree → ExprTrees
right_arguments (Call f es) = es
right_arguments e = no_exprs

statement_arguments : StmtTree → ExprTrees
statement_arguments (Assign left right) = right_arguments right
statement_arguments s = no_exprs

item_arguments : Item → ExprTrees
item_arguments (does s) = statement_arguments s
item_arguments i = no_exprs

small_arguments : (es : ExprTrees) → have_large_literal es ≡ false → all_with_literals saturated es ≡ es
unfolding item_arguments statement_arguments right_arguments
small_arguments es h = ap item_arguments (small_same (does (Assign (Int 0) (Call Max es))) h)

pub small_called : (c : Called) → have_large_literal c.arguments ≡ false → called_with_literals saturated c ≡ c
small_called c h = λ i. record { name = c.name; arguments = small_arguments c.arguments h i }

-- something plain in the place of a CALL

minus_with : (e : ExprTree) (xs : List (List ℕ)) → with_literals saturated (minus_names e xs) ≡ minus_names (with_literals saturated e) xs
minus_with e [] = refl
minus_with e (x ∷ xs) = minus_with (Sub e (Var x)) xs

difference_with : (xs : List (List ℕ)) → with_literals saturated (difference_of xs) ≡ difference_of xs
difference_with [] = refl
difference_with (x ∷ xs) = minus_with (Var x) xs

stand_in_with : (c : Called) → stand_in (called_with_literals saturated c) ≡ plain_entries.stmt_with_literals saturated (stand_in c)
stand_in_with c = ap (λ (xs : List (List ℕ)). Assign (Int 0) (difference_of xs)) (names_same c.arguments) ∙ ap (Assign (Int 0)) (sym (difference_with (exprs_names c.arguments)))

return_with : (b : Bool) → cond b (says continues) outside_profile ≡ reading_with_literals saturated (cond b (says continues) outside_profile)
return_with true = refl
return_with false = refl

reading_with : (in_subroutine before_end : Bool) (i : UnitItem) → as_reading stand_in in_subroutine before_end (item_with_literals saturated i) ≡ reading_with_literals saturated (as_reading stand_in in_subroutine before_end i)
reading_with in_subroutine before_end (plain r) = refl
reading_with in_subroutine before_end (calls c) = ap (λ (s : StmtTree). says (does s)) (stand_in_with c)
reading_with in_subroutine before_end (calls_if e c) = ap (λ (s : StmtTree). says (logical_if (cond_with_literals saturated e) (more_stmts s no_stmts))) (stand_in_with c)
reading_with in_subroutine before_end (begins_unit x formals) = refl
reading_with in_subroutine before_end returns = return_with (in_subroutine && before_end)

end_reading : (r : Reading) → is_end_entry (reading_with_literals saturated r) ≡ is_end_entry r
end_reading (says i) = is_end_with saturated i
end_reading outside_profile = refl
end_reading no_form = refl

ends_with : (i : UnitItem) → ends (item_with_literals saturated i) ≡ ends i
ends_with (plain r) = end_reading r
ends_with (calls c) = refl
ends_with (calls_if e c) = refl
ends_with (begins_unit x formals) = refl
ends_with returns = refl

begins_with : (i : UnitItem) → begins (item_with_literals saturated i) ≡ begins i
begins_with (plain r) = refl
begins_with (calls c) = refl
begins_with (calls_if e c) = refl
begins_with (begins_unit x formals) = refl
begins_with returns = refl

abbrev saturated_entries : List UnitEntry → List UnitEntry
saturated_entries es = map (entry_with_literals saturated) es

next_with : (es : List UnitEntry) → is_end_next (saturated_entries es) ≡ is_end_next es
next_with [] = refl
next_with (e ∷ es) = ends_with e.item

seen_with : (in_subroutine : Bool) (es : List UnitEntry) → as_entries stand_in in_subroutine (saturated_entries es) ≡ map (plain_entries.entry_with_literals saturated) (as_entries stand_in in_subroutine es)
seen_with in_subroutine [] = refl
seen_with in_subroutine (e ∷ es) =
    let p : as_reading stand_in in_subroutine (is_end_next (map (entry_with_literals saturated) es)) (item_with_literals saturated e.item) ≡ reading_with_literals saturated (as_reading stand_in in_subroutine (is_end_next es) e.item) =
    ap (λ (b : Bool). as_reading stand_in in_subroutine b (item_with_literals saturated e.item)) (next_with es) ∙ reading_with in_subroutine (is_end_next es) e.item in
    λ i. record { statement = e.statement; reading = p i } ∷ seen_with in_subroutine es i

-- units

abbrev pub head_with : Option UnitEntry → Option UnitEntry
head_with None = None
head_with (Some e) = Some (entry_with_literals saturated e)

abbrev pub segment_with : Segment → Segment
segment_with s = record { head = head_with s.head; entries = saturated_entries s.entries }

pushed : (b : Bool) (e : UnitEntry) (rest : List UnitEntry) → cond b [] (entry_with_literals saturated e ∷ map (entry_with_literals saturated) rest) ≡ map (entry_with_literals saturated) (cond b [] (e ∷ rest))
pushed true e rest = refl
pushed false e rest = refl

own_with : (ended : Bool) (es : List UnitEntry) → own_entries ended (saturated_entries es) ≡ saturated_entries (own_entries ended es)
own_with ended [] = refl
own_with ended (e ∷ es) =
    let tail : own_entries (ended || ends (item_with_literals saturated e.item)) (map (entry_with_literals saturated) es) ≡ map (entry_with_literals saturated) (own_entries (ended || ends e.item) es) =
    ap (λ (b : Bool). own_entries (ended || b) (map (entry_with_literals saturated) es)) (ends_with e.item) ∙ own_with (ended || ends e.item) es in
    (λ i. cond (ended && begins_with e.item i) [] (entry_with_literals saturated e ∷ tail i)) ∙ pushed (ended && begins e.item) e (own_entries (ended || ends e.item) es)

chosen_with : (b : Bool) (s : Segment) (rest others : List Segment) → cond b (segment_with s ∷ map segment_with rest) (map segment_with others) ≡ map segment_with (cond b (s ∷ rest) others)
chosen_with true s rest others = refl
chosen_with false s rest others = refl

further_with : (ended : Bool) (es : List UnitEntry) → further_segments ended (saturated_entries es) ≡ map segment_with (further_segments ended es)
further_with ended [] = refl
further_with ended (e ∷ es) =
    let here : record { head = Some (entry_with_literals saturated e); entries = own_entries false (map (entry_with_literals saturated) es) } ≡ segment_with (record { head = Some e; entries = own_entries false es }) =
    λ i. record { head = Some (entry_with_literals saturated e); entries = own_with false es i } in
    let tail : further_segments (ended || ends (item_with_literals saturated e.item)) (map (entry_with_literals saturated) es) ≡ map segment_with (further_segments (ended || ends e.item) es) =
    ap (λ (b : Bool). further_segments (ended || b) (map (entry_with_literals saturated) es)) (ends_with e.item) ∙ further_with (ended || ends e.item) es in
    (λ i. cond (ended && begins_with e.item i) (here i ∷ further_with false es i) (tail i)) ∙ chosen_with (ended && begins e.item) (record { head = Some e; entries = own_entries false es }) (further_segments false es) (further_segments (ended || ends e.item) es)

pub segments_with : (es : List UnitEntry) → segments_of (map (entry_with_literals saturated) es) ≡ map segment_with (segments_of es)
segments_with es = λ i. record { head = None; entries = own_with false es i } ∷ further_with false es i

-- refusals

limit_by : (c : Called) (b : Bool) → have_large_literal c.arguments ≡ b → call_passes_limit (Some (called_with_literals saturated c)) ≡ call_passes_limit (Some c)
limit_by c true h =
    ap (λ (b : Bool). b || nat_lt most_characters (length (call_text (called_with_literals saturated c)))) (large_same c.arguments ∙ h)
    ∙ sym (ap (λ (b : Bool). b || nat_lt most_characters (length (call_text c))) h)
limit_by c false h = ap (λ (d : Called). call_passes_limit (Some d)) (small_called c h)

limit_with : (c : Called) → call_passes_limit (Some (called_with_literals saturated c)) ≡ call_passes_limit (Some c)
limit_with c = limit_by c (have_large_literal c.arguments) refl

call_in_with : (i : UnitItem) → call_passes_limit (call_in (item_with_literals saturated i)) ≡ call_passes_limit (call_in i)
call_in_with (plain r) = refl
call_in_with (calls c) = limit_with c
call_in_with (calls_if e c) = limit_with c
call_in_with (begins_unit x formals) = refl
call_in_with returns = refl

where_plain_with : (test : Item → Bool) → ((i : Item) → test (plain_entries.says_with_literals saturated i) ≡ test i) → (i : UnitItem) → where_plain test (item_with_literals saturated i) ≡ where_plain test i
where_plain_with test h (plain (says i)) = h i
where_plain_with test h (plain outside_profile) = refl
where_plain_with test h (plain no_form) = refl
where_plain_with test h (calls c) = refl
where_plain_with test h (calls_if e c) = refl
where_plain_with test h (begins_unit x formals) = refl
where_plain_with test h returns = refl

main_declaration_with : (d : DeclTree) → is_main_declaration (plain_entries.decl_with_literals saturated d) ≡ is_main_declaration d
main_declaration_with (Program x) = refl
main_declaration_with Implicit = refl
main_declaration_with (Integer ds) = refl
main_declaration_with (Dimension ds) = refl
main_declaration_with (Parameter values) = refl
main_declaration_with (Save names) = refl
main_declaration_with (Remark text) = refl

main_with : (i : Item) → is_of_main (plain_entries.says_with_literals saturated i) ≡ is_of_main i
main_with (declares d) = main_declaration_with d
main_with saves_all = refl
main_with (does s) = refl
main_with continues = refl
main_with (logical_if e s) = refl
main_with (block_if e) = refl
main_with (else_if e) = refl
main_with else_line = refl
main_with end_if = refl
main_with (begins_do l h) = refl
main_with ends_do = refl
main_with (keeps_private names) = refl
main_with ends_program = refl

at_entry_with : (e : UnitEntry) → at_subroutine_entry (entry_with_literals saturated e) ≡ at_subroutine_entry e
at_entry_with e = λ i.
    at_all_directives e.statement
    ++ refused_if (where_plain_with is_of_main main_with e.item i) Syntax e.statement.line
    ++ refused_if (where_plain_with stops (stops_with saturated) e.item i) StopPlace e.statement.line

at_call_with : (e : UnitEntry) → at_call (entry_with_literals saturated e) ≡ at_call e
at_call_with e = λ i. refused_if (call_in_with e.item i) Limit e.statement.line

pub subroutine_with : (head : Option UnitEntry) → is_subroutine (head_with head) ≡ is_subroutine head
subroutine_with None = refl
subroutine_with (Some e) = refl

at_head_with : (head : Option UnitEntry) → at_head (head_with head) ≡ at_head head
at_head_with None = refl
at_head_with (Some e) = refl

others_with : (s : Segment) → other_refusals (segment_with s) ≡ other_refusals s
others_with s = λ i.
    flat_with at_call (entry_with_literals saturated) at_call_with s.entries i
    ++ (cond (subroutine_with s.head i) (at_head_with s.head i ++ flat_with at_subroutine_entry (entry_with_literals saturated) at_entry_with s.entries i) [])

pub seen_segment_with : (s : Segment) → seen_entries (segment_with s) ≡ map (plain_entries.entry_with_literals saturated) (seen_entries s)
seen_segment_with s = ap (λ (b : Bool). as_entries stand_in b (saturated_entries s.entries)) (subroutine_with s.head) ∙ seen_with (is_subroutine s.head) s.entries

segment_refusals_with : (all : Statements) (s : Segment) → segment_refusals all (segment_with s) ≡ segment_refusals all s
segment_refusals_with all s = λ i. others_with s i ++ (ap (program_refusals all) (seen_segment_with s) ∙ refusals_with all (seen_entries s)) i

-- what is refused at units is what is refused at them as they are written
pub segments_refusals_with : (all : Statements) (ss : List Segment) → segments_refusals all (map segment_with ss) ≡ segments_refusals all ss
segments_refusals_with all [] = refl
segments_refusals_with all (s ∷ []) = segment_refusals_with all s
segments_refusals_with all (s ∷ t ∷ rest) = λ i. segment_refusals_with (before_another all) s i ++ segments_refusals_with all (t ∷ rest) i
