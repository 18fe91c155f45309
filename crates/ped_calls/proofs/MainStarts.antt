-- The main program of a file: no comment stands before its first statement, and without CALLs it is valid where its names are right.
use Rattle.std.proofs.Common.{◌≡◌, ◌+◌, ℕ, List, [], ◌∷◌, ◌++◌, map, Bool, true, false, None, refl, sym, ap, subst, ◌∙◌, arith, append_assoc, append-nil}
use Rattle.std.specs.Prelude.{IsTrue, ◌&&◌, ◌||◌, if◌then◌else◌}
use Rattle.std.specs.List.{AllByRecursion, flat_map}
use Rattle.std.proofs.lemmas.Bool.{and_from}
use Rattle.ped_tree.specs.Tree.{ExprTrees, no_exprs, more_exprs, ProgramTree}
use Rattle.ped_tree.specs.Views.{pack_stmts}
use Rattle.ped_tree.specs.Accesses.{constant_names}
use Rattle.ped_tree.specs.Grammar.Fits.{stmts_fit, begins_with_statement, fits}
use Rattle.ped_tree.specs.Grammar.Statement.{Statement, Statements}
use Rattle.ped_tree.specs.Grammar.Grouping.{statements_of}
use Rattle.ped_tree.specs.Grammar.Items.{Item, ends_program, says, outside_profile, no_form, Entry}
use Rattle.ped_tree.specs.Grammar.Occurrences.{saved_names}
use Rattle.ped_tree.specs.Grammar.Contexts.{at_start, behind_all}
use Rattle.ped_tree.specs.Grammar.BlockForms.{entry, body_entries, body_keeps_labels}
use Rattle.ped_tree.specs.Grammar.ProgramForms.{ProgramForm, decl_entry, program_entries, decl_trees, front_remarks, behind_front, all_trees, program_form_tree}
use Rattle.ped_tree.specs.Grammar.ProgramRefusals.{at_statements, at_end, program_refusals}
use Rattle.ped_tree.specs.Grammar.Reading.{IsReading}
use Rattle.ped_links.specs.ped_parse.specs.ped_blocks.proofs.BlocksFound.{left_empty, right_empty, first_none}
use Rattle.ped_links.specs.ped_parse.specs.ped_printed.proofs.ProgramLaws.FitBodyLists.{CommentsFit, IsSourced, Sourced, first_sourced, rest_sourced, Accepted, accepted_behind, At}
use Rattle.ped_links.specs.ped_parse.specs.ped_printed.proofs.ProgramLaws.FitBodyWhole.{StatementSourced, front_fit, begins_behind_front, body_place, all_fit, whole_body_fits}
use Rattle.ped_links.specs.ped_parse.specs.ped_printed.proofs.ProgramLaws.FitDeclsNames.{Named, saved_named}
use Rattle.ped_links.specs.ped_parse.specs.ped_printed.proofs.ProgramLaws.FitDecls.{declarations_both, declarations_fit, constants_both, behind_declarations, front_constants}
use Rattle.ped_links.specs.ped_parse.specs.ped_printed.proofs.ProgramLaws.Sources.{statements_sourced}
use Rattle.ped_links.specs.ped_symbols.specs.NameRefusals.{name_refusals}
use Rattle.ped_links.specs.ped_valid.proofs.WithoutLines.{none_on_any}
use Rattle.ped_links.specs.ped_units.specs.Forms.{Called, UnitItem, plain, calls, calls_if, begins_unit, returns, IsUnitItem}
use Rattle.ped_links.specs.ped_units.specs.Units.{ProgramUnits, all_units, call_statement}
use Rattle.ped_links.specs.ped_units.specs.Reading.{UnitEntry, AreUnitEntries, ends, begins, own_entries, further_segments, Segment, segments_of, is_end_next, as_reading, as_entries, stand_in, seen_entries, kept_entries, IsUnitOf}
use Rattle.ped_links.specs.ped_units.specs.Refusals.{for_names, lines_for_names, other_refusals, segment_refusals, before_another, segments_refusals, units_name_refusals}
use Rattle.ped_links.specs.ped_units.specs.Verdicts.{call_count, calls_count, ReadsRightUnits}
use Rattle.ped_calls.specs.Opening.{StartsWell}
use Rattle.ped_calls.proofs.FormCalls.{reading_calls, entries_calls, form_calls}
use Rattle.ped_calls.proofs.PlainFiles.{Says, AllSay, all_say}
use Rattle.ped_calls.proofs.PlainUnits.{names_alone}

-- the tree of a form, where nothing is refused at its statements
form_tree_fits : (saved : List (List ℕ)) (f : ProgramForm) → Named saved → IsTrue (body_keeps_labels [] f.body) → Accepted saved at_start (program_entries f) → Sourced (program_entries f) → fits (program_form_tree saved f) ≡ true
form_tree_fits saved f named labelled h r =
    let ds = map decl_entry f.declarations in
    let es = body_entries f.body in
    let last : List Entry = entry f.ending ends_program ∷ [] in
    let trees = flat_map (decl_trees saved) f.declarations in
    let c = behind_all at_start ds in
    let split : ds ++ es ++ last ≡ ds ++ (es ++ last) = append_assoc ds es last in
    let h1 = subst (λ (xs : List Entry). Accepted saved at_start xs) split h in
    let r1 = first_sourced (ds ++ es) last r in
    let comments = (rest_sourced (ds ++ es) last r).0.comments in
    let at_first : At [] [] 0 at_start = record { constants_are = refl; blocks_are = refl; statements_are = refl } in
    let declared = declarations_fit saved [] at_start 0 f.declarations (es ++ last) named (omega arith) at_first h1 (first_sourced ds es r1) in
    let a = behind_declarations saved [] at_start f.declarations at_first in
    let ok = (accepted_behind saved at_start ds (es ++ last) h1).nothing_found in
    let sourced = rest_sourced ds es r1 in
    let all = all_fit saved c f.body f.ending last a.blocks_are a.statements_are labelled ok sourced comments in
    let body = whole_body_fits saved c f.body f.ending last a.blocks_are a.statements_are labelled ok sourced comments in
    let front = front_remarks (all_trees f) in
    let constants : c.constants ≡ constant_names (trees ++ front) =
    a.constants_are ∙ sym (append-nil (constant_names trees)) ∙ ap (λ ks. constant_names trees ++ ks) (sym (front_constants (all_trees f))) ∙ sym (constants_both trees front) in
    let declarations = declarations_both 0 trees front declared (λ q. front_fit (body_place c.constants) q (all_trees f) all) in
    let statements = subst (λ (ks : List (List ℕ)). stmts_fit (body_place ks) (pack_stmts (behind_front (all_trees f))) ≡ true) constants body in
    and_from _ _ (and_from _ _ declarations statements) (begins_behind_front (all_trees f))

-- the statements of a unit without CALLs, as they are seen and as they are kept

says_not_outside : Says outside_profile → ⊥
says_not_outside s = no s.0 s.1
  where
    no : (i : Item) → outside_profile ≡ says i → ⊥
    no i e = cc

says_not_formless : Says no_form → ⊥
says_not_formless s = no s.0 s.1
  where
    no : (i : Item) → no_form ≡ says i → ⊥
    no i e = cc

one_call : (x : List ℕ) (arguments : ExprTrees) → call_count (call_statement (record { name = x; arguments = arguments })) ≡ 1
one_call x no_exprs = refl
one_call x (more_exprs a rest) = refl

call_is_one : (c : Called) → call_count (call_statement c) ≡ 1
call_is_one c = one_call c.name c.arguments

-- a statement that says something and has no CALL is one of the profile
pub record PlainEntry (s : Statement) (before_end : Bool) (i : UnitItem) : Type 0 where
  pub same : as_reading stand_in false before_end i ≡ as_reading call_statement false before_end i
  pub reads : IsReading s.text (as_reading call_statement false before_end i)

open_item : (s : Statement) (before_end : Bool) (i : UnitItem) → IsUnitItem s.text i → Says (as_reading stand_in false before_end i) → reading_calls (as_reading call_statement false before_end i) ≡ 0 → PlainEntry s before_end i
open_item s before_end (plain (says j)) is said none = record { same = refl; reads = is }
open_item s before_end (plain outside_profile) is said none = absurd (says_not_outside said)
open_item s before_end (plain no_form) is said none = absurd (says_not_formless said)
open_item s before_end (calls c) is said none = let one = call_is_one c in absurd (omega (arith, one, none))
open_item s before_end (calls_if e c) is said none = let one = call_is_one c in absurd (omega (arith, one, none))
open_item s before_end (begins_unit x formals) is said none = absurd (says_not_formless said)
open_item s before_end returns is said none = absurd (says_not_outside said)

-- statements of a unit that say something and have no CALL
pub record PlainOwn (es : List UnitEntry) : Type 0 where
  pub same : as_entries stand_in false es ≡ as_entries call_statement false es
  pub sourced : Sourced (as_entries call_statement false es)

sourced_one : (s : Statement) (e : UnitEntry) (before_end : Bool) → e.statement ≡ s → StatementSourced s → IsReading s.text (as_reading call_statement false before_end e.item)
    → IsSourced (record { statement = e.statement; reading = as_reading call_statement false before_end e.item })
sourced_one s e before_end is source reads = record {
  text = s.text;
  reads = (reads, source.printable);
  comments = subst (λ (t : Statement). CommentsFit t.comments) (sym is) source.comments;
}

-- what is said and counted of the statements of a unit, the first before the others
own_first : (s : Statement) (e : UnitEntry) (rest : List UnitEntry) → e.statement ≡ s → IsUnitItem s.text e.item → StatementSourced s
    → AllSay (as_entries stand_in false (e ∷ rest)) → entries_calls (as_entries call_statement false (e ∷ rest)) ≡ 0
    → (AllSay (as_entries stand_in false rest) → entries_calls (as_entries call_statement false rest) ≡ 0 → PlainOwn rest)
    → PlainOwn (e ∷ rest)
own_first s e rest is item source said none others =
    let here = open_item s (is_end_next rest) e.item item said.0 (omega (arith, none)) in
    let more = others said.1 (omega (arith, none)) in
    record {
      same = λ i. record { statement = e.statement; reading = here.same i } ∷ more.same i;
      sourced = (sourced_one s e (is_end_next rest) is source here.reads, more.sourced);
    }

own_by : (s : Statement) (e : UnitEntry) (rest : List UnitEntry) (b : Bool) → e.statement ≡ s → IsUnitItem s.text e.item → StatementSourced s
    → AllSay (as_entries stand_in false (if b then [] else e ∷ rest)) → entries_calls (as_entries call_statement false (if b then [] else e ∷ rest)) ≡ 0
    → (AllSay (as_entries stand_in false rest) → entries_calls (as_entries call_statement false rest) ≡ 0 → PlainOwn rest)
    → PlainOwn (if b then [] else e ∷ rest)
own_by s e rest true is item source said none others = record { same = refl; sourced = tt }
own_by s e rest false is item source said none others = own_first s e rest is item source said none others

pub own_plain : (ended : Bool) (ss : List Statement) (es : List UnitEntry) → AreUnitEntries ss es → AllByRecursion StatementSourced ss
    → AllSay (as_entries stand_in false (own_entries ended es)) → entries_calls (as_entries call_statement false (own_entries ended es)) ≡ 0 → PlainOwn (own_entries ended es)
own_plain ended [] [] are sources said none = record { same = refl; sourced = tt }
own_plain ended [] (e ∷ es) are sources said none = absurd are
own_plain ended (s ∷ ss) [] are sources said none = absurd are
own_plain ended (s ∷ ss) (e ∷ es) are sources said none =
    own_by s e (own_entries (ended || ends e.item) es) (ended && begins e.item) are.0 are.1 sources.0 said none (λ m n. own_plain (ended || ends e.item) ss es are.2 sources.1 m n)

-- the main program's statements
abbrev segments_main : List UnitEntry → Segment
segments_main es = record { head = None; entries = own_entries false es }

-- what is refused at the statements of the main program

first_refusals : (all : Statements) (s : Segment) (ss : List Segment) → segments_refusals all (s ∷ ss) ≡ [] → (t : Statements) × (program_refusals t (seen_entries s) ≡ [])
first_refusals all s [] h = (all, right_empty (other_refusals s) (program_refusals all (seen_entries s)) h)
first_refusals all s (t ∷ ss) h =
    (before_another all, right_empty (other_refusals s) (program_refusals (before_another all) (seen_entries s)) (left_empty (segment_refusals (before_another all) s) (segments_refusals all (t ∷ ss)) h))

-- the names of the main program
main_names : (us : ProgramUnits) → units_name_refusals (all_units us) ≡ [] → name_refusals (lines_for_names us.main) (for_names us.main) ≡ []
main_names us h = left_empty (name_refusals (lines_for_names us.main) (for_names us.main)) (units_name_refusals us.others) h

-- the main program of a file that is read
pub starts_well : (text : List ℕ) (us : ProgramUnits) → ReadsRightUnits text us → StartsWell us
starts_well text us right =
    let r = right.reads in
    let all = statements_of text in
    let main = segments_main r.entries in
    let of : IsUnitOf main us.main = r.are.0 in
    let saved = saved_names (seen_entries main) in
    let begins : begins_with_statement us.main.tree.body ≡ true =
    ap (λ (t : ProgramTree). begins_with_statement t.body) (sym of.nested) ∙ begins_behind_front (all_trees of.form) in
    let refused = first_refusals all main (further_segments false r.entries) (first_none (segments_refusals all (segments_of r.entries)) r.accepted) in
    let nothing : at_statements saved at_start (seen_entries main) ≡ [] = left_empty _ (at_end (behind_all at_start (seen_entries main)) refused.0) refused.1 in
    let said = all_say saved at_start (seen_entries main) nothing in
    record {
      begins = begins;
      valid = λ none.
          let count : entries_calls (kept_entries main) ≡ 0 =
          ap entries_calls (sym of.written) ∙ sym (form_calls saved of.form) ∙ ap (λ (t : ProgramTree). calls_count t.body) of.nested ∙ none in
          let own = own_plain false all.statements r.entries r.cut.items (statements_sourced text r.cut.accepted) said count in
          let accepted : Accepted saved at_start (program_entries of.form) =
          record { nothing_found = ap (at_statements saved at_start) (of.written ∙ sym own.same) ∙ nothing } in
          let sourced : Sourced (program_entries of.form) = subst Sourced (sym of.written) own.sourced in
          let named : Named saved = saved_named (seen_entries main) (subst Sourced (sym own.same) own.sourced) in
          let fitting : fits us.main.tree ≡ true = ap fits (sym of.nested) ∙ form_tree_fits saved of.form named of.labelled accepted sourced in
          let right_names = main_names us right.names in
          let plain_names = subst (λ (t : ProgramTree). name_refusals (lines_for_names us.main) t ≡ []) (names_alone us.main of.headed.1 none) right_names in
          record { fits = fitting; names = none_on_any (lines_for_names us.main) [] us.main.tree plain_names };
    }
