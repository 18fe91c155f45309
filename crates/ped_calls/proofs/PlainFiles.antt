-- A text that reads as a valid program is a file of program units that expands to that program.
use Rattle.std.proofs.Common.{◌≡◌, ℕ, List, [], ◌∷◌, map, Bool, true, false, Option, refl, ◌∙◌}
use Rattle.std.specs.Prelude.{◌&&◌, ◌||◌, not}
use Rattle.ped_tree.specs.Tree.{ProgramTree}
use Rattle.ped_tree.specs.Grammar.Statement.{Statement}
use Rattle.ped_tree.specs.Grammar.Grouping.{statements_of}
use Rattle.ped_tree.specs.Grammar.Items.{Item, Reading, says, outside_profile, no_form, Entry}
use Rattle.ped_tree.specs.Grammar.Contexts.{Context, at_start, behind, behind_all}
use Rattle.ped_tree.specs.Grammar.Occurrences.{saved_names}
use Rattle.ped_tree.specs.Grammar.ProgramForms.{first_lines}
use Rattle.ped_tree.specs.Grammar.ProgramRefusals.{is_left_out, is_behind_end, breaks_syntax, at_statement, at_statements, at_end, program_refusals}
use Rattle.ped_tree.specs.Grammar.Reading.{IsReading, AreEntries}
use Rattle.ped_links.specs.ped_parse.specs.ped_blocks.proofs.BlocksFound.{none_stands, left_empty, right_empty, first_none}
use Rattle.ped_links.specs.ped_valid.specs.Validity.{ReadsValid}
use Rattle.ped_links.specs.ped_valid.proofs.WithoutLines.{none_on_any}
use Rattle.ped_links.specs.ped_units.specs.Forms.{plain, IsUnitItem}
use Rattle.ped_links.specs.ped_units.specs.Units.{all_units}
use Rattle.ped_links.specs.ped_units.specs.Reading.{UnitEntry, AreUnitEntries}
use Rattle.ped_links.specs.ped_units.specs.Refusals.{ReadsUnits, units_name_refusals}
use Rattle.ped_links.specs.ped_units.specs.Verdicts.{IsExpansion}
use Rattle.ped_calls.proofs.FirstPast.{without_calls}
use Rattle.ped_calls.proofs.PlainUnits.{ArePlain, alone, read_none, reads_alone, plain_names, plain_linked}

-- each statement says something, where nothing is refused

abbrev pub Says : Reading → Type 0
Says r = (i : Item) × (r ≡ says i)

abbrev pub AllSay : List Entry → Type 0
AllSay [] = Unit {0}
AllSay (e ∷ es) = Says e.reading × AllSay es

formless_breaks : (a b c : Bool) → (not a && (b || true || c)) ≡ false → a ≡ true
formless_breaks true b c h = refl
formless_breaks false true c h = absurd cc
formless_breaks false false c h = absurd cc

reading_says : (c : Context) (label : Option ℕ) (r : Reading) → breaks_syntax c label r ≡ false → is_left_out r ≡ false → Says r
reading_says c label (says i) h k = (i, refl)
reading_says c label outside_profile h k = absurd cc
reading_says c label no_form h k = absurd (no (formless_breaks false (is_behind_end c) _ h))
  where
    no : false ≡ true → ⊥
    no e = cc

pub all_say : (saved : List (List ℕ)) (c : Context) (es : List Entry) → at_statements saved c es ≡ [] → AllSay es
all_say saved c [] h = tt
all_say saved c (e ∷ rest) h =
    let here = left_empty (at_statement saved c e rest) _ h in
    let front = left_empty _ _ (left_empty _ _ (left_empty _ _ (left_empty _ _ (left_empty _ _ (left_empty _ _ here))))) in
    let left_out = none_stands _ _ _ (right_empty _ _ front) in
    let syntax_ = none_stands _ _ _ (right_empty _ _ (left_empty _ _ front)) in
    (reading_says c e.statement.label e.reading syntax_ left_out, all_say saved (behind c e) rest (right_empty (at_statement saved c e rest) _ h))

-- the statements of a program as statements of a file of program units

abbrev pub unit_entry : Entry → UnitEntry
unit_entry e = record { statement = e.statement; item = plain e.reading }

plain_item : (text : List ℕ) (r : Reading) → Says r → IsReading text r → IsUnitItem text (plain r)
plain_item text (says i) s h = h
plain_item text outside_profile s h = absurd (no s.0 s.1)
  where
    no : (i : Item) → outside_profile ≡ says i → ⊥
    no i e = cc
plain_item text no_form s h = absurd (no s.0 s.1)
  where
    no : (i : Item) → no_form ≡ says i → ⊥
    no i e = cc

plain_entries : (ss : List Statement) (es : List Entry) → AllSay es → AreEntries ss es → AreUnitEntries ss (map unit_entry es)
plain_entries [] [] s h = tt
plain_entries [] (e ∷ es) s h = absurd h
plain_entries (t ∷ ss) [] s h = absurd h
plain_entries (t ∷ ss) (e ∷ es) s h = (h.0, plain_item t.text e.reading s.0 h.1, plain_entries ss es s.1 h.2)

all_plain : (es : List Entry) → ArePlain (map unit_entry es)
all_plain [] = tt
all_plain (e ∷ es) = (refl, all_plain es)

-- a valid program is what it expands to
pub valid_expands : (text : List ℕ) (t : ProgramTree) → ReadsValid text t → IsExpansion text t
valid_expands text t v =
    let r = v.reads in
    let es = r.entries in
    let all = statements_of text in
    let none = first_none (program_refusals all es) r.accepted in
    let said = all_say (saved_names es) at_start es (left_empty _ (at_end (behind_all at_start es) all) none) in
    let lines = first_lines (saved_names es) es in
    let us = alone t lines in
    let entries = map unit_entry es in
    let reads : ReadsUnits text us = reads_alone text t lines entries r (record { entries = es; cut = r.cut; counted = refl }) (plain_entries all.statements es said r.cut.readings) (all_plain es) in
    let no_call = read_none text t r in
    let names : units_name_refusals (all_units us) ≡ [] = plain_names us refl refl no_call ∙ none_on_any [] lines t v.valid.names in
    record {
      units = us;
      linked = record { right = record { reads = reads; names = names }; linked = plain_linked us refl refl no_call };
      expands = without_calls us no_call;
      valid = v.valid;
    }
