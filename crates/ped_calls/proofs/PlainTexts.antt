-- A text without CALL and SUBROUTINE statements is the program that it reads as, and is refused as it is.
use Rattle.std.proofs.Common.{◌≡◌, ◌↔◌, ℕ, List, [], ◌∷◌, map, slice_get, Some, refl, sym, ap, subst, ◌∙◌}
use Rattle.ped_tree.specs.Tree.{ProgramTree}
use Rattle.ped_tree.specs.Grammar.Refusal.{Finding, first_of}
use Rattle.ped_tree.specs.Grammar.Statement.{Statement}
use Rattle.ped_tree.specs.Grammar.Grouping.{statements_of}
use Rattle.ped_tree.specs.Grammar.Items.{Entry}
use Rattle.ped_tree.specs.Grammar.ProgramRefusals.{program_refusals}
use Rattle.ped_tree.specs.Grammar.Reading.{AreEntries, Reads, Refuses}
use Rattle.ped_tree.specs.Grammar.Reading as reading
use Rattle.ped_tree.proofs.GrammarLaws.OneReading.{one_entries}
use Rattle.ped_links.specs.ped_parse.specs.ped_statements.proofs.OneStatement.{one_item}
use Rattle.ped_links.specs.ped_valid.specs.Validity.{ReadsValid, RefusesNames, RefusesText}
use Rattle.ped_links.specs.ped_valid.specs.Validity as texts
use Rattle.ped_links.specs.ped_units.specs.Units.{ProgramUnits}
use Rattle.ped_links.specs.ped_units.specs.Reading.{UnitEntry, AreUnitEntries}
use Rattle.ped_links.specs.ped_units.specs.Refusals.{ReadsUnits}
use Rattle.ped_links.specs.ped_units.specs.Linking.{Placed}
use Rattle.ped_links.specs.ped_units.specs.Verdicts.{UnitFinding, found_in_text, RefusesUnits, in_lines, in_statements, in_names, in_links, in_expanding, IsExpansion}
use Rattle.ped_calls.specs.Laws.{HasNoUnits, RefusesAsText}
use Rattle.ped_calls.proofs.FirstPast.{without_calls}
use Rattle.ped_calls.proofs.PlainFiles.{valid_expands}
use Rattle.ped_calls.proofs.PlainUnits.{plain_entry, are_plain, IsAlone, read_none, plain_refusals, plain_reads, plain_cut, read_alone, alone, reads_alone, plain_names, plain_linked, calls_nowhere}
use Rattle.ped_links.specs.ped_units.proofs.OneUnits.{unit_item_there}

-- what the text's statements are in a file of program units
pub entries_there : (ss : List Statement) (es : List Entry) → AreEntries ss es → (us : List UnitEntry) × AreUnitEntries ss us
entries_there [] [] are = ([], tt)
entries_there [] (e ∷ es) are = absurd are
entries_there (s ∷ ss) [] are = absurd are
entries_there (s ∷ ss) (e ∷ es) are =
    let here = unit_item_there s.text e.reading are.1 in
    let more = entries_there ss es are.2 in
    ((record { statement = s; item = here.0 }) ∷ more.0, (refl, here.1, more.1))

module _ (text : List ℕ) (plain : HasNoUnits text) where
  main_alone : (us : ProgramUnits) → ReadsUnits text us → IsAlone text us
  main_alone us r = read_alone text us r (are_plain (statements_of text).statements r.entries plain r.cut.items)

  expands_as_read : (t : ProgramTree) → IsExpansion text t → ReadsValid text t
  expands_as_read t x =
      let m = main_alone x.units x.linked.right.reads in
      let same : x.units.main.tree ≡ t = sym (without_calls x.units m.none) ∙ x.expands in
      record { reads = subst (λ (u : ProgramTree). Reads text u) same m.reads; valid = x.valid }

  -- it expands to the valid program that it reads as
  pub plain_expands : (t : ProgramTree) → IsExpansion text t ↔ ReadsValid text t
  plain_expands t = (expands_as_read t, valid_expands text t)

  refused_as_text : (f : UnitFinding) → RefusesUnits text f → RefusesAsText text f
  refused_as_text f (in_lines g is h) = record { finding = g; same = is; refuses = texts.in_reading (reading.in_lines h) }
  refused_as_text f (in_statements g is es cut h) =
      let p = are_plain (statements_of text).statements es plain cut.items in
      record {
        finding = g;
        same = is;
        refuses = texts.in_reading (reading.in_statements (map plain_entry es) (plain_cut text es p cut) (sym (ap first_of (plain_refusals (statements_of text) es p)) ∙ h));
      }
  refused_as_text f (in_names g is us r h) =
      let m = main_alone us r in
      let names : RefusesNames text g = record {
        tree = us.main.tree;
        reads = m.reads;
        lines = us.main.lines;
        begin = m.begin;
        least = sym (ap first_of (plain_names us m.others m.formals m.none)) ∙ h;
      } in
      record { finding = g; same = is; refuses = texts.in_names names }
  refused_as_text f (in_links r is us right first) =
      let m = main_alone us right.reads in
      absurd (plain_linked us m.others m.formals m.none r f.line first.stands)
  refused_as_text f (in_expanding r is us linked past) =
      let m = main_alone us linked.right.reads in
      absurd (no_call past.before past.call (sym (ap (λ (ps : List Placed). slice_get ps past.before) (calls_nowhere us.main m.none)) ∙ past.is_call))
    where
      no_call : (n : ℕ) (c : Placed) → slice_get [] n ≡ Some c → ⊥
      no_call n c e = cc

  refused_in_reading : (f : UnitFinding) (g : Finding) → f ≡ found_in_text g → Refuses text g → RefusesUnits text f
  refused_in_reading f g is (reading.in_lines h) = in_lines g is h
  refused_in_reading f g is (reading.in_statements es cut h) =
      let ss = (statements_of text).statements in
      let there = entries_there ss es cut.readings in
      let us = there.0 in
      let p = are_plain ss us plain there.1 in
      let same : map plain_entry us ≡ es = one_entries one_item ss (map plain_entry us) es (plain_reads ss us p there.1) cut.readings in
      in_statements g is us (record { accepted = cut.accepted; items = there.1 })
      (ap first_of (plain_refusals (statements_of text) us p ∙ ap (program_refusals (statements_of text)) same) ∙ h)

  refused_for_names : (f : UnitFinding) (g : Finding) → f ≡ found_in_text g → RefusesNames text g → RefusesUnits text f
  refused_for_names f g is r =
      let ss = (statements_of text).statements in
      let there = entries_there ss r.reads.entries r.reads.cut.readings in
      let us = alone r.tree r.lines in
      let reads : ReadsUnits text us = reads_alone text r.tree r.lines there.0 r.reads r.begin there.1 (are_plain ss there.0 plain there.1) in
      in_names g is us reads (ap first_of (plain_names us refl refl (read_none text r.tree r.reads)) ∙ r.least)

  refused_as_file : (f : UnitFinding) → RefusesAsText text f → RefusesUnits text f
  refused_as_file f r = by r.finding r.same r.refuses
    where
      by : (g : Finding) → f ≡ found_in_text g → RefusesText text g → RefusesUnits text f
      by g is (texts.in_reading h) = refused_in_reading f g is h
      by g is (texts.in_names h) = refused_for_names f g is h

  -- it is refused as a file of program units for what it is refused for as a program
  pub plain_refused : (f : UnitFinding) → RefusesUnits text f ↔ RefusesAsText text f
  plain_refused f = (refused_as_text f, refused_as_file f)
