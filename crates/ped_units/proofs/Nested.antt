-- The statements of a unit nest with its CALLs where they nest with something plain in the place of each.
use Rattle.std.proofs.Common.{◌≡◌, ℕ, List, [], ◌∷◌, ◌++◌, Bool, true, false, cond, None, refl, sym, ap, subst, ◌∙◌}
use Rattle.std.specs.Prelude.{IsTrue, ◌&&◌}
use Rattle.ped_tree.specs.Tree.{StmtTree}
use Rattle.ped_tree.specs.Grammar.Refusal.{first_of}
use Rattle.ped_tree.specs.Grammar.Statement.{Statements}
use Rattle.ped_tree.specs.Grammar.Items.{says, outside_profile, no_form, does, continues, Entry}
use Rattle.ped_tree.specs.Grammar.Occurrences.{saved_names}
use Rattle.ped_tree.specs.Grammar.BlockForms.{body_keeps_labels}
use Rattle.ped_tree.specs.Grammar.ProgramForms.{lines_of_reading, first_lines}
use Rattle.ped_tree.specs.Grammar.ProgramRefusals.{program_refusals}
use Rattle.ped_valid.specs.ped_parse.specs.ped_blocks.specs.Machine.{nothing_built, take_entries, built_program}
use Rattle.ped_valid.specs.ped_parse.specs.ped_blocks.proofs.BlocksFound.{form_found}
use Rattle.ped_valid.specs.ped_parse.specs.ped_blocks.proofs.BlocksNest.{form_built}
use Rattle.ped_units.specs.Forms.{Called, UnitItem, plain, calls, calls_if, begins_unit, returns}
use Rattle.ped_units.specs.Units.{ProgramUnit, call_statement}
use Rattle.ped_units.specs.Reading.{UnitEntry, Segment, is_end_next, as_reading, as_entries, is_subroutine, stand_in, seen_entries, kept_entries, IsHeaded, IsUnitOf}
use Rattle.ped_units.proofs.Exchanged.{same, both_do, both_if, ReadsAlike, AreAlike, form_exchanged}

return_alike : (b : Bool) → ReadsAlike (cond b (says continues) outside_profile) (cond b (says continues) outside_profile)
return_alike true = (continues, refl, same refl)
return_alike false = refl

reading_alike : (f g : Called → StmtTree) (in_subroutine before_end : Bool) (i : UnitItem) → ReadsAlike (as_reading f in_subroutine before_end i) (as_reading g in_subroutine before_end i)
reading_alike f g in_subroutine before_end (plain (says j)) = (j, refl, same refl)
reading_alike f g in_subroutine before_end (plain outside_profile) = refl
reading_alike f g in_subroutine before_end (plain no_form) = refl
reading_alike f g in_subroutine before_end (calls c) = (does (g c), refl, both_do (f c) (g c) refl refl)
reading_alike f g in_subroutine before_end (calls_if e c) = (_, refl, both_if e _ _ refl refl)
reading_alike f g in_subroutine before_end (begins_unit x formals) = refl
reading_alike f g in_subroutine before_end returns = return_alike (in_subroutine && before_end)

-- whatever stands for CALLs, the statements say alike
pub entries_alike : (f g : Called → StmtTree) (in_subroutine : Bool) (es : List UnitEntry) → AreAlike (as_entries f in_subroutine es) (as_entries g in_subroutine es)
entries_alike f g in_subroutine [] = tt
entries_alike f g in_subroutine (e ∷ es) = (refl, reading_alike f g in_subroutine (is_end_next es) e.item, entries_alike f g in_subroutine es)

reading_lines : (saved : List (List ℕ)) (line : ℕ) (in_subroutine before_end : Bool) (i : UnitItem)
    → lines_of_reading saved line (as_reading call_statement in_subroutine before_end i) ≡ lines_of_reading saved line (as_reading stand_in in_subroutine before_end i)
reading_lines saved line in_subroutine before_end (plain r) = refl
reading_lines saved line in_subroutine before_end (calls c) = refl
reading_lines saved line in_subroutine before_end (calls_if e c) = refl
reading_lines saved line in_subroutine before_end (begins_unit x formals) = refl
reading_lines saved line in_subroutine before_end returns = refl

-- they begin on the same lines
pub same_lines : (saved : List (List ℕ)) (in_subroutine : Bool) (es : List UnitEntry) → first_lines saved (as_entries call_statement in_subroutine es) ≡ first_lines saved (as_entries stand_in in_subroutine es)
same_lines saved in_subroutine [] = refl
same_lines saved in_subroutine (e ∷ es) = λ i. reading_lines saved e.statement.line in_subroutine (is_end_next es) e.item i ++ same_lines saved in_subroutine es i

-- a unit that is built of statements at which nothing is refused is theirs
pub unit_built : (all : Statements) (s : Segment) (u : ProgramUnit) → first_of (program_refusals all (seen_entries s)) ≡ None → IsHeaded s.head u
    → u.tree ≡ built_program (take_entries (saved_names (seen_entries s)) nothing_built (kept_entries s))
    → u.lines ≡ first_lines (saved_names (seen_entries s)) (kept_entries s) → IsUnitOf s u
unit_built all s u none headed tree lines =
    let saved = saved_names (seen_entries s) in
    let q = form_found all (seen_entries s) none in
    let alike : AreAlike (seen_entries s) (kept_entries s) = entries_alike stand_in call_statement (is_subroutine s.head) s.entries in
    let f = form_exchanged q.0 (kept_entries s) (subst (λ (es : List Entry). AreAlike es (kept_entries s)) (sym q.1) alike) in
    let labelled : IsTrue (body_keeps_labels [] f.form.body) = f.labelled ∙ q.2 in
    record {
      headed = headed;
      form = f.form;
      written = f.written;
      labelled = labelled;
      nested = sym (form_built saved f.form labelled) ∙ ap (λ (es : List Entry). built_program (take_entries saved nothing_built es)) f.written ∙ sym tree;
      counted = sym (same_lines saved (is_subroutine s.head) s.entries) ∙ sym lines;
    }
