-- A program that some text reads as fits, where the statements of the text have printable characters and comments that fit.
use Rattle.std.proofs.Common.{◌≡◌, ℕ, List, [], ◌∷◌, ◌++◌, map, true, refl, sym, ap, subst, ◌∙◌, arith, append_assoc, append-nil}
use Rattle.std.specs.Prelude.{IsTrue}
use Rattle.std.specs.List.{AllByRecursion, flat_map}
use Rattle.std.proofs.lemmas.Bool.{and_from}
use Rattle.ped_lines.specs.ped_tree.specs.Tree.{ProgramTree}
use Rattle.ped_lines.specs.ped_tree.specs.Views.{pack_stmts}
use Rattle.ped_lines.specs.ped_tree.specs.Grammar.Items.{ends_program, Entry}
use Rattle.ped_lines.specs.ped_tree.specs.Grammar.Occurrences.{saved_names}
use Rattle.ped_lines.specs.ped_tree.specs.Grammar.Contexts.{at_start, behind_all}
use Rattle.ped_lines.specs.ped_tree.specs.Grammar.BlockForms.{entry, body_entries, body_keeps_labels}
use Rattle.ped_lines.specs.ped_tree.specs.Grammar.ProgramForms.{ProgramForm, decl_entry, program_entries, decl_trees, front_remarks, behind_front, all_trees, program_form_tree}
use Rattle.ped_lines.specs.ped_tree.specs.Grammar.ProgramRefusals.{at_end, program_refusals}
use Rattle.ped_lines.specs.ped_tree.specs.Grammar.Grouping.{statements_of}
use Rattle.ped_lines.specs.ped_tree.specs.Grammar.Reading.{Reads}
use Rattle.ped_blocks.proofs.BlocksFound.{first_none, left_empty}
use Rattle.ped_lines.specs.ped_tree.specs.Accesses.{constant_names}
use Rattle.ped_lines.specs.ped_tree.specs.Grammar.Fits.{stmts_fit, fits}
use Rattle.ped_printed.proofs.ProgramLaws.FitBodyLists.{Sourced, first_sourced, rest_sourced, Accepted, accepted_behind, At}
use Rattle.ped_printed.proofs.ProgramLaws.FitBodyWhole.{StatementSourced, entries_sourced, front_fit, begins_behind_front, body_place, all_fit, whole_body_fits}
use Rattle.ped_printed.proofs.ProgramLaws.FitDeclsNames.{Named, saved_named}
use Rattle.ped_printed.proofs.ProgramLaws.FitDecls.{declarations_both, declarations_fit, constants_both, behind_declarations, front_constants}

-- the tree of a form, where nothing is refused at its statements
form_tree_fits : (saved : List (List ℕ)) (f : ProgramForm) → Named saved → IsTrue (body_keeps_labels [] f.body) → Accepted saved at_start (program_entries f) → Sourced (program_entries f) → fits (program_form_tree saved f) ≡ true
form_tree_fits saved f named labelled h r =
    let ds = map decl_entry f.declarations in
    let es = body_entries f.body in
    let last : List Entry = entry f.ending ends_program ∷ [] in
    let trees = flat_map (decl_trees saved) f.declarations in
    let c = behind_all at_start ds in
    let split : ds ++ es ++ last ≡ ds ++ (es ++ last) = append_assoc ds es last in
    let h1 = subst (λ (xs : List Entry). Accepted saved at_start xs) split h in
    let r1 = first_sourced (ds ++ es) last r in
    let comments = (rest_sourced (ds ++ es) last r).0.comments in
    let at_first : At [] [] 0 at_start = record { constants_are = refl; blocks_are = refl; statements_are = refl } in
    let declared = declarations_fit saved [] at_start 0 f.declarations (es ++ last) named (omega arith) at_first h1 (first_sourced ds es r1) in
    let a = behind_declarations saved [] at_start f.declarations at_first in
    let ok = (accepted_behind saved at_start ds (es ++ last) h1).nothing_found in
    let sourced = rest_sourced ds es r1 in
    let all = all_fit saved c f.body f.ending last a.blocks_are a.statements_are labelled ok sourced comments in
    let body = whole_body_fits saved c f.body f.ending last a.blocks_are a.statements_are labelled ok sourced comments in
    let front = front_remarks (all_trees f) in
    let constants : c.constants ≡ constant_names (trees ++ front) =
    a.constants_are ∙ sym (append-nil (constant_names trees)) ∙ ap (λ ks. constant_names trees ++ ks) (sym (front_constants (all_trees f))) ∙ sym (constants_both trees front) in
    let declarations = declarations_both 0 trees front declared (λ q. front_fit (body_place c.constants) q (all_trees f) all) in
    let statements = subst (λ (ks : List (List ℕ)). stmts_fit (body_place ks) (pack_stmts (behind_front (all_trees f))) ≡ true) constants body in
    and_from _ _ (and_from _ _ declarations statements) (begins_behind_front (all_trees f))

pub program_fits : (text : List ℕ) (t : ProgramTree) → Reads text t → AllByRecursion StatementSourced (statements_of text).statements → fits t ≡ true
program_fits text t reads h =
    let saved = saved_names reads.entries in
    let sourced = entries_sourced (statements_of text).statements reads.entries reads.cut.readings h in
    let none = first_none (program_refusals (statements_of text) reads.entries) reads.accepted in
    let ok : Accepted saved at_start reads.entries = record { nothing_found = left_empty _ (at_end (behind_all at_start reads.entries) (statements_of text)) none } in
    let back = sym reads.written in
    subst (λ (t : ProgramTree). fits t ≡ true) reads.nested
    (form_tree_fits saved reads.form (saved_named reads.entries sourced) reads.labelled (subst (λ (es : List Entry). Accepted saved at_start es) back ok) (subst Sourced back sourced))
