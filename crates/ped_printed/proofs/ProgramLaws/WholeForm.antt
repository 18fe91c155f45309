-- The form of a whole printed program.
use Rattle.std.proofs.Common.{◌≡◌, ℕ, ◌+◌, List, [], ◌∷◌, ◌++◌, map, true, refl, sym, ap, ◌∙◌, append_assoc, append-nil}
use Rattle.std.specs.Prelude.{codes, IsTrue}
use Rattle.std.specs.List.{flat_map}
use Rattle.ped_lines.specs.ped_tree.specs.Tree.{StmtTree, StmtTrees, Assign, If, Do, Print, Read, Stop, Comment, no_stmts, more_stmts, DeclTree, Program, Implicit, Integer, Dimension, Parameter, Save, Remark, ProgramTree}
use Rattle.ped_lines.specs.ped_tree.specs.Views.{pack_stmts}
use Rattle.ped_lines.specs.ped_tree.specs.Printing.{decl_text}
use Rattle.ped_lines.specs.ped_tree.specs.Grammar.Statement.{Note}
use Rattle.ped_lines.specs.ped_tree.specs.Grammar.Items.{ends_program, Entry}
use Rattle.ped_lines.specs.ped_tree.specs.Grammar.ProgramRefusals.{listed_stmts}
use Rattle.ped_lines.specs.ped_tree.specs.Grammar.BlockForms.{nothing, entry, body_trees, body_keeps_labels}
use Rattle.ped_lines.specs.ped_tree.specs.Grammar.ProgramForms.{DeclForm, a_declaration, ProgramForm, decl_entry, program_entries, decl_trees, front_remarks, behind_front, all_trees, program_form_tree}
use Rattle.ped_lines.specs.ped_tree.specs.Grammar.Fits.{begins_with_statement}
use Rattle.ped_lines.specs.Printed.Printed.{PrintedNote, a_comment, a_rejection}
use Rattle.ped_lines.specs.Printed.Cut.{comments_at}
use Rattle.ped_printed.proofs.ProgramLaws.Pieces.{decl_piece, end_piece, statements_pieces, program_pieces, Spot, spot, statement_here, behind_piece, behind_pieces, entry_here, entries_here, behind_both, entries_both}
use Rattle.ped_printed.proofs.ProgramLaws.Forms.{with_stmts, stmts_entries}
use Rattle.ped_printed.proofs.ProgramLaws.Trees.{note_trees, rejections, AllRejecting, comments_here, stmts_law, packed}
use Rattle.ped_printed.proofs.ProgramLaws.Labels.{stmts_fit}

-- the comments among notes, as declarations
abbrev pub note_remarks : List PrintedNote → List DeclTree
note_remarks [] = []
note_remarks (a_comment text ∷ ns) = Remark text ∷ note_remarks ns
note_remarks (a_rejection x ∷ ns) = note_remarks ns

abbrev pub decl_form : Spot → DeclTree → List DeclForm
decl_form p (Program x) = a_declaration (statement_here p 0 (decl_text (Program x))) (Program x) ∷ []
decl_form p Implicit = a_declaration (statement_here p 0 (decl_text Implicit)) Implicit ∷ []
decl_form p (Integer ds) = a_declaration (statement_here p 0 (decl_text (Integer ds))) (Integer ds) ∷ []
decl_form p (Dimension ds) = a_declaration (statement_here p 0 (decl_text (Dimension ds))) (Dimension ds) ∷ []
decl_form p (Parameter values) = a_declaration (statement_here p 0 (decl_text (Parameter values))) (Parameter values) ∷ []
decl_form p (Save names) = a_declaration (statement_here p 0 (decl_text (Save names))) (Save names) ∷ []
decl_form p (Remark text) = []

abbrev pub decl_forms : Spot → List DeclTree → List DeclForm
decl_forms p [] = []
decl_forms p (d ∷ ds) = decl_form p d ++ decl_forms (behind_piece p (decl_piece d)) ds

abbrev pub start : Spot
start = spot 1 []

abbrev pub body_spot : ProgramTree → Spot
body_spot t = behind_pieces start (map decl_piece t.decls)

abbrev pub ending_spot : ProgramTree → Spot
ending_spot t = behind_pieces (body_spot t) (statements_pieces 0 t.body)

abbrev pub whole_form : ProgramTree → ProgramForm
whole_form t = record {
  declarations = decl_forms start t.decls;
  body = with_stmts nothing 0 (body_spot t) t.body;
  ending = statement_here (ending_spot t) 0 (codes "END");
}

abbrev pub whole_entries : ProgramTree → List Entry
whole_entries t = entries_here start (program_pieces t)

decl_one : (p : Spot) (d : DeclTree) → map decl_entry (decl_form p d) ≡ entry_here p (decl_piece d)
decl_one p (Program x) = refl
decl_one p Implicit = refl
decl_one p (Integer ds) = refl
decl_one p (Dimension ds) = refl
decl_one p (Parameter values) = refl
decl_one p (Save names) = refl
decl_one p (Remark text) = refl

maps_both : {A B : Type 0} (f : A → B) (xs ys : List A) → map f (xs ++ ys) ≡ map f xs ++ map f ys
maps_both f [] ys = refl
maps_both f (x ∷ xs) ys = ap (λ zs. f x ∷ zs) (maps_both f xs ys)

flats_both : {A B : Type 0} (f : A → List B) (xs ys : List A) → flat_map f (xs ++ ys) ≡ flat_map f xs ++ flat_map f ys
flats_both f [] ys = refl
flats_both f (x ∷ xs) ys = ap (λ zs. f x ++ zs) (flats_both f xs ys) ∙ sym (append_assoc (f x) (flat_map f xs) (flat_map f ys))

decl_entries : (p : Spot) (ds : List DeclTree) → map decl_entry (decl_forms p ds) ≡ entries_here p (map decl_piece ds)
decl_entries p [] = refl
decl_entries p (d ∷ ds) =
    let q = behind_piece p (decl_piece d) in
    maps_both decl_entry (decl_form p d) (decl_forms q ds) ∙ (let a = decl_one p d in let b = decl_entries q ds in λ i. a i ++ b i)

pub form_entries : (t : ProgramTree) → program_entries (whole_form t) ≡ whole_entries t
form_entries t =
    let ds = map decl_piece t.decls in
    let ss = statements_pieces 0 t.body in
    let last : List Entry = entry (statement_here (ending_spot t) 0 (codes "END")) ends_program ∷ [] in
    let a = decl_entries start t.decls in
    let b = stmts_entries nothing 0 (body_spot t) t.body in
    (λ i. a i ++ b i ++ last)
    ∙ ap (λ (es : List Entry). es ++ last) (sym (entries_both start ds ss))
    ∙ ap (λ (p : Spot). entries_here start (ds ++ ss) ++ entries_here p (end_piece ∷ [])) (sym (behind_both start ds ss))
    ∙ sym (entries_both start (ds ++ ss) (end_piece ∷ []))

remarks_are : (n : ℕ) (ns : List PrintedNote) → map (λ (m : Note). Remark m.text) (comments_at n ns) ≡ note_remarks ns
remarks_are n [] = refl
remarks_are n (a_comment text ∷ ns) = ap (λ (ts : List DeclTree). Remark text ∷ ts) (remarks_are (n + 1) ns)
remarks_are n (a_rejection x ∷ ns) = remarks_are (n + 1) ns

remarks_push : (ns : List PrintedNote) (text : List ℕ) → note_remarks (ns ++ a_comment text ∷ []) ≡ note_remarks ns ++ Remark text ∷ []
remarks_push [] text = refl
remarks_push (a_comment t ∷ ns) text = ap (λ (ts : List DeclTree). Remark t ∷ ts) (remarks_push ns text)
remarks_push (a_rejection x ∷ ns) text = remarks_push ns text

one_decl : (saved : List (List ℕ)) (p : Spot) (d : DeclTree) → flat_map (decl_trees saved) (decl_form p d) ++ note_remarks (behind_piece p (decl_piece d)).notes ≡ note_remarks p.notes ++ d ∷ []
one_decl saved p (Program x) = append-nil _ ∙ append-nil _ ∙ ap (λ (ts : List DeclTree). ts ++ Program x ∷ []) (remarks_are p.line p.notes)
one_decl saved p Implicit = append-nil _ ∙ append-nil _ ∙ ap (λ (ts : List DeclTree). ts ++ Implicit ∷ []) (remarks_are p.line p.notes)
one_decl saved p (Integer ds) = append-nil _ ∙ append-nil _ ∙ ap (λ (ts : List DeclTree). ts ++ Integer ds ∷ []) (remarks_are p.line p.notes)
one_decl saved p (Dimension ds) = append-nil _ ∙ append-nil _ ∙ ap (λ (ts : List DeclTree). ts ++ Dimension ds ∷ []) (remarks_are p.line p.notes)
one_decl saved p (Parameter values) = append-nil _ ∙ append-nil _ ∙ ap (λ (ts : List DeclTree). ts ++ Parameter values ∷ []) (remarks_are p.line p.notes)
one_decl saved p (Save names) = append-nil _ ∙ append-nil _ ∙ ap (λ (ts : List DeclTree). ts ++ Save names ∷ []) (remarks_are p.line p.notes)
one_decl saved p (Remark text) = remarks_push p.notes text

decls_law : (saved : List (List ℕ)) (p : Spot) (ds : List DeclTree) → flat_map (decl_trees saved) (decl_forms p ds) ++ note_remarks (behind_pieces p (map decl_piece ds)).notes ≡ note_remarks p.notes ++ ds
decls_law saved p [] = sym (append-nil (note_remarks p.notes))
decls_law saved p (d ∷ ds) =
    let q = behind_piece p (decl_piece d) in
    let fs = decl_forms q ds in
    let ns = (behind_pieces q (map decl_piece ds)).notes in
    ap (λ (ts : List DeclTree). ts ++ note_remarks ns) (flats_both (decl_trees saved) (decl_form p d) fs)
    ∙ append_assoc (flat_map (decl_trees saved) (decl_form p d)) (flat_map (decl_trees saved) fs) (note_remarks ns)
    ∙ ap (λ (ts : List DeclTree). flat_map (decl_trees saved) (decl_form p d) ++ ts) (decls_law saved q ds)
    ∙ sym (append_assoc (flat_map (decl_trees saved) (decl_form p d)) (note_remarks q.notes) ds)
    ∙ ap (λ (ts : List DeclTree). ts ++ ds) (one_decl saved p d)
    ∙ append_assoc (note_remarks p.notes) (d ∷ []) ds

-- no comment comes first

no_front : (s : StmtTrees) → begins_with_statement s ≡ true → front_remarks (listed_stmts s) ≡ []
no_front no_stmts h = refl
no_front (more_stmts (Assign l r) rest) h = refl
no_front (more_stmts (If c x y) rest) h = refl
no_front (more_stmts (Do k body) rest) h = refl
no_front (more_stmts (Print items) rest) h = refl
no_front (more_stmts (Read items) rest) h = refl
no_front (more_stmts Stop rest) h = refl
no_front (more_stmts (Comment text) rest) h = absurd cc

all_behind : (s : StmtTrees) → begins_with_statement s ≡ true → behind_front (listed_stmts s) ≡ listed_stmts s
all_behind no_stmts h = refl
all_behind (more_stmts (Assign l r) rest) h = refl
all_behind (more_stmts (If c x y) rest) h = refl
all_behind (more_stmts (Do k body) rest) h = refl
all_behind (more_stmts (Print items) rest) h = refl
all_behind (more_stmts (Read items) rest) h = refl
all_behind (more_stmts Stop rest) h = refl
all_behind (more_stmts (Comment text) rest) h = absurd cc

front_both : (ns : List PrintedNote) (ts : List StmtTree) → front_remarks (note_trees ns ++ ts) ≡ note_remarks ns ++ front_remarks ts
front_both [] ts = refl
front_both (a_comment text ∷ ns) ts = ap (λ (ds : List DeclTree). Remark text ∷ ds) (front_both ns ts)
front_both (a_rejection x ∷ ns) ts = front_both ns ts

behind_notes : (ns : List PrintedNote) (ts : List StmtTree) → behind_front (note_trees ns ++ ts) ≡ behind_front ts
behind_notes [] ts = refl
behind_notes (a_comment text ∷ ns) ts = behind_notes ns ts
behind_notes (a_rejection x ∷ ns) ts = behind_notes ns ts

comments_only : (ns : List PrintedNote) (text : List ℕ) → rejections ns ≡ [] → rejections (ns ++ a_comment text ∷ []) ≡ []
comments_only [] text h = refl
comments_only (a_comment t ∷ ns) text h = comments_only ns text h
comments_only (a_rejection x ∷ ns) text h = absurd cc

one_only : (p : Spot) (d : DeclTree) → rejections p.notes ≡ [] → rejections (behind_piece p (decl_piece d)).notes ≡ []
one_only p (Program x) h = refl
one_only p Implicit h = refl
one_only p (Integer ds) h = refl
one_only p (Dimension ds) h = refl
one_only p (Parameter values) h = refl
one_only p (Save names) h = refl
one_only p (Remark text) h = comments_only p.notes text h

pub decls_only : (p : Spot) (ds : List DeclTree) → rejections p.notes ≡ [] → rejections (behind_pieces p (map decl_piece ds)).notes ≡ []
decls_only p [] h = h
decls_only p (d ∷ ds) h = decls_only (behind_piece p (decl_piece d)) ds (one_only p d h)

-- the form has the tree of the program, whatever SAVE without a list is read as
pub form_tree : (saved : List (List ℕ)) (t : ProgramTree) → AllRejecting t.body → begins_with_statement t.body ≡ true → program_form_tree saved (whole_form t) ≡ t
form_tree saved t named begins =
    let p = body_spot t in
    let q = ending_spot t in
    let f = whole_form t in
    let all : all_trees f ≡ note_trees p.notes ++ listed_stmts t.body =
    ap (λ (ts : List StmtTree). body_trees f.body ++ ts) (comments_here q 0 (codes "END"))
    ∙ stmts_law nothing 0 p t.body (decls_only start t.decls refl) named in
    let front : front_remarks (all_trees f) ≡ note_remarks p.notes =
    ap front_remarks all ∙ front_both p.notes (listed_stmts t.body) ∙ ap (λ (ds : List DeclTree). note_remarks p.notes ++ ds) (no_front t.body begins) ∙ append-nil (note_remarks p.notes) in
    let rest : pack_stmts (behind_front (all_trees f)) ≡ t.body =
    ap (λ (ts : List StmtTree). pack_stmts (behind_front ts)) all
    ∙ ap pack_stmts (behind_notes p.notes (listed_stmts t.body) ∙ all_behind t.body begins)
    ∙ packed t.body in
    let decls : flat_map (decl_trees saved) (decl_forms start t.decls) ++ front_remarks (all_trees f) ≡ t.decls =
    ap (λ (ds : List DeclTree). flat_map (decl_trees saved) (decl_forms start t.decls) ++ ds) front ∙ decls_law saved start t.decls in
    λ i. record { decls = decls i; body = rest i }

pub form_labelled : (t : ProgramTree) → IsTrue (body_keeps_labels [] (whole_form t).body)
form_labelled t = stmts_fit [] nothing 0 (body_spot t) t.body refl
