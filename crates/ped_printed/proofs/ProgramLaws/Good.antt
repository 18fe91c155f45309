-- Each printed piece of a program that fits can be read back.
use Rattle.std.proofs.Common.{◌≡◌, ℕ, suc, ◌+◌, ◌≤◌, List, [], ◌∷◌, ◌++◌, map, length, true, false, refl, sym, ap, subst, arith}
use Rattle.std.specs.Prelude.{codes, nat_lt, nat_le}
use Rattle.std.specs.List.{AllByRecursion, list_all}
use Rattle.std.proofs.lemmas.Bool.{and_parts}
use Rattle.ped_lines.specs.ped_base.specs.Letters as Letters
use Rattle.ped_lines.specs.ped_base.specs.Lists.{has_some}
use Rattle.ped_lines.specs.ped_tree.specs.Tree.{Head, StmtTree, StmtTrees, Assign, If, Do, Print, Read, Stop, Comment, no_stmts, more_stmts, DeclTree, Program, Implicit, Integer, Dimension, Parameter, Save, Remark, ProgramTree}
use Rattle.ped_lines.specs.ped_tree.specs.Numbering.{statement_count, statements_count}
use Rattle.ped_lines.specs.ped_tree.specs.Printing.{own_text, private_text, decl_text, is_remark}
use Rattle.ped_lines.specs.ped_tree.specs.Grammar.Words.{is_name}
use Rattle.ped_lines.specs.ped_tree.specs.Grammar.Characters.{text_of}
use Rattle.ped_lines.specs.ped_tree.specs.Grammar.Items.{Item, declares, keeps_private, end_if, ends_do, else_line, ends_program}
use Rattle.ped_lines.specs.ped_tree.specs.Grammar.StatementForms.{are_names, ReadsItem}
use Rattle.ped_lines.specs.ped_tree.specs.Grammar.Fits.{Surroundings, moved, in_if, in_loop, comment_fits, private_fits, stmt_fits, stmts_fit, decls_fit, begins_with_statement, at_body, fits}
use Rattle.ped_lines.specs.Printed.Fitting.{IsRejectedName, NoteFits, TextFits}
use Rattle.ped_lines.proofs.PrintedLaws.Grouped.{PartFits, all_joined}
use Rattle.ped_printed.specs.Statements.Printed.{ReadsOnly, first_line_item}
use Rattle.ped_printed.proofs.StatementLaws.Declarations.{declaration_prints}
use Rattle.ped_printed.proofs.StatementLaws.Statements.{statement_prints, private_prints, words_print}
use Rattle.ped_printed.proofs.ProgramLaws.Pieces.{Piece, noted, said, do_piece, end_do_piece, private_pieces, rejection_pieces, statement_pieces, statements_pieces, else_pieces, decl_piece, end_piece, program_pieces, part_of}
use Rattle.ped_printed.proofs.ProgramLaws.Fits.{own_fits, Within, is_simple, simple_parts, if_parts, do_parts, private_parts, comment_parts, DeclarationFits, declaration_parts}
use Rattle.ped_printed.proofs.ProgramLaws.FormsOf.{own_said, private_said, declared_said, declared_small}
use Rattle.ped_printed.proofs.ProgramLaws.LetteredDeclarations.{decl_text_fits, private_text_fits}
use Rattle.ped_printed.proofs.ProgramLaws.LetteredStatements.{own_text_fits, else_fits, end_if_fits, end_do_fits, end_fits}

-- a piece that can be read back
abbrev pub Good : Piece → Type 0
Good (noted n) = NoteFits n
Good (said depth text i) = TextFits depth text × ReadsItem (text_of text) i

abbrev pub AllGood : List Piece → Type 0
AllGood ps = AllByRecursion Good ps

reads : (text : List ℕ) (i : Item) → ReadsOnly text i → ReadsItem (text_of text) i
reads text i r = (r.only i).1 refl

short_name : (n : ℕ) → nat_le n 31 ≡ true → n ≤ 31
short_name n h = grind arith

rejected_name : (x : List ℕ) → is_name x ≡ true → IsRejectedName x
rejected_name x h =
    let k = and_parts (Letters.is_name x) (nat_le (length x) 31) h in
    record { short = short_name (length x) k.1; letters = (and_parts (Letters.begins_with_letter x) (list_all Letters.is_alphanumeric x) k.0).1 }

good_rejections : (names : List (List ℕ)) → list_all is_name names ≡ true → AllGood (rejection_pieces names)
good_rejections [] h = tt
good_rejections (x ∷ xs) h = let k = and_parts (is_name x) (list_all is_name xs) h in (rejected_name x k.0, good_rejections xs k.1)

good_private : (p : Surroundings) (h : Head) (depth : ℕ) (names : List (List ℕ)) → names ≡ h.private → private_fits p h ≡ true → AllGood (private_pieces depth names)
good_private p h depth [] same fits = tt
good_private p h depth (x ∷ xs) same fits =
    let keeps = private_parts p h fits (ap has_some (sym same)) in
    let are = subst (λ (ys : List (List ℕ)). are_names ys ≡ true) (sym same) keeps.names in
    let short = subst (λ (ys : List (List ℕ)). nat_lt 1300 (length (private_text ys)) ≡ false) (sym same) keeps.short in
    let said = private_said (x ∷ xs) are in
    ((private_text_fits depth (x ∷ xs) are short, reads (private_text (x ∷ xs)) (keeps_private (x ∷ xs)) (private_prints said.0 (x ∷ xs) said.1)), tt)

-- the first line of a statement
good_first : (p : Surroundings) (depth : ℕ) (s : StmtTree) → Within p s → own_fits s ≡ true → TextFits depth (own_text s) × ReadsItem (text_of (own_text s)) (first_line_item s)
good_first p depth s within own =
    let said = own_said s own in (
      own_text_fits depth s own within.short,
      reads (own_text s) (first_line_item s) (statement_prints said.text said.item s said.reads said.small said.says),
    )

-- an assignment, PRINT, READ or STOP
good_simple : (p : Surroundings) (depth : ℕ) (s : StmtTree) → is_simple s ≡ true → stmt_fits p s ≡ true → TextFits depth (own_text s) × ReadsItem (text_of (own_text s)) (first_line_item s)
good_simple p depth s is fits =
    let f = simple_parts p s is fits in
    good_first p depth s f.within f.own

mutual
  good_stmt : (p : Surroundings) (depth : ℕ) (s : StmtTree) → stmt_fits p s ≡ true → AllGood (statement_pieces depth s)
  good_stmt p depth (Assign l r) fits = (good_simple p depth (Assign l r) refl fits, tt)
  good_stmt p depth (If c a b) fits =
      let f = if_parts p c a b fits in
      let xs = statements_pieces (suc depth) a in
      let ys = else_pieces depth b in
      let last : AllGood (said depth (codes "END IF") end_if ∷ []) = ((end_if_fits depth, reads (codes "END IF") end_if words_print.of_end_if), tt) in
      let first = good_stmts (in_if p 1) (suc depth) a f.then_part in
      let second = good_else (in_if p (1 + statements_count a)) depth b f.else_part in
      (good_first p depth (If c a b) f.branch.within f.branch.own, all_joined Good xs (ys ++ said depth (codes "END IF") end_if ∷ []) first (all_joined Good ys (said depth (codes "END IF") end_if ∷ []) second last))
  good_stmt p depth (Do h body) fits =
      let f = do_parts p h body fits in
      let rs = rejection_pieces h.rejected in
      let ps = private_pieces (suc depth) h.private in
      let bs = statements_pieces (suc depth) body in
      let cs : List Piece = end_do_piece depth ∷ [] in
      let last : AllGood cs = ((end_do_fits depth, reads (codes "END DO") ends_do words_print.of_end_do), tt) in
      let rest = all_joined Good ps (bs ++ cs) (good_private p h (suc depth) h.private refl f.0.private) (all_joined Good bs cs (good_stmts (in_loop p h) (suc depth) body f.1) last) in
      all_joined Good rs (do_piece depth h body ∷ (ps ++ (bs ++ cs))) (good_rejections h.rejected f.0.rejected) (good_first p depth (Do h body) f.0.within f.0.own, rest)
  good_stmt p depth (Print items) fits = (good_simple p depth (Print items) refl fits, tt)
  good_stmt p depth (Read items) fits = (good_simple p depth (Read items) refl fits, tt)
  good_stmt p depth Stop fits = (good_simple p depth Stop refl fits, tt)
  good_stmt p depth (Comment text) fits = (comment_parts text fits, tt)

  good_stmts : (p : Surroundings) (depth : ℕ) (s : StmtTrees) → stmts_fit p s ≡ true → AllGood (statements_pieces depth s)
  good_stmts p depth no_stmts fits = tt
  good_stmts p depth (more_stmts s rest) fits =
      let f = and_parts (stmt_fits p s) (stmts_fit (moved p (statement_count s)) rest) fits in
      all_joined Good (statement_pieces depth s) (statements_pieces depth rest) (good_stmt p depth s f.0) (good_stmts (moved p (statement_count s)) depth rest f.1)

  good_else : (p : Surroundings) (depth : ℕ) (s : StmtTrees) → stmts_fit p s ≡ true → AllGood (else_pieces depth s)
  good_else p depth no_stmts fits = tt
  good_else p depth (more_stmts s rest) fits =
      let f = and_parts (stmt_fits p s) (stmts_fit (moved p (statement_count s)) rest) fits in (
        (else_fits depth, reads (codes "ELSE") else_line words_print.of_else),
        all_joined Good (statement_pieces (suc depth) s) (statements_pieces (suc depth) rest) (good_stmt p (suc depth) s f.0) (good_stmts (moved p (statement_count s)) (suc depth) rest f.1),
      )

-- declarations

good_decl : (phase : ℕ) (d : DeclTree) → is_remark d ≡ false → DeclarationFits phase d → TextFits 0 (decl_text d) × ReadsItem (text_of (decl_text d)) (declares d)
good_decl phase d other fits =
    let said = declared_said d other fits.declares in
    (decl_text_fits d other fits.declares fits.short, reads (decl_text d) (declares d) (declaration_prints said.0 d said.1 (declared_small d fits.declares)))

good_decls : (phase : ℕ) (ds : List DeclTree) → decls_fit phase ds ≡ true → AllGood (map decl_piece ds)
good_decls phase [] fits = tt
good_decls phase (Program x ∷ ds) fits = let f = declaration_parts phase (Program x) ds refl fits in (good_decl phase (Program x) refl f.0, good_decls 1 ds f.1)
good_decls phase (Implicit ∷ ds) fits = let f = declaration_parts phase Implicit ds refl fits in (good_decl phase Implicit refl f.0, good_decls 2 ds f.1)
good_decls phase (Integer xs ∷ ds) fits = let f = declaration_parts phase (Integer xs) ds refl fits in (good_decl phase (Integer xs) refl f.0, good_decls 3 ds f.1)
good_decls phase (Dimension xs ∷ ds) fits = let f = declaration_parts phase (Dimension xs) ds refl fits in (good_decl phase (Dimension xs) refl f.0, good_decls 3 ds f.1)
good_decls phase (Parameter vs ∷ ds) fits = let f = declaration_parts phase (Parameter vs) ds refl fits in (good_decl phase (Parameter vs) refl f.0, good_decls 3 ds f.1)
good_decls phase (Save names ∷ ds) fits = let f = declaration_parts phase (Save names) ds refl fits in (good_decl phase (Save names) refl f.0, good_decls 3 ds f.1)
good_decls phase (Remark text ∷ ds) fits = let f = and_parts (comment_fits text) (decls_fit phase ds) fits in (comment_parts text f.0, good_decls phase ds f.1)

pub good_program : (t : ProgramTree) → fits t ≡ true → AllGood (program_pieces t)
good_program t h =
    let parts = and_parts _ (begins_with_statement t.body) h in
    let f = and_parts (decls_fit 0 t.decls) (stmts_fit (at_body t) t.body) parts.0 in
    let ds = map decl_piece t.decls in
    let ss = statements_pieces 0 t.body in
    let last : AllGood (end_piece ∷ []) = ((end_fits 0, reads (codes "END") ends_program words_print.of_end), tt) in
    all_joined Good (ds ++ ss) (end_piece ∷ []) (all_joined Good ds ss (good_decls 0 t.decls f.0) (good_stmts (at_body t) 0 t.body f.1)) last

-- the parts can be read back

part_fits : (x : Piece) → Good x → PartFits (part_of x)
part_fits (noted n) g = g
part_fits (said depth text i) g = g.0

pub parts_fit : (xs : List Piece) → AllGood xs → AllByRecursion PartFits (map part_of xs)
parts_fit [] g = tt
parts_fit (x ∷ xs) g = (part_fits x g.0, parts_fit xs g.1)
