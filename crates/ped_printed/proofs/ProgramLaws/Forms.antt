-- The form of a printed program: its statements, as they stand among the pieces, nest to the program's tree.
use Rattle.std.proofs.Common.{◌≡◌, ℕ, suc, List, [], ◌∷◌, ◌++◌, None, refl, sym, ap, ◌∙◌, append_assoc, append-nil}
use Rattle.std.specs.Prelude.{codes}
use Rattle.ped_lines.specs.ped_tree.specs.Tree.{Head, StmtTree, StmtTrees, Assign, If, Do, Print, Read, Stop, Comment, no_stmts, more_stmts}
use Rattle.ped_lines.specs.ped_tree.specs.Printing.{own_text, private_text}
use Rattle.ped_lines.specs.ped_tree.specs.Grammar.Items.{block_if, else_line, end_if, begins_do, ends_do, Entry}
use Rattle.ped_lines.specs.ped_tree.specs.Grammar.BlockForms.{a_simple, PrivateForm, no_private, private_list, BodyForm, nothing, and_then, a_plain, an_if, a_do, RestForm, ends_if, has_else, loop, at_end_do, entry, private_entries, body_entries, rest_entries, whole_head}
use Rattle.ped_lines.specs.Printed.Printed.{a_rejection}
use Rattle.ped_printed.proofs.ProgramLaws.Pieces.{Piece, noted, said, do_piece, end_do_piece, private_pieces, rejection_pieces, statement_pieces, statements_pieces, else_pieces, Spot, statement_here, behind_piece, behind_pieces, entries_here, behind_both, entries_both}

-- the spots in a block IF: of the THEN part, of what follows it, of the ELSE part

abbrev pub then_spot : ℕ → Spot → StmtTree → Spot
then_spot depth p s = behind_piece p (said depth (own_text s) end_if)

abbrev pub rest_spot : ℕ → Spot → StmtTree → StmtTrees → Spot
rest_spot depth p s a = behind_pieces (then_spot depth p s) (statements_pieces (suc depth) a)

abbrev pub else_spot : ℕ → Spot → Spot
else_spot depth p = behind_piece p (said depth (codes "ELSE") else_line)

-- the spots in a DO: of the DO itself, of its PRIVATE, of its body, of its end

abbrev pub do_spot : Spot → Head → Spot
do_spot p h = behind_pieces p (rejection_pieces h.rejected)

abbrev pub private_spot : ℕ → Spot → Head → StmtTrees → Spot
private_spot depth p h body = behind_piece (do_spot p h) (do_piece depth h body)

abbrev pub inner_spot : ℕ → Spot → Head → StmtTrees → Spot
inner_spot depth p h body = behind_pieces (private_spot depth p h body) (private_pieces (suc depth) h.private)

abbrev pub end_spot : ℕ → Spot → Head → StmtTrees → Spot
end_spot depth p h body = behind_pieces (inner_spot depth p h body) (statements_pieces (suc depth) body)

abbrev pub private_form : Spot → ℕ → List (List ℕ) → PrivateForm
private_form p depth [] = no_private
private_form p depth (x ∷ xs) = private_list (statement_here p depth (private_text (x ∷ xs))) (x ∷ xs)

abbrev mutual
  -- the statements behind those of a form
  pub with_stmt : BodyForm → ℕ → Spot → StmtTree → BodyForm
  with_stmt b depth p (Assign l r) = and_then b (a_plain (statement_here p depth (own_text (Assign l r))) (a_simple (Assign l r)))
  with_stmt b depth p (If c x y) =
      and_then b (an_if (statement_here p depth (own_text (If c x y))) c
      (with_stmts nothing (suc depth) (then_spot depth p (If c x y)) x)
      (rest_form depth (rest_spot depth p (If c x y) x) y))
  with_stmt b depth p (Do h body) =
      and_then b (a_do (loop (statement_here (do_spot p h) depth (own_text (Do h body))) None (whole_head h [] [])
      (private_form (private_spot depth p h body) (suc depth) h.private)
      (with_stmts nothing (suc depth) (inner_spot depth p h body) body)
      (at_end_do (statement_here (end_spot depth p h body) depth (codes "END DO")))))
  with_stmt b depth p (Print items) = and_then b (a_plain (statement_here p depth (own_text (Print items))) (a_simple (Print items)))
  with_stmt b depth p (Read items) = and_then b (a_plain (statement_here p depth (own_text (Read items))) (a_simple (Read items)))
  with_stmt b depth p Stop = and_then b (a_plain (statement_here p depth (own_text Stop)) (a_simple Stop))
  with_stmt b depth p (Comment text) = b

  pub with_stmts : BodyForm → ℕ → Spot → StmtTrees → BodyForm
  with_stmts b depth p no_stmts = b
  with_stmts b depth p (more_stmts s rest) =
      with_stmts (with_stmt b depth p s) depth (behind_pieces p (statement_pieces depth s)) rest

  -- what follows a THEN part
  pub rest_form : ℕ → Spot → StmtTrees → RestForm
  rest_form depth p no_stmts = ends_if (statement_here p depth (codes "END IF"))
  rest_form depth p (more_stmts s rest) =
      has_else (statement_here p depth (codes "ELSE"))
      (with_stmts (with_stmt nothing (suc depth) (else_spot depth p) s) (suc depth) (behind_pieces (else_spot depth p) (statement_pieces (suc depth) s)) rest)
      (statement_here (behind_pieces (behind_pieces (else_spot depth p) (statement_pieces (suc depth) s)) (statements_pieces (suc depth) rest)) depth (codes "END IF"))

-- the statements of the form are those among the pieces

pub rejections_none : (p : Spot) (names : List (List ℕ)) → entries_here p (rejection_pieces names) ≡ []
rejections_none p [] = refl
rejections_none p (x ∷ xs) = rejections_none (behind_piece p (noted (a_rejection x))) xs

private_here : (p : Spot) (depth : ℕ) (names : List (List ℕ)) → private_entries (private_form p depth names) ≡ entries_here p (private_pieces depth names)
private_here p depth [] = refl
private_here p depth (x ∷ xs) = refl

mutual
  pub stmt_entries : (b : BodyForm) (depth : ℕ) (p : Spot) (s : StmtTree) → body_entries (with_stmt b depth p s) ≡ body_entries b ++ entries_here p (statement_pieces depth s)
  stmt_entries b depth p (Assign l r) = refl
  stmt_entries b depth p (If c x y) =
      let q = then_spot depth p (If c x y) in
      let r = rest_spot depth p (If c x y) x in
      let more = else_pieces depth y ++ said depth (codes "END IF") end_if ∷ [] in
      let then_is = stmts_entries nothing (suc depth) q x in
      let rest_is = rest_entries_here depth r y in
      ap (λ (es : List Entry). body_entries b ++ entry (statement_here p depth (own_text (If c x y))) (block_if c) ∷ es)
      ((λ i. then_is i ++ rest_is i) ∙ sym (entries_both q (statements_pieces (suc depth) x) more))
  stmt_entries b depth p (Do h body) =
      let q = do_spot p h in
      let r = private_spot depth p h body in
      let s = inner_spot depth p h body in
      let t = end_spot depth p h body in
      let first = entry (statement_here q depth (own_text (Do h body))) (begins_do None (whole_head h [] [])) in
      let last : List Entry = entry (statement_here t depth (codes "END DO")) ends_do ∷ [] in
      let ends = statements_pieces (suc depth) body ++ end_do_piece depth ∷ [] in
      let keeps = private_here r (suc depth) h.private in
      let inner = stmts_entries nothing (suc depth) s body in
      let whole : entries_here r (private_pieces (suc depth) h.private ++ ends) ≡ private_entries (private_form r (suc depth) h.private) ++ body_entries (with_stmts nothing (suc depth) s body) ++ last =
      entries_both r (private_pieces (suc depth) h.private) ends
      ∙ ap (λ (es : List Entry). entries_here r (private_pieces (suc depth) h.private) ++ es) (entries_both s (statements_pieces (suc depth) body) (end_do_piece depth ∷ []))
      ∙ (λ i. sym keeps i ++ (sym inner i ++ last))
      ∙ sym (append_assoc (private_entries (private_form r (suc depth) h.private)) (body_entries (with_stmts nothing (suc depth) s body)) last) in
      let all : entries_here p (statement_pieces depth (Do h body)) ≡ first ∷ (private_entries (private_form r (suc depth) h.private) ++ body_entries (with_stmts nothing (suc depth) s body) ++ last) =
      entries_both p (rejection_pieces h.rejected) (do_piece depth h body ∷ (private_pieces (suc depth) h.private ++ ends))
      ∙ ap (λ (es : List Entry). es ++ first ∷ entries_here r (private_pieces (suc depth) h.private ++ ends)) (rejections_none p h.rejected)
      ∙ ap (λ (es : List Entry). first ∷ es) whole in
      ap (λ (es : List Entry). body_entries b ++ es) (sym all)
  stmt_entries b depth p (Print items) = refl
  stmt_entries b depth p (Read items) = refl
  stmt_entries b depth p Stop = refl
  stmt_entries b depth p (Comment text) = sym (append-nil (body_entries b))

  pub stmts_entries : (b : BodyForm) (depth : ℕ) (p : Spot) (s : StmtTrees) → body_entries (with_stmts b depth p s) ≡ body_entries b ++ entries_here p (statements_pieces depth s)
  stmts_entries b depth p no_stmts = sym (append-nil (body_entries b))
  stmts_entries b depth p (more_stmts s rest) =
      let q = behind_pieces p (statement_pieces depth s) in
      let one = stmt_entries b depth p s in
      let more = stmts_entries (with_stmt b depth p s) depth q rest in
      more
      ∙ ap (λ (es : List Entry). es ++ entries_here q (statements_pieces depth rest)) one
      ∙ append_assoc (body_entries b) (entries_here p (statement_pieces depth s)) _
      ∙ ap (λ (es : List Entry). body_entries b ++ es) (sym (entries_both p (statement_pieces depth s) (statements_pieces depth rest)))

  rest_entries_here : (depth : ℕ) (p : Spot) (s : StmtTrees) → rest_entries (rest_form depth p s) ≡ entries_here p (else_pieces depth s ++ said depth (codes "END IF") end_if ∷ [])
  rest_entries_here depth p no_stmts = refl
  rest_entries_here depth p (more_stmts s rest) =
      let q = else_spot depth p in
      let r = behind_pieces q (statement_pieces (suc depth) s) in
      let ending : List Piece = said depth (codes "END IF") end_if ∷ [] in
      let one = stmt_entries nothing (suc depth) q s in
      let more = stmts_entries (with_stmt nothing (suc depth) q s) (suc depth) r rest in
      let xs = statement_pieces (suc depth) s in
      let ys = statements_pieces (suc depth) rest in
      let inner : body_entries (with_stmts (with_stmt nothing (suc depth) q s) (suc depth) r rest) ≡ entries_here q (xs ++ ys) =
      more ∙ ap (λ (es : List Entry). es ++ entries_here r ys) one ∙ sym (entries_both q xs ys) in
      let last = ap (λ (z : Spot). entries_here z ending) (sym (behind_both q xs ys)) in
      ap (λ (es : List Entry). entry (statement_here p depth (codes "ELSE")) else_line ∷ es)
      ((λ i. inner i ++ last i) ∙ sym (entries_both q (xs ++ ys) ending))
