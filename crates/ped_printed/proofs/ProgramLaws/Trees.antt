-- The trees of the statements among the pieces are those that were printed.
use Rattle.std.proofs.Common.{◌≡◌, ℕ, suc, ◌+◌, List, [], ◌∷◌, ◌++◌, map, Bool, true, false, cond, refl, sym, ap, ◌∙◌, append_assoc, append-nil}
use Rattle.std.specs.Prelude.{codes, ◌&&◌, filter}
use Rattle.std.specs.List.{list_all}
use Rattle.ped_lines.specs.ped_tree.specs.Tree.{StmtTree, StmtTrees, Assign, If, Do, Print, Read, Stop, Comment, no_stmts, more_stmts}
use Rattle.ped_lines.specs.ped_tree.specs.Views.{pack_stmts}
use Rattle.ped_lines.specs.ped_tree.specs.Grammar.Words.{is_name}
use Rattle.ped_lines.specs.ped_tree.specs.Printing.{own_text, private_text}
use Rattle.ped_lines.specs.ped_tree.specs.Grammar.Statement.{Note}
use Rattle.ped_lines.specs.ped_tree.specs.Grammar.Items.{Item, end_if, ends_do}
use Rattle.ped_lines.specs.ped_tree.specs.Grammar.Occurrences.{is_rejection, rejected_name, rejected_names}
use Rattle.ped_lines.specs.ped_tree.specs.Grammar.ProgramRefusals.{listed_stmts}
use Rattle.ped_lines.specs.ped_tree.specs.Grammar.BlockForms.{BodyForm, nothing, comments_of, whole_head, names_of_private, comments_of_private, first_of_rest, body_trees, rest_trees}
use Rattle.ped_lines.specs.Printed.Printed.{PrintedNote, a_comment, a_rejection}
use Rattle.ped_lines.specs.Printed.Cut.{comments_at, directives_at}
use Rattle.ped_printed.proofs.ProgramLaws.Pieces.{Piece, said, do_piece, end_do_piece, private_pieces, rejection_pieces, statement_pieces, statements_pieces, else_pieces, Spot, spot, statement_here, behind_pieces, behind_both}
use Rattle.ped_printed.proofs.ProgramLaws.Forms.{then_spot, rest_spot, else_spot, do_spot, private_spot, inner_spot, end_spot, private_form, with_stmt, with_stmts, rest_form}

-- the comments among notes
abbrev pub note_trees : List PrintedNote → List StmtTree
note_trees [] = []
note_trees (a_comment text ∷ ns) = Comment text ∷ note_trees ns
note_trees (a_rejection x ∷ ns) = note_trees ns

-- the rejected names among notes
abbrev pub rejections : List PrintedNote → List (List ℕ)
rejections [] = []
rejections (a_comment text ∷ ns) = rejections ns
rejections (a_rejection x ∷ ns) = x ∷ rejections ns

-- all rejected names are names
abbrev mutual
  pub Rejecting : StmtTree → Type 0
  Rejecting (Assign l r) = Unit {0}
  Rejecting (If c x y) = AllRejecting x × AllRejecting y
  Rejecting (Do h body) = (list_all is_name h.rejected ≡ true) × AllRejecting body
  Rejecting (Print items) = Unit {0}
  Rejecting (Read items) = Unit {0}
  Rejecting Stop = Unit {0}
  Rejecting (Comment text) = Unit {0}

  pub AllRejecting : StmtTrees → Type 0
  AllRejecting no_stmts = Unit {0}
  AllRejecting (more_stmts s rest) = Rejecting s × AllRejecting rest

comments_are : (n : ℕ) (ns : List PrintedNote) → map (λ (m : Note). Comment m.text) (comments_at n ns) ≡ note_trees ns
comments_are n [] = refl
comments_are n (a_comment text ∷ ns) = ap (λ (ts : List StmtTree). Comment text ∷ ts) (comments_are (n + 1) ns)
comments_are n (a_rejection x ∷ ns) = comments_are (n + 1) ns

pub comments_here : (p : Spot) (depth : ℕ) (text : List ℕ) → comments_of (statement_here p depth text) ≡ note_trees p.notes
comments_here p depth text = comments_are p.line p.notes

and_left : (a b : Bool) → (a && b) ≡ true → a ≡ true
and_left true b h = refl
and_left false b h = absurd cc

and_right : (a b : Bool) → (a && b) ≡ true → b ≡ true
and_right true b h = h
and_right false b h = absurd cc

rejections_are : (n : ℕ) (ns : List PrintedNote) → list_all is_name (rejections ns) ≡ true → rejected_names (directives_at n ns) ≡ rejections ns
rejections_are n [] h = refl
rejections_are n (a_comment text ∷ ns) h = rejections_are (n + 1) ns h
rejections_are n (a_rejection x ∷ ns) h =
    let more = rejections_are (n + 1) ns (and_right (is_name x) (list_all is_name (rejections ns)) h) in
    let named = and_left (is_name x) (list_all is_name (rejections ns)) h in
    let d : Note = record { line = n; text = codes "REJECT" ++ x } in
    ap (λ (b : Bool). map rejected_name (cond b (d ∷ filter (λ (m : Note). is_rejection m.text) (directives_at (n + 1) ns)) (filter (λ (m : Note). is_rejection m.text) (directives_at (n + 1) ns)))) named
    ∙ ap (λ (xs : List (List ℕ)). x ∷ xs) more

-- the notes behind the directives of a DO

pub notes_rejected : (p : Spot) (names : List (List ℕ)) → behind_pieces p (rejection_pieces names) ≡ spot p.line (p.notes ++ map a_rejection names)
notes_rejected p [] = ap (λ (ns : List PrintedNote). spot p.line ns) (sym (append-nil p.notes))
notes_rejected p (x ∷ xs) =
    notes_rejected (spot p.line (p.notes ++ a_rejection x ∷ [])) xs
    ∙ ap (λ (ns : List PrintedNote). spot p.line ns) (append_assoc p.notes (a_rejection x ∷ []) (map a_rejection xs))

trees_rejected : (ns : List PrintedNote) (names : List (List ℕ)) → note_trees (ns ++ map a_rejection names) ≡ note_trees ns
trees_rejected [] [] = refl
trees_rejected [] (x ∷ xs) = trees_rejected [] xs
trees_rejected (a_comment text ∷ ns) names = ap (λ (ts : List StmtTree). Comment text ∷ ts) (trees_rejected ns names)
trees_rejected (a_rejection x ∷ ns) names = trees_rejected ns names

rejections_both : (ns : List PrintedNote) (names : List (List ℕ)) → rejections (ns ++ map a_rejection names) ≡ rejections ns ++ names
rejections_both [] [] = refl
rejections_both [] (x ∷ xs) = ap (λ (ys : List (List ℕ)). x ∷ ys) (rejections_both [] xs)
rejections_both (a_comment text ∷ ns) names = rejections_both ns names
rejections_both (a_rejection x ∷ ns) names = ap (λ (ys : List (List ℕ)). x ∷ ys) (rejections_both ns names)

-- the notes behind a statement

abbrev pub notes_after : List PrintedNote → StmtTree → List PrintedNote
notes_after ns (Assign l r) = []
notes_after ns (If c x y) = []
notes_after ns (Do h body) = []
notes_after ns (Print items) = []
notes_after ns (Read items) = []
notes_after ns Stop = []
notes_after ns (Comment text) = ns ++ a_comment text ∷ []

clean : (p : Spot) (xs : List Piece) (depth : ℕ) (text : List ℕ) (i : Item) → (behind_pieces p (xs ++ said depth text i ∷ [])).notes ≡ []
clean p xs depth text i = ap (λ (q : Spot). q.notes) (behind_both p xs (said depth text i ∷ []))

pub notes_are : (depth : ℕ) (p : Spot) (s : StmtTree) → (behind_pieces p (statement_pieces depth s)).notes ≡ notes_after p.notes s
notes_are depth p (Assign l r) = refl
notes_are depth p (If c x y) =
    let q = then_spot depth p (If c x y) in
    let xs = statements_pieces (suc depth) x in
    let ys = else_pieces depth y in
    ap (λ (ps : List Piece). (behind_pieces q ps).notes) (sym (append_assoc xs ys (said depth (codes "END IF") end_if ∷ [])))
    ∙ clean q (xs ++ ys) depth (codes "END IF") end_if
notes_are depth p (Do h body) =
    let ps = private_pieces (suc depth) h.private in
    let bs = statements_pieces (suc depth) body in
    let r = private_spot depth p h body in
    ap (λ (q : Spot). q.notes) (behind_both p (rejection_pieces h.rejected) (do_piece depth h body ∷ (ps ++ (bs ++ end_do_piece depth ∷ []))))
    ∙ ap (λ (xs : List Piece). (behind_pieces r xs).notes) (sym (append_assoc ps bs (end_do_piece depth ∷ [])))
    ∙ clean r (ps ++ bs) depth (codes "END DO") ends_do
notes_are depth p (Print items) = refl
notes_are depth p (Read items) = refl
notes_are depth p Stop = refl
notes_are depth p (Comment text) = refl

comments_only : (ns : List PrintedNote) (text : List ℕ) → rejections ns ≡ [] → rejections (ns ++ a_comment text ∷ []) ≡ []
comments_only [] text h = refl
comments_only (a_comment t ∷ ns) text h = comments_only ns text h
comments_only (a_rejection x ∷ ns) text h = absurd cc

only_after : (ns : List PrintedNote) (s : StmtTree) → rejections ns ≡ [] → rejections (notes_after ns s) ≡ []
only_after ns (Comment text) h = comments_only ns text h
only_after ns s h = elim s as (λ s. rejections (notes_after ns s) ≡ []) [
  | Assign l r ↦ refl
  | If c x y ↦ refl
  | Do h b ↦ refl
  | Print items ↦ refl
  | Read items ↦ refl
  | Stop ↦ refl
  | Comment text ↦ comments_only ns text h
]

pub only_behind : (depth : ℕ) (p : Spot) (s : StmtTree) → rejections p.notes ≡ [] → rejections (behind_pieces p (statement_pieces depth s)).notes ≡ []
only_behind depth p s h = ap rejections (notes_are depth p s) ∙ only_after p.notes s h

pub packed : (s : StmtTrees) → pack_stmts (listed_stmts s) ≡ s
packed no_stmts = refl
packed (more_stmts s rest) = ap (λ (r : StmtTrees). more_stmts s r) (packed rest)

trees_push : (ns : List PrintedNote) (text : List ℕ) → note_trees (ns ++ a_comment text ∷ []) ≡ note_trees ns ++ Comment text ∷ []
trees_push [] text = refl
trees_push (a_comment t ∷ ns) text = ap (λ (ts : List StmtTree). Comment t ∷ ts) (trees_push ns text)
trees_push (a_rejection x ∷ ns) text = trees_push ns text

rest_comments : (depth : ℕ) (p : Spot) (s : StmtTrees) → comments_of (first_of_rest (rest_form depth p s)) ≡ note_trees p.notes
rest_comments depth p no_stmts = comments_here p depth (codes "END IF")
rest_comments depth p (more_stmts s rest) = comments_here p depth (codes "ELSE")

private_names : (p : Spot) (depth : ℕ) (names : List (List ℕ)) → names_of_private (private_form p depth names) ≡ names
private_names p depth [] = refl
private_names p depth (x ∷ xs) = refl

private_comments : (p : Spot) (depth : ℕ) (names : List (List ℕ)) → p.notes ≡ [] → comments_of_private (private_form p depth names) ≡ []
private_comments p depth [] h = refl
private_comments p depth (x ∷ xs) h = comments_here p depth (private_text (x ∷ xs)) ∙ ap note_trees h

private_clean : (p : Spot) (depth : ℕ) (names : List (List ℕ)) → p.notes ≡ [] → (behind_pieces p (private_pieces depth names)).notes ≡ []
private_clean p depth [] h = h
private_clean p depth (x ∷ xs) h = refl

-- a plain statement with its comments
plain_law : (xs : List StmtTree) (p : Spot) (depth : ℕ) (text : List ℕ) (s : StmtTree) → xs ++ (comments_of (statement_here p depth text) ++ s ∷ []) ++ [] ≡ xs ++ note_trees p.notes ++ s ∷ []
plain_law xs p depth text s =
    append-nil (xs ++ (comments_of (statement_here p depth text) ++ s ∷ []))
    ∙ ap (λ (ts : List StmtTree). xs ++ (ts ++ s ∷ [])) (comments_here p depth text)
    ∙ sym (append_assoc xs (note_trees p.notes) (s ∷ []))

mutual
  pub stmt_law : (b : BodyForm) (depth : ℕ) (p : Spot) (s : StmtTree) → rejections p.notes ≡ [] → Rejecting s
      → body_trees (with_stmt b depth p s) ++ note_trees (notes_after p.notes s) ≡ body_trees b ++ note_trees p.notes ++ s ∷ []
  stmt_law b depth p (Assign l r) only named = plain_law (body_trees b) p depth (own_text (Assign l r)) (Assign l r)
  stmt_law b depth p (If c x y) only named =
      let q = then_spot depth p (If c x y) in
      let r = rest_spot depth p (If c x y) x in
      let then_is : body_trees (with_stmts nothing (suc depth) q x) ++ comments_of (first_of_rest (rest_form depth r y)) ≡ listed_stmts x =
      ap (λ (ts : List StmtTree). body_trees (with_stmts nothing (suc depth) q x) ++ ts) (rest_comments depth r y)
      ∙ stmts_law nothing (suc depth) q x refl named.0 in
      let rest_is = rest_law depth r y named.1 in
      let whole : If c (pack_stmts (body_trees (with_stmts nothing (suc depth) q x) ++ comments_of (first_of_rest (rest_form depth r y)))) (pack_stmts (rest_trees (rest_form depth r y))) ≡ If c x y =
      (λ i. If c (pack_stmts (then_is i)) (pack_stmts (rest_is i))) ∙ (λ i. If c (packed x i) (packed y i)) in
      ap (λ (t : StmtTree). body_trees b ++ (comments_of (statement_here p depth (own_text (If c x y))) ++ t ∷ []) ++ []) whole
      ∙ plain_law (body_trees b) p depth (own_text (If c x y)) (If c x y)
  stmt_law b depth p (Do h body) only named =
      let q = do_spot p h in
      let r = private_spot depth p h body in
      let s = inner_spot depth p h body in
      let t = end_spot depth p h body in
      let st = statement_here q depth (own_text (Do h body)) in
      let notes : q.notes ≡ p.notes ++ map a_rejection h.rejected = ap (λ (z : Spot). z.notes) (notes_rejected p h.rejected) in
      let names : rejections q.notes ≡ h.rejected = ap rejections notes ∙ rejections_both p.notes h.rejected ∙ ap (λ (ys : List (List ℕ)). ys ++ h.rejected) only in
      let rejected : rejected_names st.directives ≡ h.rejected = rejections_are q.line q.notes (ap (list_all is_name) names ∙ named.0) ∙ names in
      let private = private_names r (suc depth) h.private in
      let clear : s.notes ≡ [] = private_clean r (suc depth) h.private refl in
      let inner : body_trees (with_stmts nothing (suc depth) s body) ++ note_trees t.notes ≡ listed_stmts body =
      stmts_law nothing (suc depth) s body (ap rejections clear) named.1 ∙ ap (λ (ns : List PrintedNote). note_trees ns ++ listed_stmts body) clear in
      let last = statement_here t depth (codes "END DO") in
      let ending : comments_of last ≡ note_trees t.notes = comments_here t depth (codes "END DO") in
      let early = private_comments r (suc depth) h.private refl in
      let bodies : comments_of_private (private_form r (suc depth) h.private) ++ body_trees (with_stmts nothing (suc depth) s body) ++ comments_of last ≡ listed_stmts body =
      (λ i. early i ++ body_trees (with_stmts nothing (suc depth) s body) ++ ending i) ∙ inner in
      let head : whole_head (whole_head h [] []) (names_of_private (private_form r (suc depth) h.private)) (rejected_names st.directives) ≡ h = λ i. record h { private = private i; rejected = rejected i } in
      let whole : Do (whole_head (whole_head h [] []) (names_of_private (private_form r (suc depth) h.private)) (rejected_names st.directives)) (pack_stmts (comments_of_private (private_form r (suc depth) h.private) ++ body_trees (with_stmts nothing (suc depth) s body) ++ comments_of last)) ≡ Do h body =
      (λ i. Do (head i) (pack_stmts (bodies i))) ∙ ap (Do h) (packed body) in
      let front : comments_of st ≡ note_trees p.notes = comments_here q depth (own_text (Do h body)) ∙ ap note_trees notes ∙ trees_rejected p.notes h.rejected in
      append-nil _
      ∙ (λ i. body_trees b ++ (front i ++ whole i ∷ []))
      ∙ sym (append_assoc (body_trees b) (note_trees p.notes) (Do h body ∷ []))
  stmt_law b depth p (Print items) only named = plain_law (body_trees b) p depth (own_text (Print items)) (Print items)
  stmt_law b depth p (Read items) only named = plain_law (body_trees b) p depth (own_text (Read items)) (Read items)
  stmt_law b depth p Stop only named = plain_law (body_trees b) p depth (own_text Stop) Stop
  stmt_law b depth p (Comment text) only named =
      ap (λ (ts : List StmtTree). body_trees b ++ ts) (trees_push p.notes text) ∙ sym (append_assoc (body_trees b) (note_trees p.notes) (Comment text ∷ []))

  pub stmts_law : (b : BodyForm) (depth : ℕ) (p : Spot) (s : StmtTrees) → rejections p.notes ≡ [] → AllRejecting s
      → body_trees (with_stmts b depth p s) ++ note_trees (behind_pieces p (statements_pieces depth s)).notes ≡ body_trees b ++ note_trees p.notes ++ listed_stmts s
  stmts_law b depth p no_stmts only named = sym (append-nil (body_trees b ++ note_trees p.notes))
  stmts_law b depth p (more_stmts s rest) only named =
      let q = behind_pieces p (statement_pieces depth s) in
      let more = stmts_law (with_stmt b depth p s) depth q rest (only_behind depth p s only) named.1 in
      let one = stmt_law b depth p s only named.0 in
      ap (λ (z : Spot). body_trees (with_stmts (with_stmt b depth p s) depth q rest) ++ note_trees z.notes) (behind_both p (statement_pieces depth s) (statements_pieces depth rest))
      ∙ more
      ∙ ap (λ (ns : List PrintedNote). body_trees (with_stmt b depth p s) ++ note_trees ns ++ listed_stmts rest) (notes_are depth p s)
      ∙ ap (λ (ts : List StmtTree). ts ++ listed_stmts rest) one
      ∙ append_assoc (body_trees b ++ note_trees p.notes) (s ∷ []) (listed_stmts rest)

  rest_law : (depth : ℕ) (p : Spot) (s : StmtTrees) → AllRejecting s → rest_trees (rest_form depth p s) ≡ listed_stmts s
  rest_law depth p no_stmts named = refl
  rest_law depth p (more_stmts s rest) named =
      let q = else_spot depth p in
      let r = behind_pieces q (statement_pieces (suc depth) s) in
      let t = behind_pieces r (statements_pieces (suc depth) rest) in
      let one = stmt_law nothing (suc depth) q s refl named.0 in
      let more = stmts_law (with_stmt nothing (suc depth) q s) (suc depth) r rest (only_behind (suc depth) q s refl) named.1 in
      ap (λ (ts : List StmtTree). body_trees (with_stmts (with_stmt nothing (suc depth) q s) (suc depth) r rest) ++ ts) (comments_here t depth (codes "END IF"))
      ∙ more
      ∙ ap (λ (ns : List PrintedNote). body_trees (with_stmt nothing (suc depth) q s) ++ note_trees ns ++ listed_stmts rest) (notes_are (suc depth) q s)
      ∙ ap (λ (ts : List StmtTree). ts ++ listed_stmts rest) one
