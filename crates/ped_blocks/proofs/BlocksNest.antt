-- What is built of the statements of a form is the tree of the form.
use Rattle.std.proofs.Common.{◌≡◌, ℕ, List, [], ◌∷◌, ◌++◌, map, Bool, true, false, Option, Some, None, refl, sym, ap, ◌∙◌, arith, append_assoc, eqb, eq-eqb}
use Rattle.std.specs.Prelude.{IsTrue, ◌&&◌, ◌||◌, not}
use Rattle.std.specs.List.{list_any, flat_map}
use Rattle.std.proofs.lemmas.Bool.{eqb-true}
use Rattle.std.proofs.lemmas.List.{append-nil}
use Rattle.ped_tree.specs.Tree.{CondTree, Head, StmtTree, no_stmts, If, Do, DeclTree}
use Rattle.ped_tree.specs.Views.{pack_stmts}
use Rattle.ped_tree.specs.Grammar.Statement.{Statement}
use Rattle.ped_tree.specs.Grammar.Items.{end_if, ends_program, Entry}
use Rattle.ped_tree.specs.Grammar.Occurrences.{rejected_names}
use Rattle.ped_tree.specs.Grammar.BlockForms.{PlainForm, a_simple, a_continue, a_logical_if, PrivateForm, no_private, private_list, BodyForm, nothing, and_then, PartForm, a_plain, an_if, a_do, RestForm, ends_if, has_else, has_else_if, LoopForm, loop, EndingForm, at_plain, at_end_do, with_inner, plain_item, entry, private_entries, body_entries, part_entries, rest_entries, loop_entries, ending_entries, comments_of, plain_trees, names_of_private, comments_of_private, first_of_rest, whole_head, body_trees, part_trees, rest_trees, loop_trees, ending_trees, loop_label, has_label, is_free, private_keeps_labels, body_keeps_labels, part_keeps_labels, rest_keeps_labels, loop_keeps_labels, ending_keeps_labels}
use Rattle.ped_tree.specs.Grammar.ProgramForms.{DeclForm, a_declaration, a_save_of_all, ProgramForm, decl_entry, program_entries, decl_trees, program_form_tree}
use Rattle.ped_blocks.specs.Machine.{Arm, Frame, then_frame, else_frame, do_frame, Nesting, Built, nest, nothing_built, chained, close_loops, close_labelled, take_entry, take_entries, built_program}

-- the labels of the open loops
abbrev pub labels : List Frame → List (Option ℕ)
labels [] = []
labels (then_frame before arms c ∷ fs) = labels fs
labels (else_frame before arms ∷ fs) = labels fs
labels (do_frame before l h ∷ fs) = l ∷ labels fs

-- these declarations, and this nesting
abbrev pub built : List DeclTree → Nesting → Built
built ds n = record { declarations = ds; nesting = n }

pub and_left : (a b : Bool) → IsTrue (a && b) → IsTrue a
and_left true b h = refl
and_left false b h = h

pub and_right : (a b : Bool) → IsTrue (a && b) → IsTrue b
and_right true b h = h
and_right false b h = absurd cc

pub taken_both : (saved : List (List ℕ)) (b : Built) (es fs : List Entry) → take_entries saved b (es ++ fs) ≡ take_entries saved (take_entries saved b es) fs
taken_both saved b [] fs = refl
taken_both saved b (e ∷ es) fs = taken_both saved (take_entry saved b e) es fs

-- where no loop has the label, none ends
pub closes_none : (l : ℕ) (fs : List Frame) (cur : List StmtTree) → IsTrue (not (list_any (λ m. has_label m (Some l)) (labels fs))) → close_loops l fs cur ≡ nest fs cur
closes_none l [] cur h = refl
closes_none l (then_frame before arms c ∷ fs) cur h = refl
closes_none l (else_frame before arms ∷ fs) cur h = refl
closes_none l (do_frame before m head ∷ fs) cur h = let k : has_label m (Some l) ≡ false = grind arith in rw k refl

-- a statement with none of the labels ends no loop
free_closes_none : (label : Option ℕ) (fs : List Frame) (cur : List StmtTree) → IsTrue (not (list_any (λ l. has_label l label) (labels fs))) → close_labelled label fs cur ≡ nest fs cur
free_closes_none None fs cur h = refl
free_closes_none (Some l) fs cur h = closes_none l fs cur h

same_label : (l : ℕ) (before : List StmtTree) (h : Head) (fs : List Frame) (cur : List StmtTree) → close_loops l (do_frame before (Some l) h ∷ fs) cur ≡ close_loops l fs (before ++ Do h (pack_stmts cur) ∷ [])
same_label l before h fs cur = let k : eqb l l ≡ true = eq-eqb l l refl in rw k refl

-- a statement with the label of the innermost loop ends it, and those round it with that label
loop_closes : (l label : Option ℕ) (before : List StmtTree) (h : Head) (fs : List Frame) (cur : List StmtTree) → IsTrue (has_label l label)
    → close_labelled label (do_frame before l h ∷ fs) cur ≡ close_labelled l fs (before ++ Do h (pack_stmts cur) ∷ [])
loop_closes None label before h fs cur k = absurd cc
loop_closes (Some l) None before h fs cur k = absurd cc
loop_closes (Some l) (Some m) before h fs cur k = ap (λ (x : ℕ). close_loops x (do_frame before (Some l) h ∷ fs) cur) (eqb-true m l k) ∙ same_label l before h fs cur

not_free : (a b : Bool) → IsTrue (a || (false && b)) → IsTrue a
not_free true b h = refl
not_free false b h = absurd cc

abbrev pub Takes : List (List ℕ) → List Entry → List DeclTree → Nesting → Nesting → Type 0
Takes saved es ds m n = take_entries saved (built ds m) es ≡ built ds n

-- one list behind another
abbrev both : (saved : List (List ℕ)) (es fs : List Entry) (ds : List DeclTree) (m n o : Nesting) → Takes saved es ds m n → Takes saved fs ds n o → Takes saved (es ++ fs) ds m o
both saved es fs ds m n o p q = taken_both saved (built ds m) es fs ∙ ap (λ (b : Built). take_entries saved b fs) p ∙ q

plain_taken : (saved : List (List ℕ)) (ds : List DeclTree) (s : Statement) (p : PlainForm) (fs : List Frame) (cur : List StmtTree)
    → Takes saved (entry s (plain_item p) ∷ []) ds (nest fs cur) (close_labelled s.label fs (cur ++ (comments_of s ++ plain_trees p)))
plain_taken saved ds s (a_simple t) fs cur = ap (λ (x : List StmtTree). built ds (close_labelled s.label fs x)) (append_assoc cur (comments_of s) (t ∷ []))
plain_taken saved ds s a_continue fs cur = ap (λ (x : List StmtTree). built ds (close_labelled s.label fs (cur ++ x))) (sym (append-nil (comments_of s)))
plain_taken saved ds s (a_logical_if c t) fs cur = ap (λ (x : List StmtTree). built ds (close_labelled s.label fs x)) (append_assoc cur (comments_of s) (If c t no_stmts ∷ []))

private_taken : (saved : List (List ℕ)) (ds : List DeclTree) (p : PrivateForm) (before : List StmtTree) (l : Option ℕ) (h : Head) (rejected : List (List ℕ)) (fs : List Frame)
    → Takes saved (private_entries p) ds (nest (do_frame before l (whole_head h [] rejected) ∷ fs) []) (nest (do_frame before l (whole_head h (names_of_private p) rejected) ∷ fs) (comments_of_private p))
private_taken saved ds no_private before l h rejected fs = refl
private_taken saved ds (private_list s names) before l h rejected fs = refl

mutual
  pub body_taken : (saved : List (List ℕ)) (ds : List DeclTree) (b : BodyForm) (fs : List Frame) (cur : List StmtTree) → IsTrue (body_keeps_labels (labels fs) b)
      → Takes saved (body_entries b) ds (nest fs cur) (nest fs (cur ++ body_trees b))
  body_taken saved ds nothing fs cur h = ap (λ (x : List StmtTree). built ds (nest fs x)) (sym (append-nil cur))
  body_taken saved ds (and_then b p) fs cur h =
      let first = body_taken saved ds b fs cur (and_left (body_keeps_labels (labels fs) b) (part_keeps_labels (labels fs) p) h) in
      let second = part_taken saved ds p fs (cur ++ body_trees b) (and_right (body_keeps_labels (labels fs) b) (part_keeps_labels (labels fs) p) h) in
      both saved (body_entries b) (part_entries p) ds (nest fs cur) (nest fs (cur ++ body_trees b)) (nest fs ((cur ++ body_trees b) ++ part_trees p)) first second
      ∙ ap (λ (x : List StmtTree). built ds (nest fs x)) (append_assoc cur (body_trees b) (part_trees p))

  part_taken : (saved : List (List ℕ)) (ds : List DeclTree) (p : PartForm) (fs : List Frame) (cur : List StmtTree) → IsTrue (part_keeps_labels (labels fs) p)
      → Takes saved (part_entries p) ds (nest fs cur) (nest fs (cur ++ part_trees p))
  part_taken saved ds (a_plain s p) fs cur h = plain_taken saved ds s p fs cur ∙ ap (built ds) (free_closes_none s.label fs (cur ++ (comments_of s ++ plain_trees p)) h)
  part_taken saved ds (an_if s c b r) fs cur h =
      let before = cur ++ comments_of s in
      let front = and_left (is_free (labels fs) s && body_keeps_labels (labels fs) b) (rest_keeps_labels (labels fs) r) h in
      let inner = body_taken saved ds b (then_frame before [] c ∷ fs) [] (and_right (is_free (labels fs) s) (body_keeps_labels (labels fs) b) front) in
      let rest = rest_taken saved ds r before [] c fs (body_trees b) (and_right (is_free (labels fs) s && body_keeps_labels (labels fs) b) (rest_keeps_labels (labels fs) r) h) in
      let whole = If c (pack_stmts (body_trees b ++ comments_of (first_of_rest r))) (pack_stmts (rest_trees r)) ∷ [] in
      both saved (body_entries b) (rest_entries r) ds (nest (then_frame before [] c ∷ fs) []) (nest (then_frame before [] c ∷ fs) (body_trees b)) (nest fs (before ++ whole)) inner rest
      ∙ ap (λ (x : List StmtTree). built ds (nest fs x)) (append_assoc cur (comments_of s) whole)
  part_taken saved ds (a_do d) fs cur h =
      let free = not (list_any (λ l. has_label l (loop_label d)) (labels fs)) in
      loop_taken saved ds d fs cur (and_right free (loop_keeps_labels (labels fs) d) h)
      ∙ ap (built ds) (free_closes_none (loop_label d) fs (cur ++ loop_trees d) (and_left free (loop_keeps_labels (labels fs) d) h))

  rest_taken : (saved : List (List ℕ)) (ds : List DeclTree) (r : RestForm) (before : List StmtTree) (arms : List Arm) (c : CondTree) (fs : List Frame) (cur : List StmtTree) → IsTrue (rest_keeps_labels (labels fs) r)
      → Takes saved (rest_entries r) ds (nest (then_frame before arms c ∷ fs) cur) (nest fs (before ++ chained (record { condition = c; then_part = cur ++ comments_of (first_of_rest r) } ∷ arms) (rest_trees r)))
  rest_taken saved ds (ends_if s) before arms c fs cur h = refl
  rest_taken saved ds (has_else s b e) before arms c fs cur h =
      let arms' = record { condition = c; then_part = cur ++ comments_of s } ∷ arms in
      let front = and_left (is_free (labels fs) s && body_keeps_labels (labels fs) b) (is_free (labels fs) e) h in
      let inner = body_taken saved ds b (else_frame before arms' ∷ fs) [] (and_right (is_free (labels fs) s) (body_keeps_labels (labels fs) b) front) in
      both saved (body_entries b) (entry e end_if ∷ []) ds (nest (else_frame before arms' ∷ fs) []) (nest (else_frame before arms' ∷ fs) (body_trees b)) (nest fs (before ++ chained arms' (body_trees b ++ comments_of e))) inner refl
  rest_taken saved ds (has_else_if s d b r) before arms c fs cur h =
      let arms' = record { condition = c; then_part = cur ++ comments_of s } ∷ arms in
      let front = and_left (is_free (labels fs) s && body_keeps_labels (labels fs) b) (rest_keeps_labels (labels fs) r) h in
      let inner = body_taken saved ds b (then_frame before arms' d ∷ fs) [] (and_right (is_free (labels fs) s) (body_keeps_labels (labels fs) b) front) in
      let rest = rest_taken saved ds r before arms' d fs (body_trees b) (and_right (is_free (labels fs) s && body_keeps_labels (labels fs) b) (rest_keeps_labels (labels fs) r) h) in
      both saved (body_entries b) (rest_entries r) ds (nest (then_frame before arms' d ∷ fs) []) (nest (then_frame before arms' d ∷ fs) (body_trees b))
      (nest fs (before ++ chained (record { condition = d; then_part = body_trees b ++ comments_of (first_of_rest r) } ∷ arms') (rest_trees r))) inner rest

  pub loop_taken : (saved : List (List ℕ)) (ds : List DeclTree) (d : LoopForm) (fs : List Frame) (cur : List StmtTree) → IsTrue (loop_keeps_labels (labels fs) d)
      → Takes saved (loop_entries d) ds (nest fs cur) (close_labelled (loop_label d) fs (cur ++ loop_trees d))
  loop_taken saved ds (loop s l head p b e) fs cur h =
      let before = cur ++ comments_of s in
      let rejected = rejected_names s.directives in
      let whole = whole_head head (names_of_private p) rejected in
      let frames = do_frame before l whole ∷ fs in
      let start = nest (do_frame before l (whole_head head [] rejected) ∷ fs) [] in
      let x = is_free (labels fs) s && private_keeps_labels (l ∷ labels fs) p in
      let y = body_keeps_labels (l ∷ labels fs) b in
      let z = ending_keeps_labels (l ∷ labels fs) l e in
      let inner = body_taken saved ds b frames (comments_of_private p) (and_right x y (and_left (x && y) z h)) in
      let parts = comments_of_private p ++ body_trees b ++ ending_trees e in
      let all = before ++ Do whole (pack_stmts parts) ∷ [] in
      let ending = ending_taken saved ds e l before whole fs (comments_of_private p ++ body_trees b) (and_right (x && y) z h) in
      both saved (private_entries p ++ body_entries b) (ending_entries e) ds start (nest frames (comments_of_private p ++ body_trees b)) (close_labelled l fs all)
      (both saved (private_entries p) (body_entries b) ds start (nest frames (comments_of_private p)) (nest frames (comments_of_private p ++ body_trees b)) (private_taken saved ds p before l head rejected fs) inner) ending
      ∙ ap (λ (t : List StmtTree). built ds (close_labelled l fs t)) (append_assoc cur (comments_of s) (Do whole (pack_stmts parts) ∷ []))

  ending_taken : (saved : List (List ℕ)) (ds : List DeclTree) (e : EndingForm) (l : Option ℕ) (before : List StmtTree) (head : Head) (fs : List Frame) (cur : List StmtTree) → IsTrue (ending_keeps_labels (l ∷ labels fs) l e)
      → Takes saved (ending_entries e) ds (nest (do_frame before l head ∷ fs) cur) (close_labelled l fs (before ++ Do head (pack_stmts (cur ++ ending_trees e)) ∷ []))
  ending_taken saved ds (at_plain s p) l before head fs cur h =
      plain_taken saved ds s p (do_frame before l head ∷ fs) cur ∙ ap (built ds) (loop_closes l s.label before head fs (cur ++ (comments_of s ++ plain_trees p)) h)
  ending_taken saved ds (at_end_do s) None before head fs cur h = refl
  ending_taken saved ds (at_end_do s) (Some l) before head fs cur h =
      ap (built ds) (loop_closes (Some l) s.label before head fs (cur ++ comments_of s) (not_free (has_label (Some l) s.label) (is_free (Some l ∷ labels fs) s) h))
  ending_taken saved ds (with_inner d) l before head fs cur h =
      let frames = do_frame before l head ∷ fs in
      let same = and_left (has_label l (loop_label d)) (loop_keeps_labels (labels frames) d) h in
      loop_taken saved ds d frames cur (and_right (has_label l (loop_label d)) (loop_keeps_labels (labels frames) d) h)
      ∙ ap (built ds) (loop_closes l (loop_label d) before head fs (cur ++ loop_trees d) same)

-- declarations add their trees
decls_taken : (saved : List (List ℕ)) (fs : List DeclForm) (ds : List DeclTree) (n : Nesting) → take_entries saved (built ds n) (map decl_entry fs) ≡ built (ds ++ flat_map (decl_trees saved) fs) n
decls_taken saved [] ds n = ap (λ (x : List DeclTree). built x n) (sym (append-nil ds))
decls_taken saved (a_declaration s d ∷ fs) ds n =
    let one = decl_trees saved (a_declaration s d) in
    decls_taken saved fs (ds ++ one) n ∙ ap (λ (x : List DeclTree). built x n) (append_assoc ds one (flat_map (decl_trees saved) fs))
decls_taken saved (a_save_of_all s ∷ fs) ds n =
    let one = decl_trees saved (a_save_of_all s) in
    decls_taken saved fs (ds ++ one) n ∙ ap (λ (x : List DeclTree). built x n) (append_assoc ds one (flat_map (decl_trees saved) fs))

-- what is built of the statements of a program's form is its tree
pub form_built : (saved : List (List ℕ)) (f : ProgramForm) → IsTrue (body_keeps_labels [] f.body) → built_program (take_entries saved nothing_built (program_entries f)) ≡ program_form_tree saved f
form_built saved f h =
    let ds = flat_map (decl_trees saved) f.declarations in
    let declared = decls_taken saved f.declarations [] (nest [] []) in
    let executed = body_taken saved ds f.body [] [] h in
    ap built_program
    (taken_both saved nothing_built (map decl_entry f.declarations ++ body_entries f.body) (entry f.ending ends_program ∷ [])
    ∙ ap (λ (b : Built). take_entries saved b (entry f.ending ends_program ∷ []))
    (taken_both saved nothing_built (map decl_entry f.declarations) (body_entries f.body) ∙ ap (λ (b : Built). take_entries saved b (body_entries f.body)) declared ∙ executed))

pub one_tree_of : (saved : List (List ℕ)) (f g : ProgramForm) → program_entries f ≡ program_entries g → IsTrue (body_keeps_labels [] f.body) → IsTrue (body_keeps_labels [] g.body) → program_form_tree saved f ≡ program_form_tree saved g
one_tree_of saved f g e p q = sym (form_built saved f p) ∙ ap (λ (es : List Entry). built_program (take_entries saved nothing_built es)) e ∙ form_built saved g q
