-- The executable statements of a text at which nothing is refused fit.
use Rattle.std.proofs.Common.{◌≡◌, ℕ, ◌+◌, List, [], ◌∷◌, ◌++◌, Bool, true, false, Option, refl, ap, subst, ◌∙◌, arith, append_assoc}
use Rattle.std.specs.Prelude.{IsTrue, ◌&&◌}
use Rattle.ped_lines.specs.ped_tree.specs.Tree.{Head}
use Rattle.ped_lines.specs.ped_tree.specs.Grammar.Items.{block_if, else_if, else_line, end_if, begins_do, ends_do, Entry}
use Rattle.ped_lines.specs.ped_tree.specs.Grammar.Contexts.{Block, in_then, in_else, in_do, Context, left_by, begun, behind, behind_all}
use Rattle.ped_lines.specs.ped_tree.specs.Grammar.BlockForms.{PrivateForm, BodyForm, nothing, and_then, PartForm, a_plain, an_if, a_do, RestForm, ends_if, has_else, has_else_if, LoopForm, loop, EndingForm, at_plain, at_end_do, with_inner, plain_item, plain_trees, entry, private_entries, body_entries, part_entries, rest_entries, loop_entries, ending_entries, comments_of, comments_of_private, first_of_rest, body_trees, part_trees, rest_trees, loop_trees, ending_trees, loop_label, has_label, is_free, private_keeps_labels, body_keeps_labels, part_keeps_labels, rest_keeps_labels, loop_keeps_labels, ending_keeps_labels}
use Rattle.ped_lines.specs.ped_tree.specs.Grammar.ProgramRefusals.{private_behind, block_depth}
use Rattle.ped_printed.proofs.ProgramLaws.FitBodyLists.{count_of, Sourced, first_sourced, rest_sourced, Accepted, accepted_next, accepted_split, accepted_behind, At, at_behind, at_blocks, labels, left_free, free_left, Fitting, fitting_across, fitting_both, CommentsFit, comments_fitting, entry_fitting, nothing_fitting, with_comments, bare_fitting}
use Rattle.ped_printed.proofs.ProgramLaws.FitBodyStatements.{passed, free_blocks, left_self, ending_blocks, end_do_blocks, plain_fitting}
use Rattle.ped_printed.proofs.ProgramLaws.FitBodyBlocks.{block_if_fits, else_if_fits, branch_fitting}
use Rattle.ped_printed.proofs.ProgramLaws.FitBodyLoops.{loop_of, private_fitting, private_body, private_ending, loop_fitting}

left_true : (a b : Bool) → IsTrue (a && b) → IsTrue a
left_true true b h = refl
left_true false b h = absurd cc

right_true : (a b : Bool) → IsTrue (a && b) → IsTrue b
right_true true b h = h
right_true false b h = absurd cc

-- the comments of the statement that follows a THEN part
first_comments : (r : RestForm) → Sourced (rest_entries r) → CommentsFit (first_of_rest r).comments
first_comments (ends_if s) h = h.0.comments
first_comments (has_else s b e) h = h.0.comments
first_comments (has_else_if s c b r) h = h.0.comments

one_deeper : (b j d : ℕ) → b + j ≡ d → b + (j + 1) ≡ d + 1
one_deeper b j d e = omega (arith, e)

mutual
  pub body_fit : (saved ks : List (List ℕ)) (bs : List Block) (d n : ℕ) (c : Context) (b : BodyForm) (rest : List Entry) → block_depth bs ≡ d → At ks bs n c → IsTrue (body_keeps_labels (labels bs) b)
      → Accepted saved c (body_entries b ++ rest) → Sourced (body_entries b) → Fitting ks bs d n c (body_trees b) (body_entries b) bs
  body_fit saved ks bs d n c nothing rest deep a fits ok r = nothing_fitting ks bs d n c a
  body_fit saved ks bs d n c (and_then b p) rest deep a fits ok r =
      let xs = body_entries b in
      let ys = part_entries p in
      let split = accepted_split saved c xs ys rest ok in
      let f = body_fit saved ks bs d n c b (ys ++ rest) deep a (left_true (body_keeps_labels (labels bs) b) _ fits) split (first_sourced xs ys r) in
      fitting_both ks bs d n c (body_trees b) (part_trees p) xs ys bs f
      (part_fit saved ks bs d (n + count_of (body_trees b)) (behind_all c xs) p rest deep f.at (right_true (body_keeps_labels (labels bs) b) _ fits)
      (accepted_behind saved c xs (ys ++ rest) split) (rest_sourced xs ys r))

  part_fit : (saved ks : List (List ℕ)) (bs : List Block) (d n : ℕ) (c : Context) (p : PartForm) (rest : List Entry) → block_depth bs ≡ d → At ks bs n c → IsTrue (part_keeps_labels (labels bs) p)
      → Accepted saved c (part_entries p ++ rest) → Sourced (part_entries p) → Fitting ks bs d n c (part_trees p) (part_entries p) bs
  part_fit saved ks bs d n c (a_plain s p) rest deep a fits ok r =
      let f = comments_fitting ks bs d n c s r.0.comments a in
      fitting_both ks bs d n c (comments_of s) (plain_trees p) [] (entry s (plain_item p) ∷ []) bs f
      (plain_fitting saved ks bs d (n + count_of (comments_of s)) c s p rest bs deep f.at ok r.0 (free_blocks c.behind_do s p bs fits))
  part_fit saved ks bs d n c (an_if s k b r) rest deep a fits ok src =
      let ds : List Block = in_then 1 ∷ bs in
      let e = entry s (block_if k) in
      let x = n + count_of (comments_of s) in
      let xs = body_entries b in
      let ys = rest_entries r in
      let f = comments_fitting ks bs d n c s src.0.comments a in
      let tests = passed saved ks bs x c s (block_if k) ((xs ++ ys) ++ rest) f.at ok in
      let split = accepted_split saved (behind c e) xs ys rest (accepted_next saved c e ((xs ++ ys) ++ rest) ok) in
      let free = left_true (is_free (labels bs) s && body_keeps_labels (labels bs) b) _ fits in
      let inside = at_blocks ks _ ds _ _ (ap (λ (cs : List Block). in_then 1 ∷ cs) (free_left s bs (left_true (is_free (labels bs) s) _ free))) (at_behind ks bs x c s (block_if k) refl f.at) in
      let g = body_fit saved ks ds (d + 1) (x + 1) (behind c e) b (ys ++ rest) (ap (λ z. z + 1) deep) inside
      (right_true (is_free (labels bs) s) _ free) split (first_sourced xs ys src.1) in
      let then_part = with_comments ks ds (d + 1) (x + 1) (behind c e) (body_trees b) xs (first_of_rest r) (first_comments r (rest_sourced xs ys src.1)) g in
      let trees = body_trees b ++ comments_of (first_of_rest r) in
      let more = rest_fit saved ks bs 1 (d + 1) (x + 1 + count_of trees) (behind_all (behind c e) xs) r rest (ap (λ z. z + 1) deep) then_part.at
      (right_true (is_free (labels bs) s && body_keeps_labels (labels bs) b) _ fits) (accepted_behind saved (behind c e) xs (ys ++ rest) split) (rest_sourced xs ys src.1) in
      fitting_both ks bs d n c (comments_of s) _ [] (e ∷ (xs ++ ys)) bs f
      (branch_fitting ks bs ds d x c s (block_if k) k trees (rest_trees r) xs ys bs refl refl
      (block_if_fits saved ks bs d x s.label k (private_behind ((xs ++ ys) ++ rest)) src.0.text deep src.0.reads tests) then_part more)
  part_fit saved ks bs d n c (a_do f) rest deep a fits ok r =
      let other = left_free (loop_label f) bs (left_true _ (loop_keeps_labels (labels bs) f) fits) in
      subst (λ (cs : List Block). Fitting ks bs d n c (loop_trees f) (loop_entries f) cs) other
      (loop_fit saved ks bs d n c f rest deep a (right_true _ (loop_keeps_labels (labels bs) f) fits) ok r)

  rest_fit : (saved ks : List (List ℕ)) (bs : List Block) (j d n : ℕ) (c : Context) (r : RestForm) (rest : List Entry) → block_depth bs + j ≡ d → At ks (in_then j ∷ bs) n c → IsTrue (rest_keeps_labels (labels bs) r)
      → Accepted saved c (rest_entries r ++ rest) → Sourced (rest_entries r) → Fitting ks (in_then j ∷ bs) d n c (rest_trees r) (rest_entries r) bs
  rest_fit saved ks bs j d n c (ends_if s) rest deep a fits ok r =
      entry_fitting ks (in_then j ∷ bs) d n c s end_if [] bs refl refl (free_left s bs fits) a tt
  rest_fit saved ks bs j d n c (has_else s b e) rest deep a fits ok r =
      let cs : List Block = in_then j ∷ bs in
      let ds : List Block = in_else j ∷ bs in
      let first = entry s else_line in
      let xs = body_entries b in
      let ending : List Entry = entry e end_if ∷ [] in
      let free = left_true (is_free (labels bs) s && body_keeps_labels (labels bs) b) _ fits in
      let f = entry_fitting ks cs d n c s else_line [] ds refl refl (free_left s ds (left_true (is_free (labels bs) s) _ free)) a tt in
      let split = accepted_split saved (behind c first) xs ending rest (accepted_next saved c first ((xs ++ ending) ++ rest) ok) in
      let g = body_fit saved ks ds d (n + 0) (behind c first) b (ending ++ rest) deep f.at (right_true (is_free (labels bs) s) _ free) split (first_sourced xs ending r.1) in
      let closed = free_left e bs (right_true (is_free (labels bs) s && body_keeps_labels (labels bs) b) _ fits) in
      let last = bare_fitting ks ds d (n + 0 + count_of (body_trees b)) (behind_all (behind c first) xs) e end_if bs refl refl closed g.at (rest_sourced xs ending r.1).0.comments in
      fitting_across ks cs d n c [] (body_trees b ++ comments_of e) (first ∷ []) (xs ++ ending) ds bs refl f
      (fitting_both ks ds d (n + 0) (behind c first) (body_trees b) (comments_of e) xs ending bs g last)
  rest_fit saved ks bs j d n c (has_else_if s k b r) rest deep a fits ok src =
      let cs : List Block = in_then j ∷ bs in
      let ds : List Block = in_then (j + 1) ∷ bs in
      let e = entry s (else_if k) in
      let xs = body_entries b in
      let ys = rest_entries r in
      let tests = passed saved ks cs n c s (else_if k) ((xs ++ ys) ++ rest) a ok in
      let split = accepted_split saved (behind c e) xs ys rest (accepted_next saved c e ((xs ++ ys) ++ rest) ok) in
      let free = left_true (is_free (labels bs) s && body_keeps_labels (labels bs) b) _ fits in
      let further = one_deeper (block_depth bs) j d deep in
      let inside = at_blocks ks _ ds _ _ (free_left s ds (left_true (is_free (labels bs) s) _ free)) (at_behind ks cs n c s (else_if k) refl a) in
      let g = body_fit saved ks ds (d + 1) (n + 1) (behind c e) b (ys ++ rest) further inside
      (right_true (is_free (labels bs) s) _ free) split (first_sourced xs ys src.1) in
      let then_part = with_comments ks ds (d + 1) (n + 1) (behind c e) (body_trees b) xs (first_of_rest r) (first_comments r (rest_sourced xs ys src.1)) g in
      let trees = body_trees b ++ comments_of (first_of_rest r) in
      let more = rest_fit saved ks bs (j + 1) (d + 1) (n + 1 + count_of trees) (behind_all (behind c e) xs) r rest further then_part.at
      (right_true (is_free (labels bs) s && body_keeps_labels (labels bs) b) _ fits) (accepted_behind saved (behind c e) xs (ys ++ rest) split) (rest_sourced xs ys src.1) in
      branch_fitting ks cs ds d n c s (else_if k) k trees (rest_trees r) xs ys bs refl refl
      (else_if_fits saved ks cs d n s.label k (private_behind ((xs ++ ys) ++ rest)) src.0.text deep src.0.reads tests) then_part more

  loop_fit : (saved ks : List (List ℕ)) (bs : List Block) (d n : ℕ) (c : Context) (f : LoopForm) (rest : List Entry) → block_depth bs ≡ d → At ks bs n c → IsTrue (loop_keeps_labels (labels bs) f)
      → Accepted saved c (loop_entries f ++ rest) → Sourced (loop_entries f) → Fitting ks bs d n c (loop_trees f) (loop_entries f) (left_by (loop_label f) bs)
  loop_fit saved ks bs d n c (loop s l h p b e) rest deep a fits ok r =
      let ds : List Block = in_do (loop_of l h p) ∷ bs in
      let ls : List (Option ℕ) = l ∷ labels bs in
      let first = entry s (begins_do l h) in
      let after = behind c first in
      let x = n + count_of (comments_of s) in
      let xs = private_entries p in
      let ys = body_entries b in
      let zs = ending_entries e in
      let three = left_true (is_free (labels bs) s && private_keeps_labels ls p && body_keeps_labels ls b) _ fits in
      let two_free = left_true (is_free (labels bs) s && private_keeps_labels ls p) (body_keeps_labels ls b) three in
      let sources = first_sourced (xs ++ ys) zs r.1 in
      let f = comments_fitting ks bs d n c s r.0.comments a in
      let begins = ap (λ (cs : List Block). in_do (begun l h) ∷ cs) (free_left s bs (left_true (is_free (labels bs) s) (private_keeps_labels ls p) two_free)) in
      let inside = at_blocks ks _ (in_do (begun l h) ∷ bs) _ _ begins (at_behind ks bs x c s (begins_do l h) refl f.at) in
      let deeper = ap (λ z. z + 1) deep in
      let next = accepted_split saved after (xs ++ ys) zs rest (accepted_next saved c first ((xs ++ ys ++ zs) ++ rest) ok) in
      let split = accepted_split saved after xs ys (zs ++ rest) next in
      let one = private_fitting ks bs (d + 1) (x + 1) l h after p refl inside (right_true (is_free (labels bs) s) (private_keeps_labels ls p) two_free) (first_sourced xs ys sources) in
      let two = body_fit saved ks ds (d + 1) (x + 1 + count_of (comments_of_private p)) (behind_all after xs) b (zs ++ rest) deeper one.at
      (right_true (is_free (labels bs) s && private_keeps_labels ls p) _ three) (accepted_behind saved after xs (ys ++ (zs ++ rest)) split) (rest_sourced xs ys sources) in
      let front = fitting_both ks ds (d + 1) (x + 1) after (comments_of_private p) (body_trees b) xs ys ds one two in
      let trees = comments_of_private p ++ body_trees b in
      let last = ending_fit saved ks bs l h p (d + 1) (x + 1 + count_of trees) (behind_all after (xs ++ ys)) e rest deeper front.at
      (right_true (is_free (labels bs) s && private_keeps_labels ls p && body_keeps_labels ls b) _ fits) (accepted_behind saved after (xs ++ ys) (zs ++ rest) next) (rest_sourced (xs ++ ys) zs r.1) in
      let whole = fitting_both ks ds (d + 1) (x + 1) after trees (ending_trees e) (xs ++ ys) zs (left_by l bs) front last in
      let lines = append_assoc (xs ++ ys) zs rest ∙ append_assoc xs ys (zs ++ rest) in
      fitting_both ks bs d n c (comments_of s) _ [] (first ∷ (xs ++ ys ++ zs)) (left_by l bs) f
      (loop_fitting saved ks bs d x c s l h p (trees ++ ending_trees e) (xs ++ ys ++ zs) (ys ++ (zs ++ rest)) rest (left_by l bs) deep f.at inside lines
      (private_body b (zs ++ rest) (private_ending e rest)) ok r.0 (first_sourced xs ys sources) whole)

  ending_fit : (saved ks : List (List ℕ)) (bs : List Block) (l : Option ℕ) (h : Head) (q : PrivateForm) (d n : ℕ) (c : Context) (e : EndingForm) (rest : List Entry) → block_depth bs + 1 ≡ d → At ks (in_do (loop_of l h q) ∷ bs) n c
      → IsTrue (ending_keeps_labels (l ∷ labels bs) l e) → Accepted saved c (ending_entries e ++ rest) → Sourced (ending_entries e) → Fitting ks (in_do (loop_of l h q) ∷ bs) d n c (ending_trees e) (ending_entries e) (left_by l bs)
  ending_fit saved ks bs l h q d n c (at_plain s p) rest deep a fits ok r =
      let ds : List Block = in_do (loop_of l h q) ∷ bs in
      let f = comments_fitting ks ds d n c s r.0.comments a in
      fitting_both ks ds d n c (comments_of s) (plain_trees p) [] (entry s (plain_item p) ∷ []) (left_by l bs) f
      (plain_fitting saved ks ds d (n + count_of (comments_of s)) c s p rest (left_by l bs) deep f.at ok r.0 (ending_blocks c.behind_do s p l (loop_of l h q) bs fits refl))
  ending_fit saved ks bs l h q d n c (at_end_do s) rest deep a fits ok r =
      bare_fitting ks (in_do (loop_of l h q) ∷ bs) d n c s ends_do (left_by l bs) refl refl (end_do_blocks c.behind_do s l (loop_of l h q) bs fits refl) a r.0.comments
  ending_fit saved ks bs l h q d n c (with_inner f) rest deep a fits ok r =
      let ds : List Block = in_do (loop_of l h q) ∷ bs in
      let same = left_true (has_label l (loop_label f)) (loop_keeps_labels (l ∷ labels bs) f) fits in
      subst (λ (cs : List Block). Fitting ks ds d n c (loop_trees f) (loop_entries f) cs) (left_self l (loop_label f) (loop_of l h q) bs same refl)
      (loop_fit saved ks ds d n c f rest deep a (right_true _ (loop_keeps_labels (l ∷ labels bs) f) fits) ok r)
