-- Which variables the DO loops have in statements with a gap, name by name; and what their copies are in a PARALLEL DO.
use Rattle.std.proofs.Common.{◌≡◌, ℕ, List, ◌∷◌, ◌++◌, Bool, true, false, ◌||◌, refl, sym, ap, ◌∙◌, if◌then◌else◌}
use Rattle.std.proofs.lemmas.List.Folds.{list_any-append}
use Rattle.ped_bodies.specs.ped_flow.specs.ped_base.specs.Lists.{is_same_text, is_among}
use Rattle.ped_bodies.specs.ped_flow.specs.ped_tree.specs.Tree.{Head, StmtTrees, If, Do, no_stmts, more_stmts}
use Rattle.ped_bodies.specs.ped_flow.specs.ped_tree.specs.NamesIn.{loop_variables, all_loop_variables}
use Rattle.ped_bodies.specs.ped_eval.specs.Loops.{inner_variables}
use Rattle.ped_bodies.specs.ped_laws.proofs.RunLaws.Turning.{once_among}
use Rattle.ped_bodies.specs.ped_steps.specs.Replacing.{followed}
use Rattle.ped_bodies.specs.ped_steps.specs.Runs.Gaps.{Gap, at_front, past, in_then, in_else, in_body, filled}

module _ (x : List ℕ) where
  among-append : (xs ys : List (List ℕ)) → is_among x (xs ++ ys) ≡ (is_among x xs || is_among x ys)
  among-append xs ys = list_any-append (is_same_text x) xs ys

  both : (xs ys us vs : List (List ℕ)) → is_among x xs ≡ is_among x us → is_among x ys ≡ is_among x vs → is_among x (xs ++ ys) ≡ is_among x (us ++ vs)
  both xs ys us vs e f = among-append xs ys ∙ ((λ i. e i || f i) ∙ sym (among-append us vs))

  or_assoc : (a b c : Bool) → (a || (b || c)) ≡ ((a || b) || c)
  or_assoc true b c = refl
  or_assoc false b c = refl

  followed_among : (xs ys : StmtTrees) → is_among x (all_loop_variables (followed xs ys)) ≡ (is_among x (all_loop_variables xs) || is_among x (all_loop_variables ys))
  followed_among no_stmts ys = refl
  followed_among (more_stmts s xs) ys =
      among-append (loop_variables s) (all_loop_variables (followed xs ys))
      ∙ (ap (λ (b : Bool). is_among x (loop_variables s) || b) (followed_among xs ys)
      ∙ (or_assoc (is_among x (loop_variables s)) (is_among x (all_loop_variables xs)) (is_among x (all_loop_variables ys))
      ∙ ap (λ (b : Bool). b || is_among x (all_loop_variables ys)) (sym (among-append (loop_variables s) (all_loop_variables xs)))))

  module _ (old new : StmtTrees) (same : is_among x (all_loop_variables new) ≡ is_among x (all_loop_variables old)) where
    pub index_filled : (gap : Gap) → is_among x (all_loop_variables (filled gap new)) ≡ is_among x (all_loop_variables (filled gap old))
    index_filled (at_front rest) = followed_among new rest ∙ (ap (λ (b : Bool). b || is_among x (all_loop_variables rest)) same ∙ sym (followed_among old rest))
    index_filled (past s gap) = both (loop_variables s) (all_loop_variables (filled gap new)) (loop_variables s) (all_loop_variables (filled gap old)) refl (index_filled gap)
    index_filled (in_then c gap b rest) =
        both (loop_variables (If c (filled gap new) b)) (all_loop_variables rest) (loop_variables (If c (filled gap old) b)) (all_loop_variables rest)
        (both (all_loop_variables (filled gap new)) (all_loop_variables b) (all_loop_variables (filled gap old)) (all_loop_variables b) (index_filled gap) refl) refl
    index_filled (in_else c a gap rest) =
        both (loop_variables (If c a (filled gap new))) (all_loop_variables rest) (loop_variables (If c a (filled gap old))) (all_loop_variables rest)
        (both (all_loop_variables a) (all_loop_variables (filled gap new)) (all_loop_variables a) (all_loop_variables (filled gap old)) refl (index_filled gap)) refl
    index_filled (in_body h gap rest) =
        both (loop_variables (Do h (filled gap new))) (all_loop_variables rest) (loop_variables (Do h (filled gap old))) (all_loop_variables rest)
        (ap (λ (b : Bool). is_same_text x h.variable || b) (index_filled gap)) refl

  -- the names of which an iteration has copies, where the name is a DO variable in both bodies or in neither
  pub copied_same : (parallel : Bool) (h : Head) (b other : StmtTrees) → is_among x (all_loop_variables other) ≡ is_among x (all_loop_variables b)
      → is_among x (if parallel then h.variable ∷ (h.private ++ inner_variables parallel other) else h.private) ≡ is_among x (if parallel then h.variable ∷ (h.private ++ inner_variables parallel b) else h.private)
  copied_same true h b other same =
      ap (λ (z : Bool). is_same_text x h.variable || z)
      (both h.private (inner_variables true other) h.private (inner_variables true b) refl (once_among x (all_loop_variables other) ∙ (same ∙ sym (once_among x (all_loop_variables b)))))
  copied_same false h b other same = refl

  pub inner_same_name : (b other : StmtTrees) → is_among x (all_loop_variables other) ≡ is_among x (all_loop_variables b) → is_among x (inner_variables true other) ≡ is_among x (inner_variables true b)
  inner_same_name b other same = once_among x (all_loop_variables other) ∙ (same ∙ sym (once_among x (all_loop_variables b)))
