-- What is put into a gap: how many statements there are then, which variables their DO loops have, and at which number it stands.
use Rattle.std.proofs.Common.{◌≡◌, ℕ, ◌+◌, ◌≤◌, List, ◌++◌, Bool, true, false, ◌||◌, refl, sym, ap, ◌∙◌, arith}
use Rattle.std.proofs.lemmas.List.Folds.{list_any-append}
use Rattle.ped_base.specs.Lists.{is_same_text, is_among}
use Rattle.ped_tree.specs.Tree.{StmtTrees, Do, If, no_stmts, more_stmts}
use Rattle.ped_tree.specs.Numbering.{statement_count, statements_count}
use Rattle.ped_tree.specs.NamesIn.{loop_variables, all_loop_variables}
use Rattle.ped_steps.specs.Replacing.{followed}
use Rattle.ped_steps.specs.Runs.Gaps.{Gap, at_front, past, in_then, in_else, in_body, filled, number_at}
use Rattle.ped_steps.specs.Runs.Pasting.{HaveSameIndices}

pub counted : (xs ys : StmtTrees) → statements_count (followed xs ys) ≡ statements_count xs + statements_count ys
counted no_stmts ys = omega arith
counted (more_stmts x xs) ys = let e = counted xs ys in omega (arith, e)

-- the gap stands behind what stands before it
pub number_from : (gap : Gap) (n : ℕ) → n ≤ number_at gap n
number_from (at_front rest) n = omega arith
number_from (past s gap) n = let h = number_from gap (n + statement_count s) in omega (arith, h)
number_from (in_then c gap b rest) n = let h = number_from gap (n + 1) in omega (arith, h)
number_from (in_else c a gap rest) n = let h = number_from gap (n + 1 + statements_count a) in omega (arith, h)
number_from (in_body h gap rest) n = let k = number_from gap (n + 1) in omega (arith, k)

-- and has room for what is put there
pub number_room : (gap : Gap) (xs : StmtTrees) (n : ℕ) → number_at gap n + statements_count xs ≤ n + statements_count (filled gap xs)
number_room (at_front rest) xs n = let e = counted xs rest in omega (arith, e)
number_room (past s gap) xs n = let h = number_room gap xs (n + statement_count s) in omega (arith, h)
number_room (in_then c gap b rest) xs n = let h = number_room gap xs (n + 1) in omega (arith, h)
number_room (in_else c a gap rest) xs n = let h = number_room gap xs (n + 1 + statements_count a) in omega (arith, h)
number_room (in_body h gap rest) xs n = let k = number_room gap xs (n + 1) in omega (arith, k)

module _ (old new : StmtTrees) where
  pub count_filled : (gap : Gap) → statements_count (filled gap new) + statements_count old ≡ statements_count (filled gap old) + statements_count new
  count_filled (at_front rest) = let e = counted old rest in let f = counted new rest in omega (arith, e, f)
  count_filled (past s gap) = let e = count_filled gap in omega (arith, e)
  count_filled (in_then c gap b rest) = let e = count_filled gap in omega (arith, e)
  count_filled (in_else c a gap rest) = let e = count_filled gap in omega (arith, e)
  count_filled (in_body h gap rest) = let e = count_filled gap in omega (arith, e)

  module _ (indices : HaveSameIndices old new) (x : List ℕ) where
    among-append : (xs ys : List (List ℕ)) → is_among x (xs ++ ys) ≡ (is_among x xs || is_among x ys)
    among-append xs ys = list_any-append (is_same_text x) xs ys

    both : (xs ys us vs : List (List ℕ)) → is_among x xs ≡ is_among x us → is_among x ys ≡ is_among x vs → is_among x (xs ++ ys) ≡ is_among x (us ++ vs)
    both xs ys us vs e f = among-append xs ys ∙ ((λ i. e i || f i) ∙ sym (among-append us vs))

    followed_among : (xs ys : StmtTrees) → is_among x (all_loop_variables (followed xs ys)) ≡ (is_among x (all_loop_variables xs) || is_among x (all_loop_variables ys))
    followed_among no_stmts ys = refl
    followed_among (more_stmts s xs) ys =
        among-append (loop_variables s) (all_loop_variables (followed xs ys))
        ∙ (ap (λ (b : Bool). is_among x (loop_variables s) || b) (followed_among xs ys)
        ∙ (or_assoc (is_among x (loop_variables s)) (is_among x (all_loop_variables xs)) (is_among x (all_loop_variables ys))
        ∙ ap (λ (b : Bool). b || is_among x (all_loop_variables ys)) (sym (among-append (loop_variables s) (all_loop_variables xs)))))
      where
        or_assoc : (a b c : Bool) → (a || (b || c)) ≡ ((a || b) || c)
        or_assoc true b c = refl
        or_assoc false b c = refl

    pub indices_filled : (gap : Gap) → is_among x (all_loop_variables (filled gap new)) ≡ is_among x (all_loop_variables (filled gap old))
    indices_filled (at_front rest) = followed_among new rest ∙ (ap (λ (b : Bool). b || is_among x (all_loop_variables rest)) (indices x) ∙ sym (followed_among old rest))
    indices_filled (past s gap) = both (loop_variables s) (all_loop_variables (filled gap new)) (loop_variables s) (all_loop_variables (filled gap old)) refl (indices_filled gap)
    indices_filled (in_then c gap b rest) =
        both (loop_variables (If c (filled gap new) b)) (all_loop_variables rest) (loop_variables (If c (filled gap old) b)) (all_loop_variables rest)
        (both (all_loop_variables (filled gap new)) (all_loop_variables b) (all_loop_variables (filled gap old)) (all_loop_variables b) (indices_filled gap) refl) refl
    indices_filled (in_else c a gap rest) =
        both (loop_variables (If c a (filled gap new))) (all_loop_variables rest) (loop_variables (If c a (filled gap old))) (all_loop_variables rest)
        (both (all_loop_variables a) (all_loop_variables (filled gap new)) (all_loop_variables a) (all_loop_variables (filled gap old)) refl (indices_filled gap)) refl
    indices_filled (in_body h gap rest) =
        both (loop_variables (Do h (filled gap new))) (all_loop_variables rest) (loop_variables (Do h (filled gap old))) (all_loop_variables rest)
        (ap (λ (b : Bool). is_same_text x h.variable || b) (indices_filled gap)) refl
