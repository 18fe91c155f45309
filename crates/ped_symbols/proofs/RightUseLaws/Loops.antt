-- DO loops of a tree that fits don't stand too deep in one another, and their increments have values that they may have.
use Rattle.std.proofs.Common.{◌≡◌, suc, ◌+◌, ◌<◌, ◌≤◌, ℤ, pos, List, ◌++◌, length, Bool, true, false, Option, Some, None, refl, sym, ◌∙◌, arith, if◌then◌else◌}
use Rattle.std.specs.Prelude.{nat_le, unsigned_abs}
use Rattle.std.specs.List.{list_any}
use Rattle.std.specs.Ordering.{int_eq}
use Rattle.std.proofs.lemmas.Bool.{and_parts, and_from, or_parts, ltb-true, not_from_false}
use Rattle.std.proofs.lemmas.List.Folds.{list_any-append}
use Rattle.ped_tree.specs.Tree.{Head, StmtTree, StmtTrees, Assign, If, Do, Print, Read, Stop, Comment, no_stmts, more_stmts}
use Rattle.ped_tree.specs.Numbering.{statement_count, statements_count}
use Rattle.ped_tree.specs.Grammar.LimitNumbers.{greatest_literal, most_loops_nested}
use Rattle.ped_tree.specs.Grammar.Fits.{Surroundings, moved, in_if, in_loop, loop_fits, stmt_fits, stmts_fit}
use Rattle.ped_tree.specs.Constants.ConstantExpressions.{constant_value}
use Rattle.ped_symbols.specs.Values.{Values, within, is_bad_step, site_fails}
use Rattle.ped_symbols.specs.Sites.{Site, private_site, stmt_sites, stmts_sites}
use Rattle.ped_symbols.specs.RightUses.RightLoops.{loop_depth, loops_deep, is_step, stmt_steps_are_right, steps_are_right}

loop_less : (p : Surroundings) (h : Head) (body : StmtTrees) → loop_fits p h body ≡ true → length p.variables < most_loops_nested
loop_less p h body f = ltb-true (length p.variables) most_loops_nested (and_parts _ _ (and_parts _ _ (and_parts _ _ (and_parts _ _ f).0).0).0).1

mutual
  depth_within : (p : Surroundings) (s : StmtTree) → stmt_fits p s ≡ true → length p.variables ≤ most_loops_nested → length p.variables + loop_depth s ≤ most_loops_nested
  depth_within p (Assign left right) f h = omega (arith, h)
  depth_within p (If c a b) f h =
      let second = and_parts _ (stmts_fit (in_if p (1 + statements_count a)) b) f in
      let first = and_parts _ (stmts_fit (in_if p 1) a) second.0 in
      let of_a : length p.variables + loops_deep a ≤ most_loops_nested = deep_within (in_if p 1) a first.1 h in
      let of_b : length p.variables + loops_deep b ≤ most_loops_nested = deep_within (in_if p (1 + statements_count a)) b second.1 h in
      omega (arith, of_a, of_b)
  depth_within p (Do h body) f k =
      let fits = and_parts (loop_fits p h body) (stmts_fit (in_loop p h) body) f in
      let less : suc (length p.variables) ≤ most_loops_nested = let l = loop_less p h body fits.0 in omega (arith, l) in
      let inner : suc (length p.variables) + loops_deep body ≤ most_loops_nested = deep_within (in_loop p h) body fits.1 less in
      omega (arith, inner)
  depth_within p (Print items) f h = omega (arith, h)
  depth_within p (Read items) f h = omega (arith, h)
  depth_within p Stop f h = omega (arith, h)
  depth_within p (Comment text) f h = omega (arith, h)

  -- loops in statements that fit, with those round them, don't stand too deep
  pub deep_within : (p : Surroundings) (ss : StmtTrees) → stmts_fit p ss ≡ true → length p.variables ≤ most_loops_nested → length p.variables + loops_deep ss ≤ most_loops_nested
  deep_within p no_stmts f h = omega (arith, h)
  deep_within p (more_stmts s rest) f h =
      let fits = and_parts (stmt_fits p s) (stmts_fit (moved p (statement_count s)) rest) f in
      let of_first : length p.variables + loop_depth s ≤ most_loops_nested = depth_within p s fits.0 h in
      let of_rest : length p.variables + loops_deep rest ≤ most_loops_nested = deep_within (moved p (statement_count s)) rest fits.1 h in
      omega (arith, of_first, of_rest)

-- an increment with a value that isn't refused
step_by : (o : Option ℤ) → is_bad_step (within o) ≡ false → is_step o ≡ true
step_by None h = absurd cc
step_by (Some n) h = go (nat_le (unsigned_abs n) greatest_literal) refl h
  where
    go : (r : Bool) → nat_le (unsigned_abs n) greatest_literal ≡ r → is_bad_step (if r then Some n else None) ≡ false → is_step (Some n) ≡ true
    go true small h = and_from _ _ (not_from_false (int_eq n (pos 0)) h) small
    go false small h = absurd cc

none_of_front : (values : Values) (xs ys : List Site) → list_any (site_fails values) (xs ++ ys) ≡ false → list_any (site_fails values) xs ≡ false
none_of_front values xs ys h = (or_parts _ _ (sym (list_any-append (site_fails values) xs ys) ∙ h)).0

none_of_back : (values : Values) (xs ys : List Site) → list_any (site_fails values) (xs ++ ys) ≡ false → list_any (site_fails values) ys ≡ false
none_of_back values xs ys h = (or_parts _ _ (sym (list_any-append (site_fails values) xs ys) ∙ h)).1

mutual
  stmt_steps_right : (values : Values) (s : StmtTree) → list_any (site_fails values) (stmt_sites s) ≡ false → stmt_steps_are_right values s ≡ true
  stmt_steps_right values (Assign left right) h = refl
  stmt_steps_right values (If c a b) h = and_from _ _ (steps_right values a (none_of_front values (stmts_sites a) (stmts_sites b) h)) (steps_right values b (none_of_back values (stmts_sites a) (stmts_sites b) h))
  stmt_steps_right values (Do h body) k =
      let p = or_parts (is_bad_step (within (constant_value values h.step))) (list_any (site_fails values) (private_site h.private ++ stmts_sites body)) k in
      and_from _ _ (step_by (constant_value values h.step) p.0) (steps_right values body (none_of_back values (private_site h.private) (stmts_sites body) p.1))
  stmt_steps_right values (Print items) h = refl
  stmt_steps_right values (Read items) h = refl
  stmt_steps_right values Stop h = refl
  stmt_steps_right values (Comment text) h = refl

  -- increments have values that they may have where nothing fails at a site
  pub steps_right : (values : Values) (ss : StmtTrees) → list_any (site_fails values) (stmts_sites ss) ≡ false → steps_are_right values ss ≡ true
  steps_right values no_stmts h = refl
  steps_right values (more_stmts s rest) h = and_from _ _ (stmt_steps_right values s (none_of_front values (stmt_sites s) (stmts_sites rest) h)) (steps_right values rest (none_of_back values (stmt_sites s) (stmts_sites rest) h))
