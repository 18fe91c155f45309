-- Where each use of a name is right, so are the statements.
use Rattle.std.proofs.Common.{◌≡◌, ℕ, ◌+◌, List, [], ◌∷◌, ◌++◌, map, Bool, true, refl, ap, sym, ◌∙◌}
use Rattle.std.specs.Prelude.{◌&&◌}
use Rattle.std.specs.List.{list_all, flat_map}
use Rattle.std.proofs.lemmas.Bool.{false≢true, and_parts, and_from}
use Rattle.std.proofs.lemmas.List.Folds.{list_all-append, list_all-map}
use Rattle.std.proofs.lemmas.Grind.{flat_map-append}
use Rattle.ped_tree.specs.Tree.{ExprTree, ExprTrees, Int, Var, Element, Neg, Add, Sub, Mul, Div, Pow, Call, no_exprs, more_exprs, CondTree, Rel, Not, And, Or, ItemTree, Value, Text, Head, StmtTree, StmtTrees, Assign, If, Do, Print, Read, Stop, Comment, no_stmts, more_stmts, DeclTree, Program, Implicit, Integer, Dimension, Parameter, Save, Remark}
use Rattle.ped_tree.specs.Numbering.{statement_count, statements_count}
use Rattle.ped_tree.specs.Grammar.Fits.{expr_fits, exprs_fit, takes_arguments, target_fits, cond_fits, item_fits, Surroundings, moved, in_if, in_loop, loop_fits, stmt_fits, stmts_fit}
use Rattle.ped_symbols.specs.declared.uses.Role.TheVariants.{Saved, Rejected, Private, Index}
use Rattle.ped_symbols.specs.declared.uses.Use.{Use}
use Rattle.ped_symbols.specs.Uses.{used_as, expr_uses, exprs_uses, cond_uses, target_uses, item_uses, own_uses, decl_uses}
use Rattle.ped_symbols.specs.Sites.{Site, private_site, stmt_sites, stmts_sites, site_uses}
use Rattle.ped_symbols.specs.RightUses.RightUses.{NameKinds, is_scalar, expr_is_right, exprs_are_right, target_is_right, cond_is_right, item_is_right, stmt_is_right, stmts_are_right, save_is_right, saves_are_right}
use Rattle.ped_symbols.proofs.RightUseLaws.UseKinds.{use_is_right}

-- all of these uses are right
abbrev pub all_right : NameKinds → List Use → Bool
all_right k us = list_all (use_is_right k) us

in_front : (k : NameKinds) (us vs : List Use) → all_right k (us ++ vs) ≡ true → all_right k us ≡ true
in_front k us vs h = (and_parts _ _ (sym (list_all-append (use_is_right k) us vs) ∙ h)).0

pub behind : (k : NameKinds) (us vs : List Use) → all_right k (us ++ vs) ≡ true → all_right k vs ≡ true
behind k us vs h = (and_parts _ _ (sym (list_all-append (use_is_right k) us vs) ∙ h)).1

-- two expressions, of which each is right by its uses
two_right : (k : NameKinds) (a b : ExprTree) → (all_right k (expr_uses a) ≡ true → expr_fits a ≡ true → expr_is_right k a ≡ true) → (all_right k (expr_uses b) ≡ true → expr_fits b ≡ true → expr_is_right k b ≡ true)
    → all_right k (expr_uses a ++ expr_uses b) ≡ true → (expr_fits a && expr_fits b) ≡ true → (expr_is_right k a && expr_is_right k b) ≡ true
two_right k a b first second u f =
    let p = and_parts (expr_fits a) (expr_fits b) f in
    and_from _ _ (first (in_front k (expr_uses a) (expr_uses b) u) p.0) (second (behind k (expr_uses a) (expr_uses b) u) p.1)

mutual
  expr_right : (k : NameKinds) (e : ExprTree) → all_right k (expr_uses e) ≡ true → expr_fits e ≡ true → expr_is_right k e ≡ true
  expr_right k (Int n) u f = refl
  expr_right k (Var x) u f = (and_parts _ _ u).0
  expr_right k (Element x no_exprs) u f = absurd (false≢true (and_parts _ _ (and_parts _ _ f).0).1)
  expr_right k (Element x (more_exprs e rest)) u f =
      let p = and_parts _ (all_right k (exprs_uses (more_exprs e rest))) u in
      let fits = (and_parts _ (exprs_fit (more_exprs e rest)) f).1 in
      and_from _ _ p.0 (exprs_right k (more_exprs e rest) p.1 fits)
  expr_right k (Neg a) u f = expr_right k a u f
  expr_right k (Add a b) u f = two_right k a b (expr_right k a) (expr_right k b) u f
  expr_right k (Sub a b) u f = two_right k a b (expr_right k a) (expr_right k b) u f
  expr_right k (Mul a b) u f = two_right k a b (expr_right k a) (expr_right k b) u f
  expr_right k (Div a b) u f = two_right k a b (expr_right k a) (expr_right k b) u f
  expr_right k (Pow a b) u f = two_right k a b (expr_right k a) (expr_right k b) u f
  expr_right k (Call g arguments) u f = let p = and_parts (takes_arguments g arguments) (exprs_fit arguments) f in and_from _ _ p.0 (exprs_right k arguments u p.1)

  exprs_right : (k : NameKinds) (es : ExprTrees) → all_right k (exprs_uses es) ≡ true → exprs_fit es ≡ true → exprs_are_right k es ≡ true
  exprs_right k no_exprs u f = refl
  exprs_right k (more_exprs e rest) u f =
      let p = and_parts (expr_fits e) (exprs_fit rest) f in
      and_from _ _ (expr_right k e (in_front k (expr_uses e) (exprs_uses rest) u) p.0) (exprs_right k rest (behind k (expr_uses e) (exprs_uses rest) u) p.1)

target_right : (k : NameKinds) (e : ExprTree) → all_right k (target_uses e) ≡ true → target_fits e ≡ true → target_is_right k e ≡ true
target_right k (Int n) u f = absurd cc
target_right k (Var x) u f = (and_parts _ _ u).0
target_right k (Element x no_exprs) u f = absurd (false≢true (and_parts _ _ (and_parts _ _ f).0).1)
target_right k (Element x (more_exprs e rest)) u f =
    let p = and_parts _ (all_right k (exprs_uses (more_exprs e rest))) u in
    let fits = (and_parts _ (exprs_fit (more_exprs e rest)) f).1 in
    and_from _ _ p.0 (exprs_right k (more_exprs e rest) p.1 fits)
target_right k (Neg a) u f = absurd cc
target_right k (Add a b) u f = absurd cc
target_right k (Sub a b) u f = absurd cc
target_right k (Mul a b) u f = absurd cc
target_right k (Div a b) u f = absurd cc
target_right k (Pow a b) u f = absurd cc
target_right k (Call g arguments) u f = absurd cc

cond_right : (k : NameKinds) (c : CondTree) → all_right k (cond_uses c) ≡ true → cond_fits c ≡ true → cond_is_right k c ≡ true
cond_right k (Rel r a b) u f = two_right k a b (expr_right k a) (expr_right k b) u f
cond_right k (Not a) u f = cond_right k a u f
cond_right k (And a b) u f =
    let p = and_parts (cond_fits a) (cond_fits b) f in
    and_from _ _ (cond_right k a (in_front k (cond_uses a) (cond_uses b) u) p.0) (cond_right k b (behind k (cond_uses a) (cond_uses b) u) p.1)
cond_right k (Or a b) u f =
    let p = and_parts (cond_fits a) (cond_fits b) f in
    and_from _ _ (cond_right k a (in_front k (cond_uses a) (cond_uses b) u) p.0) (cond_right k b (behind k (cond_uses a) (cond_uses b) u) p.1)

item_right : (k : NameKinds) (t : ItemTree) → all_right k (item_uses t) ≡ true → item_fits t ≡ true → item_is_right k t ≡ true
item_right k (Value e) u f = expr_right k e u f
item_right k (Text text) u f = refl

-- each of a list is right, where each one is right by its uses
each_right : {X : Type 0} (k : NameKinds) (uses : X → List Use) (fits right : X → Bool) → ((x : X) → all_right k (uses x) ≡ true → fits x ≡ true → right x ≡ true)
    → (xs : List X) → all_right k (flat_map uses xs) ≡ true → list_all fits xs ≡ true → list_all right xs ≡ true
each_right k uses fits right each [] u f = refl
each_right k uses fits right each (x ∷ xs) u f =
    let p = and_parts (fits x) (list_all fits xs) f in
    and_from _ _ (each x (in_front k (uses x) (flat_map uses xs) u) p.0) (each_right k uses fits right each xs (behind k (uses x) (flat_map uses xs) u) p.1)

pub sites_in_front : (k : NameKinds) (xs ys : List Site) → all_right k (flat_map site_uses (xs ++ ys)) ≡ true → all_right k (flat_map site_uses xs) ≡ true
sites_in_front k xs ys h = in_front k (flat_map site_uses xs) (flat_map site_uses ys) (ap (all_right k) (sym (flat_map-append site_uses xs ys)) ∙ h)

pub sites_behind : (k : NameKinds) (xs ys : List Site) → all_right k (flat_map site_uses (xs ++ ys)) ≡ true → all_right k (flat_map site_uses ys) ≡ true
sites_behind k xs ys h = behind k (flat_map site_uses xs) (flat_map site_uses ys) (ap (all_right k) (sym (flat_map-append site_uses xs ys)) ∙ h)

private_right : (k : NameKinds) (names : List (List ℕ)) → all_right k (flat_map site_uses (private_site names)) ≡ true → list_all (is_scalar k) names ≡ true
private_right k [] u = refl
private_right k (x ∷ xs) u = sym (list_all-map (use_is_right k) (used_as Private) (x ∷ xs)) ∙ in_front k (map (used_as Private) (x ∷ xs)) [] u

-- what the head of a DO has in its own uses
record HeadRight (k : NameKinds) (h : Head) : Type 0 where
  variable : is_scalar k h.variable ≡ true
  first : expr_is_right k h.first ≡ true
  last : expr_is_right k h.last ≡ true
  step : expr_is_right k h.step ≡ true

head_right : (k : NameKinds) (p : Surroundings) (h : Head) (body : StmtTrees) → all_right k (own_uses (Do h body)) ≡ true → loop_fits p h body ≡ true → HeadRight k h
head_right k p h body u f =
    let six = (and_parts _ _ (and_parts _ _ (and_parts _ _ (and_parts _ _ (and_parts _ _ (and_parts _ _ f).0).0).0).0).0).0 in
    let step = and_parts _ (expr_fits h.step) six in
    let last = and_parts _ (expr_fits h.last) step.0 in
    let first = and_parts _ (expr_fits h.first) last.0 in
    let own = and_parts (is_scalar k h.variable) (all_right k (expr_uses h.first ++ expr_uses h.last ++ expr_uses h.step)) (behind k (map (used_as Rejected) h.rejected) (used_as Index h.variable ∷ (expr_uses h.first ++ expr_uses h.last ++ expr_uses h.step)) u) in
    let bounds = in_front k (expr_uses h.first ++ expr_uses h.last) (expr_uses h.step) own.1 in
    record {
      variable = own.0;
      first = expr_right k h.first (in_front k (expr_uses h.first) (expr_uses h.last) bounds) first.1;
      last = expr_right k h.last (behind k (expr_uses h.first) (expr_uses h.last) bounds) last.1;
      step = expr_right k h.step (behind k (expr_uses h.first ++ expr_uses h.last) (expr_uses h.step) own.1) step.1;
    }

mutual
  stmt_right : (k : NameKinds) (p : Surroundings) (s : StmtTree) → all_right k (flat_map site_uses (stmt_sites s)) ≡ true → stmt_fits p s ≡ true → stmt_is_right k s ≡ true
  stmt_right k p (Assign left right) u f =
      let own = in_front k (target_uses left ++ expr_uses right) [] u in
      let fits = and_parts _ (expr_fits right) f in
      and_from _ _ (target_right k left (in_front k (target_uses left) (expr_uses right) own) (and_parts _ (target_fits left) fits.0).1) (expr_right k right (behind k (target_uses left) (expr_uses right) own) fits.1)
  stmt_right k p (If c a b) u f =
      let own = in_front k (cond_uses c) (flat_map site_uses (stmts_sites a ++ stmts_sites b)) u in
      let parts = behind k (cond_uses c) (flat_map site_uses (stmts_sites a ++ stmts_sites b)) u in
      let second = and_parts _ (stmts_fit (in_if p (1 + statements_count a)) b) f in
      let first = and_parts _ (stmts_fit (in_if p 1) a) second.0 in
      and_from _ _
      (and_from _ _ (cond_right k c own (and_parts _ (cond_fits c) first.0).1) (stmts_right k (in_if p 1) a (sites_in_front k (stmts_sites a) (stmts_sites b) parts) first.1))
      (stmts_right k (in_if p (1 + statements_count a)) b (sites_behind k (stmts_sites a) (stmts_sites b) parts) second.1)
  stmt_right k p (Do h body) u f =
      let own = in_front k (own_uses (Do h body)) (flat_map site_uses (private_site h.private ++ stmts_sites body)) u in
      let parts = behind k (own_uses (Do h body)) (flat_map site_uses (private_site h.private ++ stmts_sites body)) u in
      let fits = and_parts (loop_fits p h body) (stmts_fit (in_loop p h) body) f in
      let head = head_right k p h body own fits.0 in
      and_from _ _
      (and_from _ _ (and_from _ _ (and_from _ _ (and_from _ _ head.variable head.first) head.last) head.step) (private_right k h.private (sites_in_front k (private_site h.private) (stmts_sites body) parts)))
      (stmts_right k (in_loop p h) body (sites_behind k (private_site h.private) (stmts_sites body) parts) fits.1)
  stmt_right k p (Print items) u f =
      each_right k item_uses item_fits (item_is_right k) (item_right k) items (in_front k (flat_map item_uses items) [] u) (and_parts _ (list_all item_fits items) f).1
  stmt_right k p (Read items) u f =
      each_right k target_uses target_fits (target_is_right k) (target_right k) items (in_front k (flat_map target_uses items) [] u) (and_parts _ (list_all target_fits items) f).1
  stmt_right k p Stop u f = refl
  stmt_right k p (Comment text) u f = refl

  -- statements that fit are right where the uses at their sites are
  pub stmts_right : (k : NameKinds) (p : Surroundings) (ss : StmtTrees) → all_right k (flat_map site_uses (stmts_sites ss)) ≡ true → stmts_fit p ss ≡ true → stmts_are_right k ss ≡ true
  stmts_right k p no_stmts u f = refl
  stmts_right k p (more_stmts s rest) u f =
      let fits = and_parts (stmt_fits p s) (stmts_fit (moved p (statement_count s)) rest) f in
      and_from _ _ (stmt_right k p s (sites_in_front k (stmt_sites s) (stmts_sites rest) u) fits.0) (stmts_right k (moved p (statement_count s)) rest (sites_behind k (stmt_sites s) (stmts_sites rest) u) fits.1)

save_right : (k : NameKinds) (d : DeclTree) → all_right k (decl_uses d) ≡ true → save_is_right k d ≡ true
save_right k (Program x) u = refl
save_right k Implicit u = refl
save_right k (Integer ds) u = refl
save_right k (Dimension ds) u = refl
save_right k (Parameter values) u = refl
save_right k (Save names) u = sym (list_all-map (use_is_right k) (used_as Saved) names) ∙ u
save_right k (Remark text) u = refl

-- SAVE names variables where the uses in declarations are right
pub saves_right : (k : NameKinds) (ds : List DeclTree) → all_right k (flat_map decl_uses ds) ≡ true → saves_are_right k ds ≡ true
saves_right k [] u = refl
saves_right k (d ∷ ds) u = and_from _ _ (save_right k d (in_front k (decl_uses d) (flat_map decl_uses ds) u)) (saves_right k ds (behind k (decl_uses d) (flat_map decl_uses ds) u))
