-- The names that are used at the sites of statements are those that occur in them.
use Rattle.std.proofs.Common.{◌≡◌, ℕ, List, [], ◌∷◌, ◌++◌, map, refl, ap, sym, ◌∙◌, append_assoc, append-nil}
use Rattle.std.specs.List.{flat_map}
use Rattle.std.proofs.lemmas.List.{map-append}
use Rattle.std.proofs.lemmas.Grind.{flat_map-append}
use Rattle.ped_tree.specs.Tree.{ExprTree, ExprTrees, Int, Var, Element, Neg, Add, Sub, Mul, Div, Pow, Call, no_exprs, more_exprs, CondTree, Rel, Not, And, Or, ItemTree, Value, Text, Head, StmtTree, StmtTrees, Assign, If, Do, Print, Read, Stop, Comment, no_stmts, more_stmts}
use Rattle.ped_tree.specs.NamesIn.{expr_names, exprs_names, cond_names, item_names, stmt_names, stmts_names}
use Rattle.ped_weaves.specs.ped_graph.specs.ped_symbols.specs.declared.uses.Role.{Role}
use Rattle.ped_weaves.specs.ped_graph.specs.ped_symbols.specs.declared.uses.Role.TheVariants.{Rejected, Private, Index}
use Rattle.ped_weaves.specs.ped_graph.specs.ped_symbols.specs.declared.uses.Use.{Use}
use Rattle.ped_weaves.specs.ped_graph.specs.ped_symbols.specs.Uses.{used_as, expr_uses, exprs_uses, cond_uses, target_uses, item_uses, own_uses}
use Rattle.ped_weaves.specs.ped_graph.specs.ped_symbols.specs.Sites.{Site, statement, private_site, stmt_sites, stmts_sites, site_uses}
use Rattle.ped_weaves.specs.ped_graph.specs.ped_symbols.specs.Kinds.{names_at}

-- the names of uses
abbrev pub used_names : List Use → List (List ℕ)
used_names us = map (λ (u : Use). u.name) us

pub used_append : (us vs : List Use) → used_names (us ++ vs) ≡ used_names us ++ used_names vs
used_append us vs = map-append (λ (u : Use). u.name) us vs

pub at_append : (xs ys : List Site) → names_at (xs ++ ys) ≡ names_at xs ++ names_at ys
at_append xs ys = ap used_names (flat_map-append site_uses xs ys) ∙ used_append (flat_map site_uses xs) (flat_map site_uses ys)

both_used : (us vs : List Use) (xs ys : List (List ℕ)) → used_names us ≡ xs → used_names vs ≡ ys → used_names (us ++ vs) ≡ xs ++ ys
both_used us vs xs ys h k = used_append us vs ∙ (λ i. h i ++ k i)

pub names_used_as : (role : Role) (xs : List (List ℕ)) → used_names (map (used_as role) xs) ≡ xs
names_used_as role [] = refl
names_used_as role (x ∷ xs) = ap (λ (zs : List (List ℕ)). x ∷ zs) (names_used_as role xs)

mutual
  pub expr_used : (e : ExprTree) → used_names (expr_uses e) ≡ expr_names e
  expr_used (Int n) = refl
  expr_used (Var x) = refl
  expr_used (Element x es) = ap (λ (zs : List (List ℕ)). x ∷ zs) (exprs_used es)
  expr_used (Neg a) = expr_used a
  expr_used (Add a b) = both_used (expr_uses a) (expr_uses b) (expr_names a) (expr_names b) (expr_used a) (expr_used b)
  expr_used (Sub a b) = both_used (expr_uses a) (expr_uses b) (expr_names a) (expr_names b) (expr_used a) (expr_used b)
  expr_used (Mul a b) = both_used (expr_uses a) (expr_uses b) (expr_names a) (expr_names b) (expr_used a) (expr_used b)
  expr_used (Div a b) = both_used (expr_uses a) (expr_uses b) (expr_names a) (expr_names b) (expr_used a) (expr_used b)
  expr_used (Pow a b) = both_used (expr_uses a) (expr_uses b) (expr_names a) (expr_names b) (expr_used a) (expr_used b)
  expr_used (Call f es) = exprs_used es

  exprs_used : (es : ExprTrees) → used_names (exprs_uses es) ≡ exprs_names es
  exprs_used no_exprs = refl
  exprs_used (more_exprs e rest) = both_used (expr_uses e) (exprs_uses rest) (expr_names e) (exprs_names rest) (expr_used e) (exprs_used rest)

two_used : (a b : ExprTree) → used_names (expr_uses a ++ expr_uses b) ≡ expr_names a ++ expr_names b
two_used a b = both_used (expr_uses a) (expr_uses b) (expr_names a) (expr_names b) (expr_used a) (expr_used b)

cond_used : (c : CondTree) → used_names (cond_uses c) ≡ cond_names c
cond_used (Rel r a b) = two_used a b
cond_used (Not a) = cond_used a
cond_used (And a b) = both_used (cond_uses a) (cond_uses b) (cond_names a) (cond_names b) (cond_used a) (cond_used b)
cond_used (Or a b) = both_used (cond_uses a) (cond_uses b) (cond_names a) (cond_names b) (cond_used a) (cond_used b)

target_used : (e : ExprTree) → used_names (target_uses e) ≡ expr_names e
target_used (Int n) = refl
target_used (Var x) = refl
target_used (Element x es) = ap (λ (zs : List (List ℕ)). x ∷ zs) (exprs_used es)
target_used (Neg a) = expr_used a
target_used (Add a b) = two_used a b
target_used (Sub a b) = two_used a b
target_used (Mul a b) = two_used a b
target_used (Div a b) = two_used a b
target_used (Pow a b) = two_used a b
target_used (Call f es) = exprs_used es

items_used : (items : List ItemTree) → used_names (flat_map item_uses items) ≡ flat_map item_names items
items_used [] = refl
items_used (Value e ∷ rest) = both_used (expr_uses e) (flat_map item_uses rest) (expr_names e) (flat_map item_names rest) (expr_used e) (items_used rest)
items_used (Text text ∷ rest) = items_used rest

targets_used : (items : List ExprTree) → used_names (flat_map target_uses items) ≡ flat_map expr_names items
targets_used [] = refl
targets_used (e ∷ rest) = both_used (target_uses e) (flat_map target_uses rest) (expr_names e) (flat_map expr_names rest) (target_used e) (targets_used rest)

pub private_at : (xs : List (List ℕ)) → names_at (private_site xs) ≡ xs
private_at [] = refl
private_at (x ∷ xs) = ap used_names (append-nil (map (used_as Private) (x ∷ xs))) ∙ names_used_as Private (x ∷ xs)

-- what a statement by itself uses, and what is used at the sites behind it
one_more : (s : StmtTree) (sites : List Site) (xs ys : List (List ℕ)) → used_names (own_uses s) ≡ xs → names_at sites ≡ ys → names_at (statement s ∷ sites) ≡ xs ++ ys
one_more s sites xs ys h k = both_used (own_uses s) (flat_map site_uses sites) xs ys h k

alone_at : (s : StmtTree) (xs : List (List ℕ)) → used_names (own_uses s) ≡ xs → names_at (statement s ∷ []) ≡ xs
alone_at s xs h = one_more s [] xs [] h refl ∙ append-nil xs

head_used : (h : Head) (body : StmtTrees) → used_names (own_uses (Do h body)) ≡ h.rejected ++ h.variable ∷ (expr_names h.first ++ expr_names h.last ++ expr_names h.step)
head_used h body =
    let bounds = both_used (expr_uses h.first ++ expr_uses h.last) (expr_uses h.step) (expr_names h.first ++ expr_names h.last) (expr_names h.step) (two_used h.first h.last) (expr_used h.step) in
    both_used (map (used_as Rejected) h.rejected) (used_as Index h.variable ∷ (expr_uses h.first ++ expr_uses h.last ++ expr_uses h.step)) h.rejected (h.variable ∷ (expr_names h.first ++ expr_names h.last ++ expr_names h.step))
    (names_used_as Rejected h.rejected) (ap (λ (zs : List (List ℕ)). h.variable ∷ zs) bounds)

mutual
  pub stmt_at : (s : StmtTree) → names_at (stmt_sites s) ≡ stmt_names s
  stmt_at (Assign left right) = alone_at (Assign left right) (expr_names left ++ expr_names right) (both_used (target_uses left) (expr_uses right) (expr_names left) (expr_names right) (target_used left) (expr_used right))
  stmt_at (If c a b) =
      one_more (If c a b) (stmts_sites a ++ stmts_sites b) (cond_names c) (stmts_names a ++ stmts_names b) (cond_used c) (at_append (stmts_sites a) (stmts_sites b) ∙ (λ i. stmts_at a i ++ stmts_at b i))
      ∙ sym (append_assoc (cond_names c) (stmts_names a) (stmts_names b))
  stmt_at (Do h body) =
      let begin = h.rejected ++ h.variable ∷ (expr_names h.first ++ expr_names h.last ++ expr_names h.step) in
      one_more (Do h body) (private_site h.private ++ stmts_sites body) begin (h.private ++ stmts_names body) (head_used h body)
      (at_append (private_site h.private) (stmts_sites body) ∙ (λ i. private_at h.private i ++ stmts_at body i))
      ∙ sym (append_assoc begin h.private (stmts_names body))
      ∙ ap (λ (zs : List (List ℕ)). zs ++ stmts_names body) (append_assoc h.rejected (h.variable ∷ (expr_names h.first ++ expr_names h.last ++ expr_names h.step)) h.private)
  stmt_at (Print items) = alone_at (Print items) (flat_map item_names items) (items_used items)
  stmt_at (Read items) = alone_at (Read items) (flat_map expr_names items) (targets_used items)
  stmt_at Stop = refl
  stmt_at (Comment text) = refl

  pub stmts_at : (ss : StmtTrees) → names_at (stmts_sites ss) ≡ stmts_names ss
  stmts_at no_stmts = refl
  stmts_at (more_stmts s rest) = at_append (stmt_sites s) (stmts_sites rest) ∙ (λ i. stmt_at s i ++ stmts_at rest i)
