-- Names that stand in a program that fits are names, and so none of a CALL's own.
use Rattle.std.proofs.Common.{◌≡◌, ℕ, ◌+◌, List, [], ◌∷◌, ◌++◌, map, Bool, true, false, ◌&&◌, ◌==◌, eqb-true, refl, ap, ◌∙◌}
use Rattle.std.specs.List.{flat_map, list_all}
use Rattle.std.proofs.lemmas.Bool.{and_parts}
use Rattle.ped_base.specs.Lists.{has_some, is_same_text}
use Rattle.ped_tree.specs.Accesses.{constant_names}
use Rattle.ped_tree.specs.Grammar.Fits.{takes_arguments, has_expr, expr_fits, exprs_fit, target_fits, cond_fits, item_fits, comment_fits, bound_fits, declarator_fits, array_fits, constant_fits, Surroundings, in_if, in_loop, moved, private_fits, stmt_fits, stmts_fit, decls_fit}
use Rattle.ped_tree.specs.Grammar.Contexts.{decl_rank}
use Rattle.ped_tree.specs.Grammar.Words.{is_name}
use Rattle.ped_tree.specs.NamesIn.{expr_names, exprs_names, cond_names, item_names, head_names, stmt_names, stmts_names, saved_in}
use Rattle.ped_tree.specs.Numbering.{statement_count, statements_count}
use Rattle.ped_tree.specs.Tree.{ExprTree, ExprTrees, Int, Var, Element, Neg, Add, Sub, Mul, Div, Pow, Call, no_exprs, more_exprs, CondTree, Rel, Not, And, Or, ItemTree, Value, Text, Head, StmtTree, StmtTrees, Assign, If, Do, Print, Read, Stop, Comment, no_stmts, more_stmts, DeclaratorTree, DeclTree, Program, Implicit, Integer, Dimension, Parameter, Save, Remark}
use Rattle.ped_steps.specs.ped_symbols.specs.Values.{declarators}
use Rattle.ped_calls.specs.ped_parse.specs.ped_printed.proofs.ProgramLaws.Fits.{simple_parts, if_parts, do_parts, private_parts, declaration_parts}
use Rattle.ped_call_runs.proofs.EachNames.{Each, each_joined}
use Rattle.ped_call_runs.proofs.OwnNames.{IsNoOwn}

-- a name that is written begins with a letter
pub written_name : (x : List ℕ) → is_name x ≡ true → IsNoOwn x
written_name [] h = absurd cc
written_name (c ∷ cs) h = λ m y. ap (λ (t : Bool). t && is_same_text (m ∷ y) cs) (go (0 == c) refl)
  where
    go : (t : Bool) → (0 == c) ≡ t → (0 == c) ≡ false
    go false e = e
    go true e = let z : is_name (0 ∷ cs) ≡ true = ap (λ (a : ℕ). is_name (a ∷ cs)) (eqb-true 0 c e) ∙ h in absurd cc

-- a name as it is written
abbrev pub IsName : List ℕ → Type 0
IsName x = is_name x ≡ true

abbrev pub AreNames : List (List ℕ) → Type 0
AreNames xs = Each IsName xs

joined : (xs ys : List (List ℕ)) → AreNames xs → AreNames ys → AreNames (xs ++ ys)
joined = each_joined IsName

flattened : {X : Type 0} (names : X → List (List ℕ)) (test : X → Bool) → ((x : X) → test x ≡ true → AreNames (names x)) → (xs : List X) → list_all test xs ≡ true → AreNames (flat_map names xs)
flattened names test each [] h = tt
flattened names test each (x ∷ xs) h = let a = and_parts (test x) (list_all test xs) h in joined (names x) (flat_map names xs) (each x a.0) (flattened names test each xs a.1)

written_names : (xs : List (List ℕ)) → list_all is_name xs ≡ true → AreNames xs
written_names [] h = tt
written_names (x ∷ xs) h = let a = and_parts (is_name x) (list_all is_name xs) h in (a.0, written_names xs a.1)

mutual
  in_expr : (e : ExprTree) → expr_fits e ≡ true → AreNames (expr_names e)
  in_expr (Int n) h = tt
  in_expr (Var x) h = (h, tt)
  in_expr (Element x es) h =
      let a = and_parts _ (exprs_fit es) h in
      let b = and_parts _ (has_expr es) a.0 in
      let c = and_parts (is_name x) _ b.0 in
      (c.0, in_exprs es a.1)
  in_expr (Neg a) h = in_expr a h
  in_expr (Add a b) h = let p = and_parts (expr_fits a) (expr_fits b) h in joined (expr_names a) (expr_names b) (in_expr a p.0) (in_expr b p.1)
  in_expr (Sub a b) h = let p = and_parts (expr_fits a) (expr_fits b) h in joined (expr_names a) (expr_names b) (in_expr a p.0) (in_expr b p.1)
  in_expr (Mul a b) h = let p = and_parts (expr_fits a) (expr_fits b) h in joined (expr_names a) (expr_names b) (in_expr a p.0) (in_expr b p.1)
  in_expr (Div a b) h = let p = and_parts (expr_fits a) (expr_fits b) h in joined (expr_names a) (expr_names b) (in_expr a p.0) (in_expr b p.1)
  in_expr (Pow a b) h = let p = and_parts (expr_fits a) (expr_fits b) h in joined (expr_names a) (expr_names b) (in_expr a p.0) (in_expr b p.1)
  in_expr (Call f es) h = in_exprs es (and_parts (takes_arguments f es) (exprs_fit es) h).1

  in_exprs : (es : ExprTrees) → exprs_fit es ≡ true → AreNames (exprs_names es)
  in_exprs no_exprs h = tt
  in_exprs (more_exprs e rest) h = let p = and_parts (expr_fits e) (exprs_fit rest) h in joined (expr_names e) (exprs_names rest) (in_expr e p.0) (in_exprs rest p.1)

in_target : (e : ExprTree) → target_fits e ≡ true → AreNames (expr_names e)
in_target (Int n) h = absurd cc
in_target (Var x) h = in_expr (Var x) h
in_target (Element x es) h = in_expr (Element x es) h
in_target (Neg a) h = absurd cc
in_target (Add a b) h = absurd cc
in_target (Sub a b) h = absurd cc
in_target (Mul a b) h = absurd cc
in_target (Div a b) h = absurd cc
in_target (Pow a b) h = absurd cc
in_target (Call f es) h = absurd cc

in_cond : (c : CondTree) → cond_fits c ≡ true → AreNames (cond_names c)
in_cond (Rel r a b) h = let p = and_parts (expr_fits a) (expr_fits b) h in joined (expr_names a) (expr_names b) (in_expr a p.0) (in_expr b p.1)
in_cond (Not a) h = in_cond a h
in_cond (And a b) h = let p = and_parts (cond_fits a) (cond_fits b) h in joined (cond_names a) (cond_names b) (in_cond a p.0) (in_cond b p.1)
in_cond (Or a b) h = let p = and_parts (cond_fits a) (cond_fits b) h in joined (cond_names a) (cond_names b) (in_cond a p.0) (in_cond b p.1)

in_item : (i : ItemTree) → item_fits i ≡ true → AreNames (item_names i)
in_item (Value e) h = in_expr e h
in_item (Text t) h = tt

pub in_private : (p : Surroundings) (h : Head) → private_fits p h ≡ true → AreNames h.private
in_private p h fits = go (has_some h.private) refl
  where
    none : (xs : List (List ℕ)) → has_some xs ≡ false → AreNames xs
    none [] e = tt
    none (x ∷ xs) e = absurd cc

    go : (t : Bool) → has_some h.private ≡ t → AreNames h.private
    go false e = none h.private e
    go true e = written_names h.private (and_parts (has_some h.private) (list_all is_name h.private) (private_parts p h fits e).names).1

-- names of statements that fit
mutual
  in_stmt : (p : Surroundings) (s : StmtTree) → stmt_fits p s ≡ true → AreNames (stmt_names s)
  in_stmt p (Assign l r) h =
      let f = simple_parts p (Assign l r) refl h in
      let a = and_parts (target_fits l) (expr_fits r) f.own in
      joined (expr_names l) (expr_names r) (in_target l a.0) (in_expr r a.1)
  in_stmt p (If c a b) h =
      let f = if_parts p c a b h in
      joined (cond_names c ++ stmts_names a) (stmts_names b) (joined (cond_names c) (stmts_names a) (in_cond c f.branch.own) (in_stmts (in_if p 1) a f.then_part)) (in_stmts (in_if p (1 + statements_count a)) b f.else_part)
  in_stmt p (Do h body) k =
      let f = do_parts p h body k in
      let a = and_parts _ (expr_fits h.step) f.0.own in
      let b = and_parts _ (expr_fits h.last) a.0 in
      let c = and_parts (is_name h.variable) (expr_fits h.first) b.0 in
      let bounds = joined (expr_names h.first ++ expr_names h.last) (expr_names h.step) (joined (expr_names h.first) (expr_names h.last) (in_expr h.first c.1) (in_expr h.last b.1)) (in_expr h.step a.1) in
      let rest = joined (expr_names h.first ++ expr_names h.last ++ expr_names h.step) h.private bounds (in_private p h f.0.private) in
      joined (head_names h) (stmts_names body) (joined h.rejected (h.variable ∷ (expr_names h.first ++ expr_names h.last ++ expr_names h.step ++ h.private)) (written_names h.rejected f.0.rejected) (c.0, rest)) (in_stmts (in_loop p h) body f.1)
  in_stmt p (Print items) h = flattened item_names item_fits in_item items (simple_parts p (Print items) refl h).own
  in_stmt p (Read items) h = flattened expr_names target_fits in_target items (simple_parts p (Read items) refl h).own
  in_stmt p Stop h = tt
  in_stmt p (Comment text) h = tt

  pub in_stmts : (p : Surroundings) (ss : StmtTrees) → stmts_fit p ss ≡ true → AreNames (stmts_names ss)
  in_stmts p no_stmts h = tt
  in_stmts p (more_stmts s rest) h =
      let a = and_parts (stmt_fits p s) (stmts_fit (moved p (statement_count s)) rest) h in
      joined (stmt_names s) (stmts_names rest) (in_stmt p s a.0) (in_stmts (moved p (statement_count s)) rest a.1)

-- names that declarations, the first of some that fit, make constants or save
pub record DeclareNames (ds : List DeclTree) : Type 0 where
  pub constants : AreNames (constant_names ds)
  pub saved : AreNames (flat_map saved_in ds)

of_constants : (values : List (List ℕ × ExprTree)) → list_all constant_fits values ≡ true → AreNames (map (λ v. v.0) values)
of_constants [] h = tt
of_constants (v ∷ vs) h =
    let a = and_parts (constant_fits v) (list_all constant_fits vs) h in
    ((and_parts (is_name v.0) (expr_fits v.1) a.0).0, of_constants vs a.1)

pub in_decls : (phase : ℕ) (ds es : List DeclTree) → decls_fit phase (ds ++ es) ≡ true → DeclareNames ds
in_decls phase [] es h = record { constants = tt; saved = tt }
in_decls phase (Program x ∷ ds) es h = let p = declaration_parts phase (Program x) (ds ++ es) refl h in let more = in_decls (decl_rank (Program x)) ds es p.1 in record { constants = more.constants; saved = more.saved }
in_decls phase (Implicit ∷ ds) es h = let p = declaration_parts phase Implicit (ds ++ es) refl h in let more = in_decls (decl_rank Implicit) ds es p.1 in record { constants = more.constants; saved = more.saved }
in_decls phase (Integer xs ∷ ds) es h = let p = declaration_parts phase (Integer xs) (ds ++ es) refl h in let more = in_decls (decl_rank (Integer xs)) ds es p.1 in record { constants = more.constants; saved = more.saved }
in_decls phase (Dimension xs ∷ ds) es h = let p = declaration_parts phase (Dimension xs) (ds ++ es) refl h in let more = in_decls (decl_rank (Dimension xs)) ds es p.1 in record { constants = more.constants; saved = more.saved }
in_decls phase (Parameter values ∷ ds) es h =
    let p = declaration_parts phase (Parameter values) (ds ++ es) refl h in
    let more = in_decls (decl_rank (Parameter values)) ds es p.1 in
    let here = of_constants values (and_parts (has_some values) (list_all constant_fits values) p.0.declares).1 in
    record { constants = joined (map (λ v. v.0) values) (constant_names ds) here more.constants; saved = more.saved }
in_decls phase (Save names ∷ ds) es h =
    let p = declaration_parts phase (Save names) (ds ++ es) refl h in
    let more = in_decls (decl_rank (Save names)) ds es p.1 in
    let here = written_names names (and_parts (has_some names) (list_all is_name names) p.0.declares).1 in
    record { constants = more.constants; saved = joined names (flat_map saved_in ds) here more.saved }
in_decls phase (Remark text ∷ ds) es h = let p = and_parts (comment_fits text) (decls_fit phase (ds ++ es)) h in let more = in_decls phase ds es p.1 in record { constants = more.constants; saved = more.saved }

-- names that INTEGER and DIMENSION declare
abbrev pub declared_names : DeclTree → List (List ℕ)
declared_names d = map (λ e. e.name) (declarators d)

abbrev pub all_declared : List DeclTree → List (List ℕ)
all_declared ds = flat_map declared_names ds

of_declarators : (ds : List DeclaratorTree) → list_all declarator_fits ds ≡ true → AreNames (map (λ e. e.name) ds)
of_declarators [] h = tt
of_declarators (d ∷ ds) h =
    let a = and_parts (declarator_fits d) (list_all declarator_fits ds) h in
    ((and_parts (is_name d.name) _ (and_parts _ (list_all bound_fits d.bounds) a.0).0).0, of_declarators ds a.1)

of_arrays : (ds : List DeclaratorTree) → list_all array_fits ds ≡ true → AreNames (map (λ e. e.name) ds)
of_arrays [] h = tt
of_arrays (d ∷ ds) h =
    let a = and_parts (array_fits d) (list_all array_fits ds) h in
    let c = and_parts (declarator_fits d) (has_some d.bounds) a.0 in
    ((and_parts (is_name d.name) _ (and_parts _ (list_all bound_fits d.bounds) c.0).0).0, of_arrays ds a.1)

pub in_declared : (phase : ℕ) (ds : List DeclTree) → decls_fit phase ds ≡ true → AreNames (all_declared ds)
in_declared phase [] h = tt
in_declared phase (Program x ∷ ds) h = in_declared (decl_rank (Program x)) ds (declaration_parts phase (Program x) ds refl h).1
in_declared phase (Implicit ∷ ds) h = in_declared (decl_rank Implicit) ds (declaration_parts phase Implicit ds refl h).1
in_declared phase (Integer xs ∷ ds) h =
    let p = declaration_parts phase (Integer xs) ds refl h in
    joined (map (λ e. e.name) xs) (all_declared ds) (of_declarators xs (and_parts (has_some xs) (list_all declarator_fits xs) p.0.declares).1) (in_declared (decl_rank (Integer xs)) ds p.1)
in_declared phase (Dimension xs ∷ ds) h =
    let p = declaration_parts phase (Dimension xs) ds refl h in
    joined (map (λ e. e.name) xs) (all_declared ds) (of_arrays xs (and_parts (has_some xs) (list_all array_fits xs) p.0.declares).1) (in_declared (decl_rank (Dimension xs)) ds p.1)
in_declared phase (Parameter values ∷ ds) h = in_declared (decl_rank (Parameter values)) ds (declaration_parts phase (Parameter values) ds refl h).1
in_declared phase (Save names ∷ ds) h = in_declared (decl_rank (Save names)) ds (declaration_parts phase (Save names) ds refl h).1
in_declared phase (Remark text ∷ ds) h = in_declared phase ds (and_parts (comment_fits text) (decls_fit phase ds) h).1
