-- Names in the statements of a unit, those in arguments of CALLs among them, are among those that are looked at.
use Rattle.std.proofs.Common.{◌≡◌, ℕ, List, [], ◌∷◌, ◌++◌, map, filter, Bool, true, false, ◌||◌, Option, Some, None, refl, ap, ◌∙◌, if◌then◌else◌}
use Rattle.std.specs.List.{flat_map}
use Rattle.ped_base.specs.Lists.{is_same_text, is_among}
use Rattle.ped_tree.specs.Accesses.{listed}
use Rattle.ped_tree.specs.NamesIn.{expr_names, cond_names, item_names, head_names, stmt_names, stmts_names, first_occurrences}
use Rattle.ped_tree.specs.Tree.{ExprTree, Int, Var, Element, Neg, Add, Sub, Mul, Div, Pow, Call, CondTree, And, Value, StmtTree, StmtTrees, Assign, If, Do, Print, Read, Stop, Comment, no_stmts, more_stmts, DeclTree, Program, Implicit, Integer, Dimension, Parameter, Save, Remark, ProgramTree}
use Rattle.ped_steps.specs.ped_symbols.specs.declared.uses.Role.{Role}
use Rattle.ped_steps.specs.ped_symbols.specs.declared.uses.Use.{Use}
use Rattle.ped_steps.specs.ped_symbols.specs.Declarations.{is_dimensioning, names_with}
use Rattle.ped_steps.specs.ped_symbols.specs.Kinds.{names_of}
use Rattle.ped_steps.specs.ped_symbols.specs.Sites.{decl_sites, stmts_sites, site_uses}
use Rattle.ped_steps.specs.ped_symbols.specs.Uses.{decl_uses}
use Rattle.ped_steps.specs.ped_symbols.proofs.RightUseLaws.Occurring.{first_among}
use Rattle.ped_steps.specs.ped_symbols.proofs.RightUseLaws.Whole.{names_occur}
use Rattle.ped_calls.specs.ped_units.specs.Forms.{Called}
use Rattle.ped_calls.specs.ped_units.specs.Units.{ProgramUnit, call_of, instead_of, with_calls, all_with_calls}
use Rattle.ped_calls.specs.ped_units.specs.Refusals.{dimensioned, is_whole_array, plain_arguments, is_zero, and_zeros, condition_of, using_arguments, save_of_formals, for_names}
use Rattle.ped_calls.specs.ped_units.specs.Expanding.{naming_arguments, body_names}
use Rattle.ped_steps.proofs.RunLaws.NamesAtSites.{stmts_at}
use Rattle.ped_steps.proofs.RunLaws.NamesKept.{occurs, occurs_append}
use Rattle.ped_call_runs.proofs.EachNames.{Each, each_front, each_behind, each_of, of_each, each_joined}

module _ (P : List ℕ → Type 0) (arrays : List (List ℕ)) (of_array : (x : List ℕ) → is_among x arrays ≡ true → P x) where
  whole : (a : ExprTree) → is_whole_array arrays a ≡ true → Each P (expr_names a)
  whole (Int n) h = absurd cc
  whole (Var x) h = (of_array x h, tt)
  whole (Element x es) h = absurd cc
  whole (Neg a) h = absurd cc
  whole (Add a b) h = absurd cc
  whole (Sub a b) h = absurd cc
  whole (Mul a b) h = absurd cc
  whole (Div a b) h = absurd cc
  whole (Pow a b) h = absurd cc
  whole (Call f es) h = absurd cc

  -- arguments
  of_plain : (es : List ExprTree) → Each P (flat_map expr_names (plain_arguments arrays es)) → Each P (flat_map item_names (map Value es))
  of_plain [] h = tt
  of_plain (a ∷ rest) h = go (of_plain rest) (is_whole_array arrays a) refl h
    where
      go : (Each P (flat_map expr_names (plain_arguments arrays rest)) → Each P (flat_map item_names (map Value rest))) → (t : Bool) → is_whole_array arrays a ≡ t → Each P (flat_map expr_names (if t then plain_arguments arrays rest else a ∷ plain_arguments arrays rest)) → Each P (expr_names a ++ flat_map item_names (map Value rest))
      go more true e k = each_joined P (expr_names a) (flat_map item_names (map Value rest)) (whole a e) (more k)
      go more false e k =
          each_joined P (expr_names a) (flat_map item_names (map Value rest)) (each_front P (expr_names a) (flat_map expr_names (plain_arguments arrays rest)) k)
          (more (each_behind P (expr_names a) (flat_map expr_names (plain_arguments arrays rest)) k))

  of_zeros : (c : CondTree) (es : List ExprTree) → Each P (cond_names (and_zeros c es)) → Each P (cond_names c) × Each P (flat_map expr_names es)
  of_zeros c [] h = (h, tt)
  of_zeros c (a ∷ rest) h =
      let p = of_zeros (And c (is_zero a)) rest h in
      let zero = each_front P (expr_names a) [] (each_behind P (cond_names c) (cond_names (is_zero a)) p.0) in
      (each_front P (cond_names c) (cond_names (is_zero a)) p.0, each_joined P (expr_names a) (flat_map expr_names rest) zero p.1)

  of_condition : (es : List ExprTree) → Each P (cond_names (condition_of es)) → Each P (flat_map expr_names es)
  of_condition [] h = tt
  of_condition (a ∷ rest) h =
      let p = of_zeros (is_zero a) rest h in
      each_joined P (expr_names a) (flat_map expr_names rest) (each_front P (expr_names a) [] p.0) p.1

  of_call : (c : Called) → Each P (stmt_names (using_arguments arrays c)) → Each P (stmt_names (naming_arguments c))
  of_call c h =
      let condition = condition_of (plain_arguments arrays (listed c.arguments)) in
      of_plain (listed c.arguments) (of_condition (plain_arguments arrays (listed c.arguments)) (each_front P (cond_names condition) [] (each_front P (cond_names condition ++ []) [] h)))

  of_assign : (t : StmtTree) (o : Option Called) → Each P (stmt_names (instead_of (using_arguments arrays) t o)) → Each P (stmt_names (instead_of naming_arguments t o))
  of_assign t None h = h
  of_assign t (Some c) h = of_call c h

  mutual
    in_stmt : (s : StmtTree) → Each P (stmt_names (with_calls (using_arguments arrays) s)) → Each P (stmt_names (with_calls naming_arguments s))
    in_stmt (Assign l r) h = of_assign (Assign l r) (call_of l r) h
    in_stmt (If c x y) h =
        let xs = stmts_names (all_with_calls (using_arguments arrays) x) in
        let ys = stmts_names (all_with_calls (using_arguments arrays) y) in
        let front = each_front P (cond_names c ++ xs) ys h in
        each_joined P (cond_names c ++ stmts_names (all_with_calls naming_arguments x)) (stmts_names (all_with_calls naming_arguments y))
        (each_joined P (cond_names c) (stmts_names (all_with_calls naming_arguments x)) (each_front P (cond_names c) xs front) (in_stmts x (each_behind P (cond_names c) xs front)))
        (in_stmts y (each_behind P (cond_names c ++ xs) ys h))
    in_stmt (Do head body) h =
        let bs = stmts_names (all_with_calls (using_arguments arrays) body) in
        each_joined P (head_names head) (stmts_names (all_with_calls naming_arguments body)) (each_front P (head_names head) bs h) (in_stmts body (each_behind P (head_names head) bs h))
    in_stmt (Print items) h = h
    in_stmt (Read items) h = h
    in_stmt Stop h = tt
    in_stmt (Comment text) h = tt

    pub in_stmts : (ss : StmtTrees) → Each P (stmts_names (all_with_calls (using_arguments arrays) ss)) → Each P (stmts_names (all_with_calls naming_arguments ss))
    in_stmts no_stmts h = tt
    in_stmts (more_stmts s rest) h =
        let first = stmt_names (with_calls (using_arguments arrays) s) in
        let others = stmts_names (all_with_calls (using_arguments arrays) rest) in
        each_joined P (stmt_names (with_calls naming_arguments s)) (stmts_names (all_with_calls naming_arguments rest)) (in_stmt s (each_front P first others h)) (in_stmts rest (each_behind P first others h))

-- what declarations use, site by site
pub decls_uses : (ds : List DeclTree) → flat_map site_uses (flat_map decl_sites ds) ≡ flat_map decl_uses ds
decls_uses [] = refl
decls_uses (Program x ∷ ds) = decls_uses ds
decls_uses (Implicit ∷ ds) = decls_uses ds
decls_uses (Integer es ∷ ds) = ap (λ (us : List Use). decl_uses (Integer es) ++ us) (decls_uses ds)
decls_uses (Dimension es ∷ ds) = ap (λ (us : List Use). decl_uses (Dimension es) ++ us) (decls_uses ds)
decls_uses (Parameter values ∷ ds) = ap (λ (us : List Use). decl_uses (Parameter values) ++ us) (decls_uses ds)
decls_uses (Save names ∷ ds) = ap (λ (us : List Use). decl_uses (Save names) ++ us) (decls_uses ds)
decls_uses (Remark text ∷ ds) = decls_uses ds

-- names that are used in a role are used
pub role_used : (test : Role → Bool) (uses : List Use) (x : List ℕ) → is_among x (names_with test uses) ≡ true → is_among x (map (λ u. u.name) uses) ≡ true
role_used test [] x h = absurd cc
role_used test (u ∷ us) x h = go (role_used test us x) (test u.role) h
  where
    either : (t : Bool) → t || true ≡ true
    either true = refl
    either false = refl

    later : (is_among x (names_with test us) ≡ true → is_among x (map (λ v. v.name) us) ≡ true) → is_among x (names_with test us) ≡ true → is_same_text x u.name || is_among x (map (λ v. v.name) us) ≡ true
    later more k = ap (λ (t : Bool). is_same_text x u.name || t) (more k) ∙ either (is_same_text x u.name)

    by_name : (is_among x (names_with test us) ≡ true → is_among x (map (λ v. v.name) us) ≡ true) → (t : Bool) → is_same_text x u.name ≡ t → t || is_among x (names_with test us) ≡ true → is_same_text x u.name || is_among x (map (λ v. v.name) us) ≡ true
    by_name more true e k = ap (λ (t : Bool). t || is_among x (map (λ v. v.name) us)) e
    by_name more false e k = later more k

    go : (is_among x (names_with test us) ≡ true → is_among x (map (λ v. v.name) us) ≡ true) → (t : Bool) → is_among x (map (λ v. v.name) (if t then u ∷ filter (λ v. test v.role) us else filter (λ v. test v.role) us)) ≡ true → is_same_text x u.name || is_among x (map (λ v. v.name) us) ≡ true
    go more true k = by_name more (is_same_text x u.name) refl k
    go more false k = later more k

-- the names of a unit's statements occur in the program that its names are looked at in
pub body_named : (u : ProgramUnit) → (x : List ℕ) → is_among x (body_names u) ≡ true → is_among x (names_of (for_names u)) ≡ true
body_named u x h = each_of There (stmts_names (all_with_calls naming_arguments u.tree.body)) all x (first_among [] (stmts_names (all_with_calls naming_arguments u.tree.body)) x h)
  where
    t : ProgramTree
    t = for_names u

    There : List ℕ → Type 0
    There y = is_among y (names_of t) ≡ true

    either : (a : Bool) → a || true ≡ true
    either true = refl
    either false = refl

    in_body : (y : List ℕ) → is_among y (stmts_names t.body) ≡ true → There y
    in_body y m =
        names_occur t y ∙ occurs_append y (flat_map decl_sites t.decls) (stmts_sites t.body)
        ∙ ap (λ (b : Bool). occurs y (flat_map decl_sites t.decls) || b) (ap (is_among y) (stmts_at t.body) ∙ m) ∙ either (occurs y (flat_map decl_sites t.decls))

    in_own : (y : List ℕ) → is_among y (dimensioned u.tree.decls) ≡ true → occurs y (flat_map decl_sites u.tree.decls) ≡ true
    in_own y m = ap (λ (uses : List Use). is_among y (map (λ v. v.name) uses)) (decls_uses u.tree.decls) ∙ role_used is_dimensioning (flat_map decl_uses u.tree.decls) y m

    behind_formals : (y : List ℕ) (fs : List (List ℕ)) → is_among y (dimensioned u.tree.decls) ≡ true → occurs y (flat_map decl_sites (save_of_formals fs ++ u.tree.decls)) ≡ true
    behind_formals y [] m = in_own y m
    behind_formals y (f ∷ fs) m =
        let saved = Save (first_occurrences [] (f ∷ fs)) in
        occurs_append y (decl_sites saved) (flat_map decl_sites u.tree.decls) ∙ ap (λ (b : Bool). occurs y (decl_sites saved) || b) (in_own y m) ∙ either (occurs y (decl_sites saved))

    in_decls : (y : List ℕ) → is_among y (dimensioned u.tree.decls) ≡ true → There y
    in_decls y m =
        names_occur t y ∙ occurs_append y (flat_map decl_sites t.decls) (stmts_sites t.body)
        ∙ ap (λ (b : Bool). b || occurs y (stmts_sites t.body)) (behind_formals y u.formals m)

    all : Each There (stmts_names (all_with_calls naming_arguments u.tree.body))
    all = in_stmts There (dimensioned u.tree.decls) in_decls u.tree.body (of_each There (stmts_names t.body) in_body)
