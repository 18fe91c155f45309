-- The scalars of a valid program have names that a script can write: a program of the profile has no other names.
use Rattle.std.proofs.Common.{◌≡◌, ℕ, ◌+◌, Bool, true, false, not, ◌&&◌, ◌||◌, List, [], ◌∷◌, ◌++◌, map, length, leb, Some, None, refl, ap, ◌∙◌}
use Rattle.std.specs.Prelude.{if◌then◌else◌}
use Rattle.std.specs.List.{list_all, flat_map}
use Rattle.std.proofs.lemmas.Bool.{and_parts, and_from, leb-true}
use Rattle.std.proofs.lemmas.List.Folds.{list_all-append, list_all-map}
use Rattle.ped_base.specs.Letters as Letters
use Rattle.ped_base.specs.Lists.{has_some, is_same_text, is_among}
use Rattle.ped_base.proofs.NameEquality.{same_is}
use Rattle.ped_tree.specs.Tree.{ExprTree, ExprTrees, Int, Var, Element, Neg, Add, Sub, Mul, Div, Pow, Call, no_exprs, more_exprs, CondTree, Rel, Not, And, Or, ItemTree, Value, Text, Head, StmtTree, StmtTrees, Assign, If, Do, Print, Read, Stop, Comment, no_stmts, more_stmts, BoundTree, DeclaratorTree, DeclTree, Program, Implicit, Integer, Dimension, Parameter, Save, Remark, ProgramTree}
use Rattle.ped_tree.specs.Numbering.{statement_count, statements_count}
use Rattle.ped_tree.specs.Printing.{decl_text}
use Rattle.ped_tree.specs.Grammar.LimitNumbers.{most_characters}
use Rattle.ped_tree.specs.Grammar.ProgramRefusals.{is_out_of_order}
use Rattle.ped_tree.specs.Grammar.Words.{is_name}
use Rattle.ped_tree.specs.Grammar.StatementForms.{are_names}
use Rattle.ped_tree.specs.Grammar.Contexts.{decl_rank}
use Rattle.ped_tree.specs.Grammar.Fits.{expr_fits, exprs_fit, has_expr, target_fits, cond_fits, item_fits, Surroundings, moved, in_if, in_loop, private_fits, loop_fits, stmt_fits, stmts_fit, bound_fits, declarator_fits, array_fits, constant_fits, decl_fits, decls_fit, begins_with_statement, at_body, fits}
use Rattle.ped_transformations.specs.ped_symbols.specs.declared.uses.Role.{Role}
use Rattle.ped_transformations.specs.ped_symbols.specs.declared.uses.Role.TheVariants.{Typed, Dimensioned, Named, Saved, Rejected, Private, Index, Assigned, Operand}
use Rattle.ped_transformations.specs.ped_symbols.specs.declared.uses.Use.{Use}
use Rattle.ped_transformations.specs.ped_symbols.specs.Uses.{used_as, expr_uses, exprs_uses, cond_uses, target_uses, item_uses, own_uses, bounds_uses, dimension_uses, type_uses}
use Rattle.ped_transformations.specs.ped_symbols.specs.Sites.{Site, declaration, statement, private_names, private_site, stmt_sites, stmts_sites, decl_sites, program_sites, site_uses}
use Rattle.ped_transformations.specs.ped_symbols.specs.Kinds.{names_at, names_of, kind_of}
use Rattle.ped_transformations.specs.ped_symbols.specs.RightUses.RightUses.{is_scalar_kind}
use Rattle.ped_transformations.specs.ped_symbols.specs.NameRefusals.{IsValid}
use Rattle.ped_transformations.specs.ped_symbols.proofs.RightUseLaws.Occurring.{first_among}
use Rattle.ped_transformations.specs.ped_rules.specs.Scalars.{is_scalar}
use Rattle.ped_transformations.specs.ped_auto.specs.CarriedNames.{is_file}
use Rattle.ped_transformations.specs.ped_auto.specs.Replay.{HasShortNames}
use Rattle.ped_session.specs.AutoEditing.{session_editing}

-- all names that are used are names of the profile
abbrev is_named : Use → Bool
is_named u = is_name u.name

abbrev AreNamed : List Use → Type 0
AreNamed us = list_all is_named us ≡ true

both_named : (us vs : List Use) → AreNamed us → AreNamed vs → AreNamed (us ++ vs)
both_named us vs h k = list_all-append is_named us vs ∙ and_from (list_all is_named us) (list_all is_named vs) h k

first_named : (role : Role) (x : List ℕ) (us : List Use) → is_name x ≡ true → AreNamed us → AreNamed (used_as role x ∷ us)
first_named role x us h k = and_from (is_name x) (list_all is_named us) h k

each_named : {X : Type 0} (f : X → List Use) (p : X → Bool) → ((x : X) → p x ≡ true → AreNamed (f x)) → (xs : List X) → list_all p xs ≡ true → AreNamed (flat_map f xs)
each_named f p g [] h = refl
each_named f p g (x ∷ xs) h = let b = and_parts (p x) (list_all p xs) h in both_named (f x) (flat_map f xs) (g x b.0) (each_named f p g xs b.1)

names_named : (role : Role) (names : List (List ℕ)) → list_all is_name names ≡ true → AreNamed (map (used_as role) names)
names_named role [] h = refl
names_named role (x ∷ xs) h = let b = and_parts (is_name x) (list_all is_name xs) h in first_named role x (map (used_as role) xs) b.0 (names_named role xs b.1)

two_named : (a b : ExprTree) → (expr_fits a ≡ true → AreNamed (expr_uses a)) → (expr_fits b ≡ true → AreNamed (expr_uses b)) → (expr_fits a && expr_fits b) ≡ true → AreNamed (expr_uses a ++ expr_uses b)
two_named a b first second h = let k = and_parts (expr_fits a) (expr_fits b) h in both_named (expr_uses a) (expr_uses b) (first k.0) (second k.1)

-- those in expressions
mutual
  expr_named : (e : ExprTree) → expr_fits e ≡ true → AreNamed (expr_uses e)
  expr_named (Int n) h = refl
  expr_named (Var x) h = first_named (Operand 0) x [] h refl
  expr_named (Element x subscripts) h =
      let last = and_parts _ (exprs_fit subscripts) h in
      let middle = and_parts _ (has_expr subscripts) last.0 in
      let front = and_parts (is_name x) _ middle.0 in
      and_from (is_name x) (list_all is_named (exprs_uses subscripts)) front.0 (exprs_named subscripts last.1)
  expr_named (Neg a) h = expr_named a h
  expr_named (Add a b) h = two_named a b (expr_named a) (expr_named b) h
  expr_named (Sub a b) h = two_named a b (expr_named a) (expr_named b) h
  expr_named (Mul a b) h = two_named a b (expr_named a) (expr_named b) h
  expr_named (Div a b) h = two_named a b (expr_named a) (expr_named b) h
  expr_named (Pow a b) h = two_named a b (expr_named a) (expr_named b) h
  expr_named (Call f arguments) h = exprs_named arguments (and_parts _ (exprs_fit arguments) h).1

  exprs_named : (es : ExprTrees) → exprs_fit es ≡ true → AreNamed (exprs_uses es)
  exprs_named no_exprs h = refl
  exprs_named (more_exprs e rest) h =
      let k = and_parts (expr_fits e) (exprs_fit rest) h in both_named (expr_uses e) (exprs_uses rest) (expr_named e k.0) (exprs_named rest k.1)

target_named : (e : ExprTree) → target_fits e ≡ true → AreNamed (target_uses e)
target_named (Var x) h = first_named (Assigned 0) x [] h refl
target_named (Element x subscripts) h = expr_named (Element x subscripts) h
target_named (Int n) h = absurd cc
target_named (Neg a) h = absurd cc
target_named (Add a b) h = absurd cc
target_named (Sub a b) h = absurd cc
target_named (Mul a b) h = absurd cc
target_named (Div a b) h = absurd cc
target_named (Pow a b) h = absurd cc
target_named (Call f arguments) h = absurd cc

cond_named : (c : CondTree) → cond_fits c ≡ true → AreNamed (cond_uses c)
cond_named (Rel r a b) h = two_named a b (expr_named a) (expr_named b) h
cond_named (Not a) h = cond_named a h
cond_named (And a b) h = let k = and_parts (cond_fits a) (cond_fits b) h in both_named (cond_uses a) (cond_uses b) (cond_named a k.0) (cond_named b k.1)
cond_named (Or a b) h = let k = and_parts (cond_fits a) (cond_fits b) h in both_named (cond_uses a) (cond_uses b) (cond_named a k.0) (cond_named b k.1)

item_named : (i : ItemTree) → item_fits i ≡ true → AreNamed (item_uses i)
item_named (Value e) h = expr_named e h
item_named (Text text) h = refl

-- those at sites
abbrev is_named_site : Site → Bool
is_named_site s = list_all is_named (site_uses s)

abbrev AreNamedSites : List Site → Type 0
AreNamedSites sites = list_all is_named_site sites ≡ true

both_sites : (r s : List Site) → AreNamedSites r → AreNamedSites s → AreNamedSites (r ++ s)
both_sites r s h k = list_all-append is_named_site r s ∙ and_from (list_all is_named_site r) (list_all is_named_site s) h k

first_site : (s : Site) (rest : List Site) → AreNamed (site_uses s) → AreNamedSites rest → AreNamedSites (s ∷ rest)
first_site s rest h k = and_from (is_named_site s) (list_all is_named_site rest) h k

private_named : (names : List (List ℕ)) (a b : Bool) → (not (has_some names) || ((are_names names && a) && b)) ≡ true → AreNamedSites (private_site names)
private_named [] a b h = refl
private_named (x ∷ xs) a b h =
    let names = and_parts (are_names (x ∷ xs)) a (and_parts _ b h).0 in
    first_site (private_names (x ∷ xs)) [] (names_named Private (x ∷ xs) names.0) refl

-- a DO by itself
loop_named : (p : Surroundings) (h : Head) (body : StmtTrees) → loop_fits p h body ≡ true → AreNamed (own_uses (Do h body)) × AreNamedSites (private_site h.private)
loop_named p h body f =
    let rejected = and_parts _ (list_all is_name h.rejected) f in
    let alone = and_parts _ (private_fits p h) rejected.0 in
    let blocks = and_parts _ _ alone.0 in
    let loops = and_parts _ _ blocks.0 in
    let apart = and_parts _ _ loops.0 in
    let fresh = and_parts _ _ apart.0 in
    let step = and_parts _ (expr_fits h.step) fresh.0 in
    let last = and_parts _ (expr_fits h.last) step.0 in
    let first = and_parts _ (expr_fits h.first) last.0 in
    let variable = and_parts _ (is_name h.variable) first.0 in
    let behind = expr_uses h.first ++ expr_uses h.last ++ expr_uses h.step in
    let bounds = both_named (expr_uses h.first ++ expr_uses h.last) (expr_uses h.step) (both_named (expr_uses h.first) (expr_uses h.last) (expr_named h.first first.1) (expr_named h.last last.1)) (expr_named h.step step.1) in (
      both_named (map (used_as Rejected) h.rejected) (used_as Index h.variable ∷ behind) (names_named Rejected h.rejected rejected.1) (first_named Index h.variable behind variable.1 bounds),
      private_named h.private _ _ alone.1,
    )

mutual
  stmt_named : (p : Surroundings) (s : StmtTree) → stmt_fits p s ≡ true → AreNamedSites (stmt_sites s)
  stmt_named p (Assign left right) f =
      let second = and_parts _ (expr_fits right) f in
      let first = and_parts _ (target_fits left) second.0 in
      first_site (statement (Assign left right)) [] (both_named (target_uses left) (expr_uses right) (target_named left first.1) (expr_named right second.1)) refl
  stmt_named p (If c a b) f =
      let second = and_parts _ (stmts_fit (in_if p (1 + statements_count a)) b) f in
      let first = and_parts _ (stmts_fit (in_if p 1) a) second.0 in
      let condition = and_parts _ (cond_fits c) first.0 in
      first_site (statement (If c a b)) (stmts_sites a ++ stmts_sites b) (cond_named c condition.1)
      (both_sites (stmts_sites a) (stmts_sites b) (stmts_named (in_if p 1) a first.1) (stmts_named (in_if p (1 + statements_count a)) b second.1))
  stmt_named p (Do h body) f =
      let parts = and_parts (loop_fits p h body) (stmts_fit (in_loop p h) body) f in
      let loop = loop_named p h body parts.0 in
      first_site (statement (Do h body)) (private_site h.private ++ stmts_sites body) loop.0 (both_sites (private_site h.private) (stmts_sites body) loop.1 (stmts_named (in_loop p h) body parts.1))
  stmt_named p (Print items) f =
      first_site (statement (Print items)) [] (each_named item_uses item_fits item_named items (and_parts _ (list_all item_fits items) f).1) refl
  stmt_named p (Read items) f =
      first_site (statement (Read items)) [] (each_named target_uses target_fits target_named items (and_parts _ (list_all target_fits items) f).1) refl
  stmt_named p Stop f = refl
  stmt_named p (Comment text) f = refl

  stmts_named : (p : Surroundings) (ss : StmtTrees) → stmts_fit p ss ≡ true → AreNamedSites (stmts_sites ss)
  stmts_named p no_stmts f = refl
  stmts_named p (more_stmts s rest) f =
      let parts = and_parts (stmt_fits p s) (stmts_fit (moved p (statement_count s)) rest) f in
      both_sites (stmt_sites s) (stmts_sites rest) (stmt_named p s parts.0) (stmts_named (moved p (statement_count s)) rest parts.1)

-- those in declarations
bound_named : (b : BoundTree) → bound_fits b ≡ true → AreNamed (expr_uses b.lower ++ expr_uses b.upper)
bound_named b h = two_named b.lower b.upper (expr_named b.lower) (expr_named b.upper) h

dimension_named : (d : DeclaratorTree) → declarator_fits d ≡ true → AreNamed (dimension_uses d)
dimension_named d h =
    let last = and_parts _ (list_all bound_fits d.bounds) h in
    let front = and_parts (is_name d.name) _ last.0 in
    first_named (Dimensioned (length d.bounds)) d.name (bounds_uses d.bounds) front.0 (each_named (λ (b : BoundTree). expr_uses b.lower ++ expr_uses b.upper) bound_fits bound_named d.bounds last.1)

perhaps_named : (b : Bool) (us : List Use) → AreNamed us → AreNamed (if b then us else [])
perhaps_named true us h = h
perhaps_named false us h = refl

type_named : (d : DeclaratorTree) → declarator_fits d ≡ true → AreNamed (type_uses d)
type_named d h =
    let front = and_parts (is_name d.name) _ (and_parts _ (list_all bound_fits d.bounds) h).0 in
    first_named Typed d.name (if has_some d.bounds then dimension_uses d else []) front.0 (perhaps_named (has_some d.bounds) (dimension_uses d) (dimension_named d h))

constant_named : (v : List ℕ × ExprTree) → constant_fits v ≡ true → AreNamed (used_as Named v.0 ∷ expr_uses v.1)
constant_named v h = let k = and_parts (is_name v.0) (expr_fits v.1) h in first_named Named v.0 (expr_uses v.1) k.0 (expr_named v.1 k.1)

decl_named : (d : DeclTree) → decl_fits d ≡ true → AreNamedSites (decl_sites d)
decl_named (Program x) h = refl
decl_named Implicit h = refl
decl_named (Integer ds) h =
    first_site (declaration (Integer ds)) [] (each_named type_uses declarator_fits type_named ds (and_parts (has_some ds) (list_all declarator_fits ds) h).1) refl
decl_named (Dimension ds) h =
    first_site (declaration (Dimension ds)) [] (each_named dimension_uses array_fits (λ d k. dimension_named d (and_parts (declarator_fits d) (has_some d.bounds) k).0) ds (and_parts (has_some ds) (list_all array_fits ds) h).1) refl
decl_named (Parameter values) h =
    first_site (declaration (Parameter values)) [] (each_named (λ (v : List ℕ × ExprTree). used_as Named v.0 ∷ expr_uses v.1) constant_fits constant_named values (and_parts (has_some values) (list_all constant_fits values) h).1) refl
decl_named (Save names) h = first_site (declaration (Save names)) [] (names_named Saved names (and_parts (has_some names) (list_all is_name names) h).1) refl
decl_named (Remark text) h = refl

-- a declaration that is no comment, and those behind it
abbrev BeginFit : ℕ → DeclTree → List DeclTree → Type 0
BeginFit phase d ds = (decl_fits d && leb (length (decl_text d)) most_characters && not (is_out_of_order phase (decl_rank d)) && decls_fit (decl_rank d) ds) ≡ true

front_named : (phase : ℕ) (d : DeclTree) (ds : List DeclTree) → BeginFit phase d ds
    → (decls_fit (decl_rank d) ds ≡ true → AreNamedSites (flat_map decl_sites ds)) → AreNamedSites (decl_sites d ++ flat_map decl_sites ds)
front_named phase d ds h more =
    let short = leb (length (decl_text d)) most_characters in
    let ordered = not (is_out_of_order phase (decl_rank d)) in
    let k = and_parts (decl_fits d && short && ordered) (decls_fit (decl_rank d) ds) h in
    both_sites (decl_sites d) (flat_map decl_sites ds) (decl_named d (and_parts (decl_fits d) short (and_parts (decl_fits d && short) ordered k.0).0).0) (more k.1)

decls_named : (phase : ℕ) (ds : List DeclTree) → decls_fit phase ds ≡ true → AreNamedSites (flat_map decl_sites ds)
decls_named phase [] h = refl
decls_named phase (Remark text ∷ ds) h = decls_named phase ds (and_parts _ (decls_fit phase ds) h).1
decls_named phase (Program x ∷ ds) h = front_named phase (Program x) ds h (decls_named (decl_rank (Program x)) ds)
decls_named phase (Implicit ∷ ds) h = front_named phase Implicit ds h (decls_named (decl_rank Implicit) ds)
decls_named phase (Integer es ∷ ds) h = front_named phase (Integer es) ds h (decls_named (decl_rank (Integer es)) ds)
decls_named phase (Dimension es ∷ ds) h = front_named phase (Dimension es) ds h (decls_named (decl_rank (Dimension es)) ds)
decls_named phase (Parameter values ∷ ds) h = front_named phase (Parameter values) ds h (decls_named (decl_rank (Parameter values)) ds)
decls_named phase (Save names ∷ ds) h = front_named phase (Save names) ds h (decls_named (decl_rank (Save names)) ds)

-- so all that occur in a program are
program_named : (t : ProgramTree) → fits t ≡ true → list_all is_name (names_at (program_sites t)) ≡ true
program_named t h =
    let front = (and_parts _ (begins_with_statement t.body) h).0 in
    let parts = and_parts (decls_fit 0 t.decls) (stmts_fit (at_body t) t.body) front in
    let sites = both_sites (flat_map decl_sites t.decls) (stmts_sites t.body) (decls_named 0 t.decls parts.0) (stmts_named (at_body t) t.body parts.1) in
    list_all-map is_name (λ (u : Use). u.name) (flat_map site_uses (program_sites t)) ∙ each_named site_uses is_named_site (λ s k. k) (program_sites t) sites

one_named : (names : List (List ℕ)) (x : List ℕ) → is_among x names ≡ true → list_all is_name names ≡ true → is_name x ≡ true
one_named [] x there h = absurd cc
one_named (y ∷ ys) x there h = let parts = and_parts (is_name y) (list_all is_name ys) h in by parts.0 (is_same_text x y) refl there (λ i. one_named ys x i parts.1)
  where
    by : is_name y ≡ true → (b : Bool) → is_same_text x y ≡ b → (b || is_among x ys) ≡ true → (is_among x ys ≡ true → is_name x ≡ true) → is_name x ≡ true
    by here true same i more = ap is_name (same_is x y same) ∙ here
    by here false same i more = more i

-- a scalar occurs
occurs : (b : Bool) (t : ProgramTree) (x : List ℕ) → is_scalar_kind (if b then Some (kind_of t x) else None) ≡ true → b ≡ true
occurs true t x h = refl
occurs false t x h = absurd cc

scalar_named : (t : ProgramTree) → IsValid t → (x : List ℕ) → is_scalar t x ≡ true → is_name x ≡ true
scalar_named t valid x h =
    let there = occurs (is_among x (names_of t)) t x h in
    one_named (names_at (program_sites t)) x (first_among [] (names_at (program_sites t)) x there) (program_named t valid.fits)

-- so the editor takes no other names
pub short_names : HasShortNames session_editing
short_names s t x reads h =
    let scalar = (and_parts (not (is_file x)) (is_scalar t x) h).1 in
    let parts = and_parts (Letters.is_name x) (leb (length x) 31) (scalar_named t reads.valid x scalar) in
    (parts.0, leb-true _ _ parts.1)
