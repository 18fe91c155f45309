-- What is known of a unit whose names are right: nothing is refused at its sites, and each variable has as many dimensions as it is used with.
use Rattle.std.proofs.Common.{◌≡◌, ℕ, suc, ℤ, List, [], ◌∷◌, ◌++◌, map, length, nat_le, not, Bool, true, false, Option, Some, None, is_some, refl, sym, ap, ◌∙◌, subst, append_assoc, append-nil, if◌then◌else◌}
use Rattle.std.specs.Prelude.{◌&&◌, ◌||◌}
use Rattle.std.specs.List.{AllByRecursion, list_any, flat_map}
use Rattle.std.proofs.lemmas.Bool.{or_parts, both_ways}
use Rattle.std.proofs.lemmas.Grind.{flat_map-append}
use Rattle.std.proofs.lemmas.List.{map-append}
use Rattle.ped_base.specs.Dimensions.{Dimensions}
use Rattle.ped_base.specs.Lists.{is_same_text, is_among, has_some}
use Rattle.ped_base.proofs.NameEquality.{same_is}
use Rattle.ped_tree.specs.Accesses.{constant_names}
use Rattle.ped_tree.specs.Constants.NamedConstants.{value_named}
use Rattle.ped_tree.specs.Grammar.LimitNumbers.{most_dimensions}
use Rattle.ped_tree.specs.Tree.{ExprTree, ExprTrees, Int, Var, Element, Neg, Add, Sub, Mul, Div, Pow, Call, no_exprs, more_exprs, BoundTree, DeclaratorTree, DeclTree, Program, Implicit, Integer, Dimension, Parameter, Save, Remark, ProgramTree}
use Rattle.ped_steps.specs.ped_refs.specs.References.{references}
use Rattle.ped_steps.specs.ped_symbols.specs.declared.uses.Role.TheVariants.{Typed, Named, Saved}
use Rattle.ped_steps.specs.ped_symbols.specs.declared.uses.Use.{Use}
use Rattle.ped_steps.specs.ped_symbols.specs.Arrays.{Arrays, with_dimension, bounds_values, with_bounds, arrays_of}
use Rattle.ped_steps.specs.ped_symbols.specs.Declarations.{Declared, declared_in, is_naming, names_with, is_constant, is_program, is_real, or_zero, rank_by, ranks_in, given_rank, rank_of}
use Rattle.ped_steps.specs.ped_symbols.specs.Entries.{entry_of}
use Rattle.ped_steps.specs.ped_symbols.specs.Kinds.{kind_by, names_at, names_of, at_last}
use Rattle.ped_steps.specs.ped_symbols.specs.NameRefusals.{Before, at_first, behind_site, behind_sites, name_refusals}
use Rattle.ped_steps.specs.ped_symbols.specs.Sites.{Site, declaration, decl_sites, stmts_sites, program_sites, site_uses}
use Rattle.ped_steps.specs.ped_symbols.specs.Uses.{used_as, expr_uses, exprs_uses, bounds_uses, dimension_uses, type_uses, decl_uses}
use Rattle.ped_steps.specs.ped_symbols.specs.Values.{Values, fixed_value, is_missing, some_item_fails, bound_fails, declarator_fails}
use Rattle.ped_steps.specs.ped_symbols.proofs.RightUseLaws.Constants.{names_append}
use Rattle.ped_steps.specs.ped_symbols.proofs.RightUseLaws.NamedValues.{named_have_values}
use Rattle.ped_steps.specs.ped_symbols.proofs.RightUseLaws.Quiet.{all_quiet, quiet_front, stmts_declare_nothing}
use Rattle.ped_calls.specs.ped_units.specs.Units.{ProgramUnit}
use Rattle.ped_calls.specs.ped_units.specs.Refusals.{save_of_formals, for_names}
use Rattle.ped_calls.specs.ped_units.specs.Linking.{bounds_by, array_bounds}
use Rattle.ped_calls.specs.ped_units.specs.Expanding.{constants_of}
use Rattle.ped_call_runs.proofs.DeclaredAtLast.{last_values, last_arrays}
use Rattle.ped_call_runs.proofs.ProperSites.{AreProper, proper_both, AreProperSites, proper_sites, sites_front, sites_behind, AllProperAt, statements_at}
use Rattle.ped_call_runs.proofs.UnitArrays.{bounds_no_ranks, items_no_ranks, saved_no_ranks}
use Rattle.ped_call_runs.proofs.UnitForms.{FewBounds, SomeBounds, DeclRanked}
use Rattle.ped_call_runs.proofs.UnitNames.{IsPlain}

-- how many dimensions an array has; none where there is no array
abbrev pub shape_by : Option Dimensions → ℕ
shape_by None = 0
shape_by (Some d) = length d.lower

-- how many dimensions a name of a unit has, by what it stands for
abbrev pub shape : ProgramUnit → List ℕ → ℕ
shape u x = shape_by (array_bounds u x)

-- an array's name with its number of dimensions
abbrev entry_rank : List ℕ × Dimensions → List ℕ × ℕ
entry_rank a = (a.0, length a.1.lower)

-- arrays have the numbers of dimensions that uses tell
abbrev Tell : List (List ℕ × ℕ) → Arrays → Type 0
Tell ranks arrays = map entry_rank arrays ≡ ranks

tell_both : (us vs : List Use) (a b : Arrays) → Tell (ranks_in us) a → Tell (ranks_in vs) b → Tell (ranks_in (us ++ vs)) (a ++ b)
tell_both us vs a b h k = map-append entry_rank a b ∙ (λ i. h i ++ k i) ∙ sym (flat_map-append (λ u. rank_by u.name u.role) us vs)

-- bounds of which none fails
record KnownBounds (values : Values) (bounds : List BoundTree) : Type 0 where
  dimensions : Dimensions
  known : bounds_values values bounds ≡ Some dimensions
  long : length dimensions.lower ≡ length bounds

known_bounds : (values : Values) (bounds : List BoundTree) → list_any (bound_fails values) bounds ≡ false → KnownBounds values bounds
known_bounds values [] h = record { dimensions = record { lower = []; upper = [] }; known = refl; long = refl }
known_bounds values (b ∷ bs) h =
    let p = or_parts (bound_fails values b) (list_any (bound_fails values) bs) h in
    go (known_bounds values bs p.1) (fixed_value values b.lower) (fixed_value values b.upper) refl refl p.0
  where
    go : KnownBounds values bs → (l u : Option ℤ) → fixed_value values b.lower ≡ l → fixed_value values b.upper ≡ u → (is_missing l || is_missing u) ≡ false → KnownBounds values (b ∷ bs)
    go more None u j k m = absurd cc
    go more (Some l) None j k m = absurd cc
    go more (Some l) (Some u) j k m = record {
      dimensions = record { lower = l ∷ more.dimensions.lower; upper = u ∷ more.dimensions.upper };
      known = λ i. with_dimension (j i) (k i) (more.known i);
      long = ap suc more.long;
    }

dimension_tells : (values : Values) (d : DeclaratorTree) → has_some d.bounds ≡ true → FewBounds d → declarator_fails values d ≡ false → Tell (ranks_in (dimension_uses d)) (arrays_of values d)
dimension_tells values d some few h =
    let b = known_bounds values d.bounds h in
    ap (map entry_rank) (λ i. if some i && few i then with_bounds d.name (b.known i) else [])
    ∙ (λ i. (d.name, b.long i) ∷ sym (bounds_no_ranks d.bounds) i)

type_tells : (values : Values) (d : DeclaratorTree) → FewBounds d → declarator_fails values d ≡ false → Tell (ranks_in (type_uses d)) (arrays_of values d)
type_tells values d few h = go (has_some d.bounds) refl
  where
    go : (t : Bool) → has_some d.bounds ≡ t → Tell (ranks_in (type_uses d)) (arrays_of values d)
    go true e = dimension_tells values d e few h ∙ (λ i. ranks_in (if sym e i then dimension_uses d else []))
    go false e =
        ap (map entry_rank) (λ i. if e i && nat_le (length d.bounds) most_dimensions then with_bounds d.name (bounds_values values d.bounds) else [])
        ∙ (λ i. ranks_in (if sym e i then dimension_uses d else []))

types_tell : (values : Values) (ds : List DeclaratorTree) → AllByRecursion FewBounds ds → list_any (declarator_fails values) ds ≡ false → Tell (ranks_in (flat_map type_uses ds)) (flat_map (arrays_of values) ds)
types_tell values [] few h = refl
types_tell values (d ∷ ds) few h =
    let p = or_parts (declarator_fails values d) (list_any (declarator_fails values) ds) h in
    tell_both (type_uses d) (flat_map type_uses ds) (arrays_of values d) (flat_map (arrays_of values) ds) (type_tells values d few.0 p.0) (types_tell values ds few.1 p.1)

dimensions_tell : (values : Values) (ds : List DeclaratorTree) → AllByRecursion SomeBounds ds → list_any (declarator_fails values) ds ≡ false → Tell (ranks_in (flat_map dimension_uses ds)) (flat_map (arrays_of values) ds)
dimensions_tell values [] few h = refl
dimensions_tell values (d ∷ ds) few h =
    let p = or_parts (declarator_fails values d) (list_any (declarator_fails values) ds) h in
    tell_both (dimension_uses d) (flat_map dimension_uses ds) (arrays_of values d) (flat_map (arrays_of values) ds) (dimension_tells values d few.0.0 few.0.1 p.0) (dimensions_tell values ds few.1 p.1)

over : (us new rest : List Use) (a more whole : Arrays) → Tell (ranks_in us) a → Tell (ranks_in new) more → (Tell (ranks_in (us ++ new)) (a ++ more) → Tell (ranks_in ((us ++ new) ++ rest)) whole) → Tell (ranks_in (us ++ (new ++ rest))) whole
over us new rest a more whole h k next = subst (λ (uses : List Use). Tell (ranks_in uses) whole) (append_assoc us new rest) (next (tell_both us new a more h k))

-- after declarations at which nothing is refused
decls_tell : (d : Declared) (b : Before) (ds : List DeclTree) (us : List Use) → AreProperSites d b (flat_map decl_sites ds) → AllByRecursion DeclRanked ds → Tell (ranks_in us) b.arrays
    → Tell (ranks_in (us ++ flat_map decl_uses ds)) (behind_sites b (flat_map decl_sites ds)).arrays
decls_tell d b [] us q r h = subst (λ (uses : List Use). Tell (ranks_in uses) b.arrays) (sym (append-nil us)) h
decls_tell d b (Program y ∷ ds) us q r h =
    over us [] (flat_map decl_uses ds) b.arrays [] (behind_sites b (flat_map decl_sites (Program y ∷ ds))).arrays h refl (decls_tell d (behind_site b (declaration (Program y))) ds (us ++ []) q.1 r.1)
decls_tell d b (Implicit ∷ ds) us q r h =
    over us [] (flat_map decl_uses ds) b.arrays [] (behind_sites b (flat_map decl_sites (Implicit ∷ ds))).arrays h refl (decls_tell d (behind_site b (declaration Implicit)) ds (us ++ []) q.1 r.1)
decls_tell d b (Integer es ∷ ds) us q r h =
    over us (flat_map type_uses es) (flat_map decl_uses ds) b.arrays (flat_map (arrays_of b.values) es) (behind_sites b (flat_map decl_sites (Integer es ∷ ds))).arrays h
    (types_tell b.values es r.0 (or_parts (some_item_fails b.values []) (list_any (declarator_fails b.values) es) q.0.values).1)
    (decls_tell d (behind_site b (declaration (Integer es))) ds (us ++ flat_map type_uses es) q.1 r.1)
decls_tell d b (Dimension es ∷ ds) us q r h =
    over us (flat_map dimension_uses es) (flat_map decl_uses ds) b.arrays (flat_map (arrays_of b.values) es) (behind_sites b (flat_map decl_sites (Dimension es ∷ ds))).arrays h
    (dimensions_tell b.values es r.0 (or_parts (some_item_fails b.values []) (list_any (declarator_fails b.values) es) q.0.values).1)
    (decls_tell d (behind_site b (declaration (Dimension es))) ds (us ++ flat_map dimension_uses es) q.1 r.1)
decls_tell d b (Parameter vs ∷ ds) us q r h =
    over us (decl_uses (Parameter vs)) (flat_map decl_uses ds) b.arrays [] (behind_sites b (flat_map decl_sites (Parameter vs ∷ ds))).arrays h (sym (items_no_ranks vs))
    (decls_tell d (behind_site b (declaration (Parameter vs))) ds (us ++ decl_uses (Parameter vs)) q.1 r.1)
decls_tell d b (Save names ∷ ds) us q r h =
    over us (map (used_as Saved) names) (flat_map decl_uses ds) b.arrays [] (behind_sites b (flat_map decl_sites (Save names ∷ ds))).arrays h (sym (saved_no_ranks names))
    (decls_tell d (behind_site b (declaration (Save names))) ds (us ++ map (used_as Saved) names) q.1 r.1)
decls_tell d b (Remark text ∷ ds) us q r h = decls_tell d b ds us q r.1 h

-- the rank of the array that is found
abbrev rank_in : Option Dimensions → Option ℕ
rank_in None = None
rank_in (Some d) = Some (length d.lower)

rank_found : (arrays : Arrays) (x : List ℕ) → entry_of (map entry_rank arrays) x ≡ rank_in (entry_of arrays x)
rank_found [] x = refl
rank_found (a ∷ rest) x = go (is_same_text x a.0) (rank_found rest x)
  where
    go : (t : Bool) → entry_of (map entry_rank rest) x ≡ rank_in (entry_of rest x) → (if t then Some (length a.1.lower) else entry_of (map entry_rank rest) x) ≡ rank_in (if t then Some a.1 else entry_of rest x)
    go true h = refl
    go false h = h

-- names that PARAMETER makes constants
names_both : (us vs : List Use) (xs ys : List (List ℕ)) → names_with is_naming us ≡ xs → names_with is_naming vs ≡ ys → names_with is_naming (us ++ vs) ≡ xs ++ ys
names_both us vs xs ys h k = names_append is_naming us vs ∙ (λ i. h i ++ k i)

mutual
  no_naming : (e : ExprTree) → names_with is_naming (expr_uses e) ≡ []
  no_naming (Int n) = refl
  no_naming (Var x) = refl
  no_naming (Element x es) = all_no_naming es
  no_naming (Neg a) = no_naming a
  no_naming (Add a b) = names_both (expr_uses a) (expr_uses b) [] [] (no_naming a) (no_naming b)
  no_naming (Sub a b) = names_both (expr_uses a) (expr_uses b) [] [] (no_naming a) (no_naming b)
  no_naming (Mul a b) = names_both (expr_uses a) (expr_uses b) [] [] (no_naming a) (no_naming b)
  no_naming (Div a b) = names_both (expr_uses a) (expr_uses b) [] [] (no_naming a) (no_naming b)
  no_naming (Pow a b) = names_both (expr_uses a) (expr_uses b) [] [] (no_naming a) (no_naming b)
  no_naming (Call f es) = all_no_naming es

  all_no_naming : (es : ExprTrees) → names_with is_naming (exprs_uses es) ≡ []
  all_no_naming no_exprs = refl
  all_no_naming (more_exprs e rest) = names_both (expr_uses e) (exprs_uses rest) [] [] (no_naming e) (all_no_naming rest)

bounds_no_naming : (bounds : List BoundTree) → names_with is_naming (bounds_uses bounds) ≡ []
bounds_no_naming [] = refl
bounds_no_naming (b ∷ bs) = names_both (expr_uses b.lower ++ expr_uses b.upper) (bounds_uses bs) [] [] (names_both (expr_uses b.lower) (expr_uses b.upper) [] [] (no_naming b.lower) (no_naming b.upper)) (bounds_no_naming bs)

type_no_naming : (d : DeclaratorTree) → names_with is_naming (type_uses d) ≡ []
type_no_naming d = go (has_some d.bounds)
  where
    go : (t : Bool) → names_with is_naming (used_as Typed d.name ∷ (if t then dimension_uses d else [])) ≡ []
    go true = bounds_no_naming d.bounds
    go false = refl

types_no_naming : (ds : List DeclaratorTree) → names_with is_naming (flat_map type_uses ds) ≡ []
types_no_naming [] = refl
types_no_naming (d ∷ ds) = names_both (type_uses d) (flat_map type_uses ds) [] [] (type_no_naming d) (types_no_naming ds)

dimensions_no_naming : (ds : List DeclaratorTree) → names_with is_naming (flat_map dimension_uses ds) ≡ []
dimensions_no_naming [] = refl
dimensions_no_naming (d ∷ ds) = names_both (dimension_uses d) (flat_map dimension_uses ds) [] [] (bounds_no_naming d.bounds) (dimensions_no_naming ds)

items_named : (vs : List (List ℕ × ExprTree)) → names_with is_naming (flat_map (λ v. used_as Named v.0 ∷ expr_uses v.1) vs) ≡ map (λ v. v.0) vs
items_named [] = refl
items_named (v ∷ vs) = names_both (used_as Named v.0 ∷ expr_uses v.1) (flat_map (λ v. used_as Named v.0 ∷ expr_uses v.1) vs) (v.0 ∷ []) (map (λ v. v.0) vs) (ap (λ (xs : List (List ℕ)). v.0 ∷ xs) (no_naming v.1)) (items_named vs)

saved_no_naming : (xs : List (List ℕ)) → names_with is_naming (map (used_as Saved) xs) ≡ []
saved_no_naming [] = refl
saved_no_naming (x ∷ xs) = saved_no_naming xs

pub naming_constants : (ds : List DeclTree) → names_with is_naming (flat_map decl_uses ds) ≡ constant_names ds
naming_constants [] = refl
naming_constants (Program y ∷ ds) = naming_constants ds
naming_constants (Implicit ∷ ds) = naming_constants ds
naming_constants (Integer es ∷ ds) = names_both (flat_map type_uses es) (flat_map decl_uses ds) [] (constant_names ds) (types_no_naming es) (naming_constants ds)
naming_constants (Dimension es ∷ ds) = names_both (flat_map dimension_uses es) (flat_map decl_uses ds) [] (constant_names ds) (dimensions_no_naming es) (naming_constants ds)
naming_constants (Parameter vs ∷ ds) = names_both (decl_uses (Parameter vs)) (flat_map decl_uses ds) (map (λ v. v.0) vs) (constant_names ds) (items_named vs) (naming_constants ds)
naming_constants (Save names ∷ ds) = names_both (map (used_as Saved) names) (flat_map decl_uses ds) [] (constant_names ds) (saved_no_naming names) (naming_constants ds)
naming_constants (Remark text ∷ ds) = naming_constants ds

-- what is known of a name by its uses
pub record KnownName (d : Declared) (x : List ℕ) : Type 0 where
  pub real : is_real d x ≡ false
  pub program : is_program d x && not (is_constant d x) ≡ false

pub name_known : (d : Declared) (us : List Use) → AreProper d us → (x : List ℕ) → is_among x (map (λ u. u.name) us) ≡ true → KnownName d x
name_known d [] h x m = absurd cc
name_known d (u ∷ us) h x m = go (is_same_text x u.name) refl m (name_known d us h.1 x)
  where
    go : (t : Bool) → is_same_text x u.name ≡ t → t || is_among x (map (λ v. v.name) us) ≡ true → (is_among x (map (λ v. v.name) us) ≡ true → KnownName d x) → KnownName d x
    go true e k more = subst (KnownName d) (sym (same_is x u.name e)) (record { real = h.0.real; program = h.0.program })
    go false e k more = more k

sites_uses : (d : Declared) (b : Before) (sites : List Site) → AreProperSites d b sites → AreProper d (flat_map site_uses sites)
sites_uses d b [] h = tt
sites_uses d b (s ∷ rest) h = proper_both d (site_uses s) (flat_map site_uses rest) h.0.uses (sites_uses d (behind_site b s) rest h.1)

formals_ranked : (fs : List (List ℕ)) (ds : List DeclTree) → AllByRecursion DeclRanked ds → AllByRecursion DeclRanked (save_of_formals fs ++ ds)
formals_ranked [] ds h = h
formals_ranked (f ∷ fs) ds h = (tt, h)

module _ (lines : List ℕ) (u : ProgramUnit) (right : name_refusals lines (for_names u) ≡ []) (ranked : AllByRecursion DeclRanked u.tree.decls) where
  abbrev t : ProgramTree
  t = for_names u

  abbrev d : Declared
  d = declared_in t.decls

  abbrev decls : List Site
  decls = flat_map decl_sites t.decls

  all : AreProperSites d at_first (program_sites t)
  all = proper_sites d (references t) at_first lines (program_sites t) right

  -- at the declarations
  pub at_declarations : AreProperSites d at_first decls
  at_declarations = sites_front d at_first decls (stmts_sites t.body) all

  -- at the statements
  pub at_body_sites : AllProperAt d (constants_of u) (stmts_sites t.body)
  at_body_sites =
      subst (λ (values : Values). AllProperAt d values (stmts_sites t.body)) (sym (last_values t))
      (statements_at d (behind_sites at_first decls) (stmts_sites t.body) (stmts_declare_nothing t.body) (sites_behind d at_first decls (stmts_sites t.body) all))

  -- each named constant has a value
  pub constant_valued : (x : List ℕ) → is_constant d x ≡ true → is_some (value_named (constants_of u) x) ≡ true
  constant_valued x h =
      ap (λ (values : Values). is_some (value_named values x)) (last_values t)
      ∙ named_have_values d (references t) at_first t.decls x (quiet_front d (references t) at_first decls (stmts_sites t.body) (all_quiet d (references t) at_first lines (program_sites t) right))
      (ap (is_among x) (sym (naming_constants t.decls)) ∙ h)

  -- so a name without one is none
  pub plain_no_constant : (x : List ℕ) → IsPlain u x → is_constant d x ≡ false
  plain_no_constant x n = go (is_constant d x) refl
    where
      go : (c : Bool) → is_constant d x ≡ c → c ≡ false
      go false e = refl
      go true e = absurd (both_ways (is_some (value_named (constants_of u) x)) (ap is_some n) (constant_valued x e))

  told : Tell (ranks_in d.uses) (at_last t).arrays
  told =
      subst (λ (arrays : Arrays). Tell (ranks_in d.uses) arrays) (sym (last_arrays t))
      (decls_tell d at_first t.decls [] at_declarations (formals_ranked u.formals u.tree.decls ranked) refl)

  -- a variable has as many dimensions as it is used with
  pub rank_is_shape : (x : List ℕ) → IsPlain u x → is_among x (names_of t) ≡ true → rank_of d x ≡ shape u x
  rank_is_shape x plain there =
      (λ i. if plain_no_constant x plain i then 0 else given_rank d.uses x)
      ∙ ap (λ (es : List (List ℕ × ℕ)). or_zero (entry_of es x)) (sym told)
      ∙ ap or_zero (rank_found (at_last t).arrays x)
      ∙ by (entry_of (at_last t).arrays x)
      ∙ (λ i. shape_by (bounds_by (if sym there i then Some (kind_by (sym plain i) (entry_of (at_last t).arrays x)) else None)))
    where
      by : (o : Option Dimensions) → or_zero (rank_in o) ≡ shape_by (bounds_by (Some (kind_by None o)))
      by None = refl
      by (Some a) = refl

  -- a name that occurs
  pub known_there : (x : List ℕ) → is_among x (names_at (program_sites t)) ≡ true → KnownName d x
  known_there x m = name_known d (flat_map site_uses (program_sites t)) (sites_uses d at_first (program_sites t) all) x m
