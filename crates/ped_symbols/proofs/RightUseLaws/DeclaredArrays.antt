-- The arrays that declarations give, beside the numbers of dimensions that their uses tell.
use Rattle.std.proofs.Common.{◌≡◌, ℕ, suc, ℤ, pos, negsuc, List, [], ◌∷◌, ◌++◌, length, map, Bool, true, false, Option, Some, None, refl, ap, sym, subst, ◌∙◌, append_assoc, append-nil, arith, if◌then◌else◌}
use Rattle.std.specs.Prelude.{◌&&◌, ◌||◌, nat_le, int_lt, int_le, unsigned_abs}
use Rattle.std.specs.List.{list_any, list_all, flat_map}
use Rattle.std.proofs.lemmas.Bool.{or_parts, and_parts, and_from, ltb-false, le-leb}
use Rattle.std.proofs.lemmas.List.{map-append}
use Rattle.std.proofs.lemmas.List.Folds.{list_all-append}
use Rattle.std.proofs.lemmas.Grind.{flat_map-append}
use Rattle.ped_base.specs.Dimensions.{Dimensions}
use Rattle.ped_base.specs.Lists.{has_some}
use Rattle.ped_tree.specs.Tree.{ExprTree, ExprTrees, Int, Var, Element, Neg, Add, Sub, Mul, Div, Pow, Call, no_exprs, more_exprs, BoundTree, DeclaratorTree, DeclTree, Program, Implicit, Integer, Dimension, Parameter, Save, Remark}
use Rattle.ped_tree.specs.Grammar.LimitNumbers.{greatest_literal, most_dimensions}
use Rattle.ped_tree.specs.Grammar.Contexts.{decl_rank}
use Rattle.ped_tree.specs.Grammar.Fits.{declarator_fits, array_fits, decls_fit}
use Rattle.ped_tree.specs.Constants.ConstantExpressions.{constant_value}
use Rattle.ped_refs.specs.References.{Reference}
use Rattle.ped_symbols.specs.declared.uses.Role.TheVariants.{Named, Saved}
use Rattle.ped_symbols.specs.declared.uses.Use.{Use}
use Rattle.ped_symbols.specs.Uses.{used_as, expr_uses, exprs_uses, bounds_uses, dimension_uses, type_uses, decl_uses}
use Rattle.ped_symbols.specs.Declarations.{Declared, rank_by, ranks_in}
use Rattle.ped_symbols.specs.Values.{Values, within, fixed_value, is_missing, bound_fails, declarator_fails, is_above, bound_is_empty, declarator_is_empty}
use Rattle.ped_symbols.specs.Arrays.{Arrays, with_dimension, bounds_values, with_bounds, arrays_of, arrays_in}
use Rattle.ped_symbols.specs.Sites.{declaration, decl_sites}
use Rattle.ped_symbols.specs.NameRefusals.{Before, behind_site, behind_sites}
use Rattle.ped_symbols.specs.RightUses.RightUses.{is_rank}
use Rattle.ped_symbols.specs.RightUses.RightLoops.{is_small}
use Rattle.ped_symbols.specs.RightUses.RightArrays.{bounds_are_right, array_is_right, arrays_are_right}
use Rattle.ped_symbols.proofs.RightUseLaws.Quiet.{AreQuiet}

-- an array's name with its number of dimensions (ANSI X3.9-1978, section 5.1.1)
abbrev pub rank_entry : List ℕ × Dimensions → List ℕ × ℕ
rank_entry a = (a.0, length a.1.lower)

-- arrays are right, and have the numbers of dimensions that uses tell
pub record Tells (uses : List Use) (arrays : Arrays) : Type 0 where
  pub ranks : map rank_entry arrays ≡ ranks_in uses
  pub right : arrays_are_right arrays ≡ true

ranks_append : (us vs : List Use) → ranks_in (us ++ vs) ≡ ranks_in us ++ ranks_in vs
ranks_append us vs = flat_map-append (λ u. rank_by u.name u.role) us vs

tells_append : (us vs : List Use) (a b : Arrays) → Tells us a → Tells vs b → Tells (us ++ vs) (a ++ b)
tells_append us vs a b h k = record {
  ranks = map-append rank_entry a b ∙ (λ i. h.ranks i ++ k.ranks i) ∙ sym (ranks_append us vs);
  right = list_all-append (λ a. array_is_right a.1) a b ∙ and_from _ _ h.right k.right;
}

no_ranks_in_both : (us vs : List Use) → ranks_in us ≡ [] → ranks_in vs ≡ [] → ranks_in (us ++ vs) ≡ []
no_ranks_in_both us vs h k = ranks_append us vs ∙ (λ i. h i ++ k i)

mutual
  no_ranks : (e : ExprTree) → ranks_in (expr_uses e) ≡ []
  no_ranks (Int n) = refl
  no_ranks (Var x) = refl
  no_ranks (Element x subscripts) = no_ranks_among subscripts
  no_ranks (Neg a) = no_ranks a
  no_ranks (Add a b) = no_ranks_in_both (expr_uses a) (expr_uses b) (no_ranks a) (no_ranks b)
  no_ranks (Sub a b) = no_ranks_in_both (expr_uses a) (expr_uses b) (no_ranks a) (no_ranks b)
  no_ranks (Mul a b) = no_ranks_in_both (expr_uses a) (expr_uses b) (no_ranks a) (no_ranks b)
  no_ranks (Div a b) = no_ranks_in_both (expr_uses a) (expr_uses b) (no_ranks a) (no_ranks b)
  no_ranks (Pow a b) = no_ranks_in_both (expr_uses a) (expr_uses b) (no_ranks a) (no_ranks b)
  no_ranks (Call f arguments) = no_ranks_among arguments

  no_ranks_among : (es : ExprTrees) → ranks_in (exprs_uses es) ≡ []
  no_ranks_among no_exprs = refl
  no_ranks_among (more_exprs e rest) = no_ranks_in_both (expr_uses e) (exprs_uses rest) (no_ranks e) (no_ranks_among rest)

no_ranks_in_bounds : (bounds : List BoundTree) → ranks_in (bounds_uses bounds) ≡ []
no_ranks_in_bounds [] = refl
no_ranks_in_bounds (b ∷ bs) =
    no_ranks_in_both (expr_uses b.lower ++ expr_uses b.upper) (bounds_uses bs) (no_ranks_in_both (expr_uses b.lower) (expr_uses b.upper) (no_ranks b.lower) (no_ranks b.upper)) (no_ranks_in_bounds bs)

no_ranks_in_items : (items : List (List ℕ × ExprTree)) → ranks_in (flat_map (λ v. used_as Named v.0 ∷ expr_uses v.1) items) ≡ []
no_ranks_in_items [] = refl
no_ranks_in_items (v ∷ vs) = no_ranks_in_both (expr_uses v.1) (flat_map (λ v. used_as Named v.0 ∷ expr_uses v.1) vs) (no_ranks v.1) (no_ranks_in_items vs)

no_ranks_in_save : (names : List (List ℕ)) → ranks_in (map (used_as Saved) names) ≡ []
no_ranks_in_save [] = refl
no_ranks_in_save (x ∷ xs) = no_ranks_in_save xs

-- a value within the limits isn't too large
within_small : (o : Option ℤ) (n : ℤ) → within o ≡ Some n → (o ≡ Some n) × (is_small n ≡ true)
within_small None n h = absurd cc
within_small (Some m) n h = go (nat_le (unsigned_abs m) greatest_literal) refl h
  where
    go : (r : Bool) → nat_le (unsigned_abs m) greatest_literal ≡ r → (if r then Some m else None) ≡ Some n → (Some m ≡ Some n) × (is_small n ≡ true)
    go true k h = let same : m ≡ n = cc in (h, subst (λ (z : ℤ). is_small z ≡ true) same k)
    go false k h = absurd cc

not_above : (l u : ℤ) → int_lt u l ≡ false → int_le l u ≡ true
not_above (pos a) (pos b) h = le-leb a b (ltb-false b a h)
not_above (pos a) (negsuc b) h = absurd cc
not_above (negsuc a) (pos b) h = refl
not_above (negsuc a) (negsuc b) h = le-leb b a (ltb-false a b h)

-- the bounds of an array, where all have a value and none is above its upper bound
record HasBounds (values : Values) (bounds : List BoundTree) : Type 0 where
  dimensions : Dimensions
  known : bounds_values values bounds ≡ Some dimensions
  long : length dimensions.lower ≡ length bounds
  right : bounds_are_right dimensions.lower dimensions.upper ≡ true

one_more : (values : Values) (b : BoundTree) (bs : List BoundTree) → HasBounds values bs → (l u : Option ℤ) → fixed_value values b.lower ≡ l → fixed_value values b.upper ≡ u
    → (is_missing l || is_missing u) ≡ false → is_above l u ≡ false → HasBounds values (b ∷ bs)
one_more values b bs h None u j k m e = absurd cc
one_more values b bs h (Some l) None j k m e = absurd cc
one_more values b bs h (Some l) (Some u) j k m e = record {
  dimensions = record { lower = l ∷ h.dimensions.lower; upper = u ∷ h.dimensions.upper };
  known = (λ i. with_dimension (j i) (k i) (h.known i));
  long = ap suc h.long;
  right =
      let small_l = (within_small (constant_value values b.lower) l j).1 in
      let small_u = (within_small (constant_value values b.upper) u k).1 in
      and_from _ _ (and_from _ _ (and_from _ _ small_l small_u) (not_above l u e)) h.right;
}

has_bounds : (values : Values) (bounds : List BoundTree) → list_any (bound_fails values) bounds ≡ false → list_any (bound_is_empty values) bounds ≡ false → HasBounds values bounds
has_bounds values [] f e = record { dimensions = record { lower = []; upper = [] }; known = refl; long = refl; right = refl }
has_bounds values (b ∷ bs) f e =
    let p = or_parts (bound_fails values b) (list_any (bound_fails values) bs) f in
    let q = or_parts (bound_is_empty values b) (list_any (bound_is_empty values) bs) e in
    one_more values b bs (has_bounds values bs p.1 q.1) (fixed_value values b.lower) (fixed_value values b.upper) refl refl p.0 q.0

-- one dimension or more
some_long : (bounds : List BoundTree) → has_some bounds ≡ true → nat_le 1 (length bounds) ≡ true
some_long [] h = absurd cc
some_long (b ∷ bs) h = le-leb 1 (suc (length bs)) (omega arith)

-- the array of a declarator with dimensions
array_told : (values : Values) (d : DeclaratorTree) → list_any (bound_fails values) d.bounds ≡ false → list_any (bound_is_empty values) d.bounds ≡ false → nat_le (length d.bounds) most_dimensions ≡ true → has_some d.bounds ≡ true
    → Tells (dimension_uses d) (arrays_of values d)
array_told values d f e n s =
    let has = has_bounds values d.bounds f e in
    let alone : arrays_of values d ≡ (d.name, has.dimensions) ∷ [] = (λ i. if s i && n i then with_bounds d.name (has.known i) else []) in
    let rank : is_rank (length has.dimensions.lower) ≡ true = ap is_rank has.long ∙ and_from _ _ (some_long d.bounds s) n in
    let entry : map rank_entry ((d.name, has.dimensions) ∷ []) ≡ (d.name, length d.bounds) ∷ [] = (λ i. (d.name, has.long i) ∷ []) in
    record {
      ranks = ap (map rank_entry) alone ∙ entry ∙ (λ i. (d.name, length d.bounds) ∷ sym (no_ranks_in_bounds d.bounds) i);
      right = ap arrays_are_right alone ∙ and_from _ _ (and_from _ _ rank has.right) refl;
    }

declarator_told : (values : Values) (d : DeclaratorTree) → list_any (bound_fails values) d.bounds ≡ false → list_any (bound_is_empty values) d.bounds ≡ false → nat_le (length d.bounds) most_dimensions ≡ true
    → Tells (type_uses d) (arrays_of values d)
declarator_told values d f e n = go (has_some d.bounds) refl
  where
    go : (r : Bool) → has_some d.bounds ≡ r → Tells (type_uses d) (arrays_of values d)
    go true s =
        let told = array_told values d f e n s in
        record { ranks = told.ranks ∙ (λ i. ranks_in (if sym s i then dimension_uses d else [])); right = told.right }
    go false s =
        let none : arrays_of values d ≡ [] = (λ i. if s i && nat_le (length d.bounds) most_dimensions then with_bounds d.name (bounds_values values d.bounds) else []) in
        record { ranks = ap (map rank_entry) none ∙ (λ i. ranks_in (if sym s i then dimension_uses d else [])); right = ap arrays_are_right none }

-- of the declarators of an INTEGER
types_told : (values : Values) (ds : List DeclaratorTree) → list_any (declarator_fails values) ds ≡ false → list_any (declarator_is_empty values) ds ≡ false → list_all declarator_fits ds ≡ true
    → Tells (flat_map type_uses ds) (flat_map (arrays_of values) ds)
types_told values [] f e h = record { ranks = refl; right = refl }
types_told values (d ∷ ds) f e h =
    let p = or_parts (declarator_fails values d) (list_any (declarator_fails values) ds) f in
    let q = or_parts (declarator_is_empty values d) (list_any (declarator_is_empty values) ds) e in
    let r = and_parts (declarator_fits d) (list_all declarator_fits ds) h in
    tells_append (type_uses d) (flat_map type_uses ds) (arrays_of values d) (flat_map (arrays_of values) ds)
    (declarator_told values d p.0 q.0 (and_parts _ _ (and_parts _ _ r.0).0).1)
    (types_told values ds p.1 q.1 r.1)

-- of the declarators of a DIMENSION
dimensions_told : (values : Values) (ds : List DeclaratorTree) → list_any (declarator_fails values) ds ≡ false → list_any (declarator_is_empty values) ds ≡ false → list_all array_fits ds ≡ true
    → Tells (flat_map dimension_uses ds) (flat_map (arrays_of values) ds)
dimensions_told values [] f e h = record { ranks = refl; right = refl }
dimensions_told values (d ∷ ds) f e h =
    let p = or_parts (declarator_fails values d) (list_any (declarator_fails values) ds) f in
    let q = or_parts (declarator_is_empty values d) (list_any (declarator_is_empty values) ds) e in
    let r = and_parts (array_fits d) (list_all array_fits ds) h in
    let a = and_parts (declarator_fits d) (has_some d.bounds) r.0 in
    tells_append (dimension_uses d) (flat_map dimension_uses ds) (arrays_of values d) (flat_map (arrays_of values) ds)
    (array_told values d p.0 q.0 (and_parts _ _ (and_parts _ _ a.0).0).1 a.1)
    (dimensions_told values ds p.1 q.1 r.1)

tells_nothing : Tells [] []
tells_nothing = record { ranks = refl; right = refl }

-- over one declaration more
over_decl : (us new rest : List Use) (arrays more : Arrays) (whole : Arrays) → Tells us arrays → Tells new more → (Tells (us ++ new) (arrays ++ more) → Tells ((us ++ new) ++ rest) whole) → Tells (us ++ (new ++ rest)) whole
over_decl us new rest arrays more whole h k next = subst (λ (uses : List Use). Tells uses whole) (append_assoc us new rest) (next (tells_append us new arrays more h k))

-- the arrays behind declarations that fit and at which nothing is refused
pub arrays_told : (d : Declared) (refs : List Reference) (b : Before) (phase : ℕ) (ds : List DeclTree) (us : List Use) → AreQuiet d refs b (flat_map decl_sites ds) → decls_fit phase ds ≡ true → Tells us b.arrays
    → Tells (us ++ flat_map decl_uses ds) (behind_sites b (flat_map decl_sites ds)).arrays
arrays_told d refs b phase [] us q h t = subst (λ (uses : List Use). Tells uses b.arrays) (sym (append-nil us)) t
arrays_told d refs b phase (Program x ∷ ds) us q h t =
    let w = and_parts _ (decls_fit (decl_rank (Program x)) ds) h in
    over_decl us (decl_uses (Program x)) (flat_map decl_uses ds) b.arrays (arrays_in b.values (Program x)) (behind_sites b (flat_map decl_sites (Program x ∷ ds))).arrays t
    tells_nothing
    (arrays_told d refs (behind_site b (declaration (Program x))) (decl_rank (Program x)) ds (us ++ decl_uses (Program x)) q.1 w.1)
arrays_told d refs b phase (Implicit ∷ ds) us q h t =
    let w = and_parts _ (decls_fit (decl_rank Implicit) ds) h in
    over_decl us (decl_uses Implicit) (flat_map decl_uses ds) b.arrays (arrays_in b.values Implicit) (behind_sites b (flat_map decl_sites (Implicit ∷ ds))).arrays t
    tells_nothing
    (arrays_told d refs (behind_site b (declaration Implicit)) (decl_rank Implicit) ds (us ++ decl_uses Implicit) q.1 w.1)
arrays_told d refs b phase (Integer es ∷ ds) us q h t =
    let w = and_parts _ (decls_fit (decl_rank (Integer es)) ds) h in
    over_decl us (decl_uses (Integer es)) (flat_map decl_uses ds) b.arrays (arrays_in b.values (Integer es)) (behind_sites b (flat_map decl_sites (Integer es ∷ ds))).arrays t
    (types_told b.values es q.0.values q.0.bounds (and_parts _ _ (and_parts _ _ (and_parts _ _ w.0).0).0).1)
    (arrays_told d refs (behind_site b (declaration (Integer es))) (decl_rank (Integer es)) ds (us ++ decl_uses (Integer es)) q.1 w.1)
arrays_told d refs b phase (Dimension es ∷ ds) us q h t =
    let w = and_parts _ (decls_fit (decl_rank (Dimension es)) ds) h in
    over_decl us (decl_uses (Dimension es)) (flat_map decl_uses ds) b.arrays (arrays_in b.values (Dimension es)) (behind_sites b (flat_map decl_sites (Dimension es ∷ ds))).arrays t
    (dimensions_told b.values es q.0.values q.0.bounds (and_parts _ _ (and_parts _ _ (and_parts _ _ w.0).0).0).1)
    (arrays_told d refs (behind_site b (declaration (Dimension es))) (decl_rank (Dimension es)) ds (us ++ decl_uses (Dimension es)) q.1 w.1)
arrays_told d refs b phase (Parameter items ∷ ds) us q h t =
    let w = and_parts _ (decls_fit (decl_rank (Parameter items)) ds) h in
    over_decl us (decl_uses (Parameter items)) (flat_map decl_uses ds) b.arrays (arrays_in b.values (Parameter items)) (behind_sites b (flat_map decl_sites (Parameter items ∷ ds))).arrays t
    (record { ranks = sym (no_ranks_in_items items); right = refl })
    (arrays_told d refs (behind_site b (declaration (Parameter items))) (decl_rank (Parameter items)) ds (us ++ decl_uses (Parameter items)) q.1 w.1)
arrays_told d refs b phase (Save names ∷ ds) us q h t =
    let w = and_parts _ (decls_fit (decl_rank (Save names)) ds) h in
    over_decl us (decl_uses (Save names)) (flat_map decl_uses ds) b.arrays (arrays_in b.values (Save names)) (behind_sites b (flat_map decl_sites (Save names ∷ ds))).arrays t
    (record { ranks = sym (no_ranks_in_save names); right = refl })
    (arrays_told d refs (behind_site b (declaration (Save names))) (decl_rank (Save names)) ds (us ++ decl_uses (Save names)) q.1 w.1)
arrays_told d refs b phase (Remark text ∷ ds) us q h t = arrays_told d refs b phase ds us q (and_parts _ _ h).1 t
