-- In a unit whose names are right, the name of an element with subscripts is that of an array, and as such it is declared.
use Rattle.std.proofs.Common.{◌≡◌, ℕ, ℤ, List, [], ◌∷◌, ◌++◌, map, length, Bool, true, false, Option, Some, None, refl, sym, ap, ◌∙◌, subst, inl, inr, append_assoc, append-nil, if◌then◌else◌}
use Rattle.std.specs.Prelude.{◌&&◌, ◌||◌, ◌==◌, nat_le}
use Rattle.std.specs.List.{list_any, flat_map}
use Rattle.std.proofs.lemmas.Bool.{or_parts, or_right, and_parts, eqb-true, not-false}
use Rattle.std.proofs.lemmas.Grind.{flat_map-append}
use Rattle.ped_base.specs.Dimensions.{Dimensions}
use Rattle.ped_base.specs.Lists.{is_same_text, is_among, has_some}
use Rattle.ped_base.proofs.NameEquality.{same_itself}
use Rattle.ped_tree.specs.Accesses.{listed}
use Rattle.ped_tree.specs.Grammar.LimitNumbers.{most_dimensions}
use Rattle.ped_tree.specs.Grammar.Refusal.{Finding}
use Rattle.ped_tree.specs.Tree.{ExprTree, ExprTrees, Int, Var, Element, Neg, Add, Sub, Mul, Div, Pow, Call, no_exprs, more_exprs, CondTree, Rel, Not, And, Or, ItemTree, Value, Text, StmtTree, StmtTrees, Assign, If, Do, Print, Read, Stop, Comment, no_stmts, more_stmts, BoundTree, DeclaratorTree, DeclTree, Program, Implicit, Integer, Dimension, Parameter, Save, Remark, ProgramTree}
use Rattle.ped_steps.specs.ped_refs.specs.References.{Reference, references}
use Rattle.ped_steps.specs.ped_symbols.specs.declared.uses.Role.TheVariants.{Named, Saved, Rejected, Index}
use Rattle.ped_steps.specs.ped_symbols.specs.declared.uses.Use.{Use}
use Rattle.ped_steps.specs.ped_symbols.specs.Arrays.{Arrays, with_dimension, bounds_values, with_bounds, arrays_of}
use Rattle.ped_steps.specs.ped_symbols.specs.Declarations.{Declared, declared_in, is_constant, or_zero, ranks_in, rank_by, given_rank, rank_of}
use Rattle.ped_steps.specs.ped_symbols.specs.Entries.{entry_of}
use Rattle.ped_steps.specs.ped_symbols.specs.Kinds.{kind_by, kind_of, names_at, names_of, at_last, kind_in}
use Rattle.ped_steps.specs.ped_symbols.specs.NameRefusals.{Before, at_first, behind_site, behind_sites, subscripts_of, differs, uses_other_rank, name_refusals}
use Rattle.ped_steps.specs.ped_symbols.specs.Sites.{Site, declaration, decl_sites, private_site, stmt_sites, stmts_sites, program_sites, site_uses}
use Rattle.ped_steps.specs.ped_symbols.specs.Uses.{used_as, expr_count, expr_uses, exprs_uses, cond_uses, target_uses, item_uses, own_uses, bounds_uses, dimension_uses, type_uses, decl_uses}
use Rattle.ped_steps.specs.ped_symbols.specs.Values.{Values, fixed_value, is_missing, bound_fails, declarator_fails, some_item_fails, items}
use Rattle.ped_steps.specs.ped_symbols.proofs.RightUseLaws.Occurring.{among_first}
use Rattle.ped_steps.specs.ped_symbols.proofs.RightUseLaws.Constants.{none_named}
use Rattle.ped_steps.specs.ped_symbols.proofs.RightUseLaws.Quiet.{AreQuiet, all_quiet, quiet_front, no_other_rank}
use Rattle.ped_calls.specs.ped_units.specs.Forms.{Called}
use Rattle.ped_calls.specs.ped_units.specs.Units.{ProgramUnit, call_of, instead_of, with_calls, all_with_calls}
use Rattle.ped_calls.specs.ped_units.specs.Refusals.{dimensioned, is_whole_array, plain_arguments, is_zero, and_zeros, condition_of, using_arguments, for_names, lines_for_names, units_name_refusals}
use Rattle.ped_calls.specs.ped_units.specs.Linking.{IsIn, array_bounds, bounds_by}
use Rattle.ped_steps.specs.ped_eval.specs.Values.{is_rank}
use Rattle.ped_call_runs.proofs.ConstantValues.{HasSome}
use Rattle.ped_call_runs.proofs.DeclaredAtLast.{last_values, last_arrays}
use Rattle.ped_call_runs.proofs.EachElements.{EachElement, AllElements, CondElements, ItemElements, ItemsElements, TargetsElements, OrElements, StmtElements, StmtsElements}

-- a name of the unit that is an array
abbrev pub IsArray : ProgramUnit → List ℕ → Type 0
IsArray u x = HasSome (array_bounds u x)

-- expressions give no name dimensions
no_ranks_both : (us vs : List Use) → ranks_in us ≡ [] → ranks_in vs ≡ [] → ranks_in (us ++ vs) ≡ []
no_ranks_both us vs h k = flat_map-append (λ u. rank_by u.name u.role) us vs ∙ (λ i. h i ++ k i)

mutual
  no_ranks : (e : ExprTree) → ranks_in (expr_uses e) ≡ []
  no_ranks (Int n) = refl
  no_ranks (Var x) = refl
  no_ranks (Element x es) = all_no_ranks es
  no_ranks (Neg a) = no_ranks a
  no_ranks (Add a b) = no_ranks_both (expr_uses a) (expr_uses b) (no_ranks a) (no_ranks b)
  no_ranks (Sub a b) = no_ranks_both (expr_uses a) (expr_uses b) (no_ranks a) (no_ranks b)
  no_ranks (Mul a b) = no_ranks_both (expr_uses a) (expr_uses b) (no_ranks a) (no_ranks b)
  no_ranks (Div a b) = no_ranks_both (expr_uses a) (expr_uses b) (no_ranks a) (no_ranks b)
  no_ranks (Pow a b) = no_ranks_both (expr_uses a) (expr_uses b) (no_ranks a) (no_ranks b)
  no_ranks (Call f es) = all_no_ranks es

  all_no_ranks : (es : ExprTrees) → ranks_in (exprs_uses es) ≡ []
  all_no_ranks no_exprs = refl
  all_no_ranks (more_exprs e rest) = no_ranks_both (expr_uses e) (exprs_uses rest) (no_ranks e) (all_no_ranks rest)

pub bounds_no_ranks : (bounds : List BoundTree) → ranks_in (bounds_uses bounds) ≡ []
bounds_no_ranks [] = refl
bounds_no_ranks (b ∷ bs) = no_ranks_both (expr_uses b.lower ++ expr_uses b.upper) (bounds_uses bs) (no_ranks_both (expr_uses b.lower) (expr_uses b.upper) (no_ranks b.lower) (no_ranks b.upper)) (bounds_no_ranks bs)

pub items_no_ranks : (vs : List (List ℕ × ExprTree)) → ranks_in (flat_map (λ v. used_as Named v.0 ∷ expr_uses v.1) vs) ≡ []
items_no_ranks [] = refl
items_no_ranks (v ∷ vs) = no_ranks_both (expr_uses v.1) (flat_map (λ v. used_as Named v.0 ∷ expr_uses v.1) vs) (no_ranks v.1) (items_no_ranks vs)

pub saved_no_ranks : (xs : List (List ℕ)) → ranks_in (map (used_as Saved) xs) ≡ []
saved_no_ranks [] = refl
saved_no_ranks (x ∷ xs) = saved_no_ranks xs

-- the first entry in one of two lists
module _ {X : Type 0} (x : List ℕ) where
  entry_front : (es fs : List (List ℕ × X)) (v : X) → entry_of es x ≡ Some v → entry_of (es ++ fs) x ≡ Some v
  entry_front [] fs v h = absurd cc
  entry_front (e ∷ es) fs v h = go (is_same_text x e.0) h (entry_front es fs v)
    where
      go : (t : Bool) → (if t then Some e.1 else entry_of es x) ≡ Some v → (entry_of es x ≡ Some v → entry_of (es ++ fs) x ≡ Some v) → (if t then Some e.1 else entry_of (es ++ fs) x) ≡ Some v
      go true k more = k
      go false k more = more k

  entry_behind : (es fs : List (List ℕ × X)) → entry_of es x ≡ None → entry_of (es ++ fs) x ≡ entry_of fs x
  entry_behind [] fs h = refl
  entry_behind (e ∷ es) fs h = go (is_same_text x e.0) h (entry_behind es fs)
    where
      go : (t : Bool) → (if t then Some e.1 else entry_of es x) ≡ None → (entry_of es x ≡ None → entry_of (es ++ fs) x ≡ entry_of fs x) → (if t then Some e.1 else entry_of (es ++ fs) x) ≡ entry_of fs x
      go true k more = absurd cc
      go false k more = more k

  either_some : (es fs : List (List ℕ × X)) → HasSome (entry_of fs x) → HasSome (entry_of (es ++ fs) x)
  either_some es fs h = go (entry_of es x) refl
    where
      go : (o : Option X) → entry_of es x ≡ o → HasSome (entry_of (es ++ fs) x)
      go (Some v) e = (v, entry_front es fs v e)
      go None e = (h.0, entry_behind es fs e ∙ h.1)

-- a name that uses give as many dimensions as an array may have is an array
abbrev IsGiven : List ℕ → List (List ℕ × ℕ) → Arrays → Type 0
IsGiven x ranks arrays = (n : ℕ) → is_rank n ≡ true → entry_of ranks x ≡ Some n → HasSome (entry_of arrays x)

both_given : (x : List ℕ) (r s : List (List ℕ × ℕ)) (a b : Arrays) → IsGiven x r a → IsGiven x s b → IsGiven x (r ++ s) (a ++ b)
both_given x r s a b h k n rank e = go (entry_of r x) refl
  where
    go : (o : Option ℕ) → entry_of r x ≡ o → HasSome (entry_of (a ++ b) x)
    go None d = either_some x a b (k n rank (sym (entry_behind x r s d) ∙ e))
    go (Some m) d =
        let same : entry_of r x ≡ Some n = d ∙ sym (entry_front x r s m d) ∙ e in
        let found = h n rank same in
        (found.0, entry_front x a b found.0 found.1)

more_uses : (x : List ℕ) (us vs : List Use) (a b : Arrays) → IsGiven x (ranks_in us) a → IsGiven x (ranks_in vs) b → IsGiven x (ranks_in (us ++ vs)) (a ++ b)
more_uses x us vs a b h k = subst (λ (r : List (List ℕ × ℕ)). IsGiven x r (a ++ b)) (sym (flat_map-append (λ u. rank_by u.name u.role) us vs)) (both_given x (ranks_in us) (ranks_in vs) a b h k)

none_given : (x : List ℕ) (r : List (List ℕ × ℕ)) → r ≡ [] → IsGiven x r []
none_given x r h n rank e = let z : None ≡ Some n = ap (λ (es : List (List ℕ × ℕ)). entry_of es x) (sym h) ∙ e in absurd cc

-- bounds of which none fails have values
bounds_known : (values : Values) (bounds : List BoundTree) → list_any (bound_fails values) bounds ≡ false → HasSome (bounds_values values bounds)
bounds_known values [] h = (record { lower = []; upper = [] }, refl)
bounds_known values (b ∷ bs) h =
    let p = or_parts (bound_fails values b) (list_any (bound_fails values) bs) h in
    let more = bounds_known values bs p.1 in
    go more.0 more.1 (fixed_value values b.lower) (fixed_value values b.upper) p.0
  where
    go : (d : Dimensions) → bounds_values values bs ≡ Some d → (l u : Option ℤ) → (is_missing l || is_missing u) ≡ false → HasSome (with_dimension l u (bounds_values values bs))
    go d e None u k = absurd cc
    go d e (Some l) None k = absurd cc
    go d e (Some l) (Some u) k = (record { lower = l ∷ d.lower; upper = u ∷ d.upper }, ap (with_dimension (Some l) (Some u)) e)

abbrev or_number : ℕ → Option ℕ → ℕ
or_number m None = m
or_number m (Some n) = n

-- an array may have so many dimensions
some_bounds : (bounds : List BoundTree) → is_rank (length bounds) ≡ true → (has_some bounds && nat_le (length bounds) most_dimensions) ≡ true
some_bounds [] h = absurd cc
some_bounds (b ∷ bs) h = (and_parts _ _ h).1

one_given : (x : List ℕ) (values : Values) (d : DeclaratorTree) → declarator_fails values d ≡ false → IsGiven x ((d.name, length d.bounds) ∷ []) (arrays_of values d)
one_given x values d f n rank e = go (is_same_text x d.name) refl e
  where
    there : is_rank (length d.bounds) ≡ true → is_same_text x d.name ≡ true → HasSome (entry_of (arrays_of values d) x)
    there r same =
        let known = bounds_known values d.bounds f in (
          known.0,
          ap (λ (t : Bool). entry_of (if t then with_bounds d.name (bounds_values values d.bounds) else []) x) (some_bounds d.bounds r)
              ∙ ap (λ (o : Option Dimensions). entry_of (with_bounds d.name o) x) known.1
              ∙ ap (λ (t : Bool). if t then Some known.0 else None) same,
        )

    count : (o : ℕ) → Some o ≡ Some n → o ≡ n
    count o k = ap (or_number n) k

    go : (t : Bool) → is_same_text x d.name ≡ t → (if t then Some (length d.bounds) else None) ≡ Some n → HasSome (entry_of (arrays_of values d) x)
    go true same k = there (ap is_rank (count (length d.bounds) k) ∙ rank) same
    go false same k = absurd cc

dimension_given : (x : List ℕ) (values : Values) (d : DeclaratorTree) → declarator_fails values d ≡ false → IsGiven x (ranks_in (dimension_uses d)) (arrays_of values d)
dimension_given x values d f = subst (λ (r : List (List ℕ × ℕ)). IsGiven x ((d.name, length d.bounds) ∷ r) (arrays_of values d)) (sym (bounds_no_ranks d.bounds)) (one_given x values d f)

type_given : (x : List ℕ) (values : Values) (d : DeclaratorTree) → declarator_fails values d ≡ false → IsGiven x (ranks_in (type_uses d)) (arrays_of values d)
type_given x values d f = go (has_some d.bounds) refl
  where
    go : (t : Bool) → has_some d.bounds ≡ t → IsGiven x (ranks_in (if t then dimension_uses d else [])) (arrays_of values d)
    go true e = dimension_given x values d f
    go false e = λ n rank k. absurd cc

each_given : (uses : DeclaratorTree → List Use) (x : List ℕ) (values : Values) → ((d : DeclaratorTree) → declarator_fails values d ≡ false → IsGiven x (ranks_in (uses d)) (arrays_of values d))
    → (ds : List DeclaratorTree) → list_any (declarator_fails values) ds ≡ false → IsGiven x (ranks_in (flat_map uses ds)) (flat_map (arrays_of values) ds)
each_given uses x values each [] f = λ n rank e. absurd cc
each_given uses x values each (d ∷ ds) f =
    let p = or_parts (declarator_fails values d) (list_any (declarator_fails values) ds) f in
    more_uses x (uses d) (flat_map uses ds) (arrays_of values d) (flat_map (arrays_of values) ds) (each d p.0) (each_given uses x values each ds p.1)

-- in declarations at which nothing is refused
module _ (d : Declared) (refs : List Reference) (x : List ℕ) where
  over : (us new rest : List Use) (a more : Arrays) (whole : Arrays) → IsGiven x (ranks_in us) a → IsGiven x (ranks_in new) more → (IsGiven x (ranks_in (us ++ new)) (a ++ more) → IsGiven x (ranks_in ((us ++ new) ++ rest)) whole)
      → IsGiven x (ranks_in (us ++ (new ++ rest))) whole
  over us new rest a more whole h k next = subst (λ (uses : List Use). IsGiven x (ranks_in uses) whole) (append_assoc us new rest) (next (more_uses x us new a more h k))

  decls_given : (b : Before) (ds : List DeclTree) (us : List Use) → AreQuiet d refs b (flat_map decl_sites ds) → IsGiven x (ranks_in us) b.arrays
      → IsGiven x (ranks_in (us ++ flat_map decl_uses ds)) (behind_sites b (flat_map decl_sites ds)).arrays
  decls_given b [] us q h = subst (λ (uses : List Use). IsGiven x (ranks_in uses) b.arrays) (sym (append-nil us)) h
  decls_given b (Program y ∷ ds) us q h =
      over us [] (flat_map decl_uses ds) b.arrays [] (behind_sites b (flat_map decl_sites (Program y ∷ ds))).arrays h (none_given x [] refl)
      (decls_given (behind_site b (declaration (Program y))) ds (us ++ []) q.1)
  decls_given b (Implicit ∷ ds) us q h =
      over us [] (flat_map decl_uses ds) b.arrays [] (behind_sites b (flat_map decl_sites (Implicit ∷ ds))).arrays h (none_given x [] refl)
      (decls_given (behind_site b (declaration Implicit)) ds (us ++ []) q.1)
  decls_given b (Integer es ∷ ds) us q h =
      over us (flat_map type_uses es) (flat_map decl_uses ds) b.arrays (flat_map (arrays_of b.values) es) (behind_sites b (flat_map decl_sites (Integer es ∷ ds))).arrays h
      (each_given type_uses x b.values (type_given x b.values) es (or_parts (some_item_fails b.values []) (list_any (declarator_fails b.values) es) q.0.values).1)
      (decls_given (behind_site b (declaration (Integer es))) ds (us ++ flat_map type_uses es) q.1)
  decls_given b (Dimension es ∷ ds) us q h =
      over us (flat_map dimension_uses es) (flat_map decl_uses ds) b.arrays (flat_map (arrays_of b.values) es) (behind_sites b (flat_map decl_sites (Dimension es ∷ ds))).arrays h
      (each_given dimension_uses x b.values (dimension_given x b.values) es (or_parts (some_item_fails b.values []) (list_any (declarator_fails b.values) es) q.0.values).1)
      (decls_given (behind_site b (declaration (Dimension es))) ds (us ++ flat_map dimension_uses es) q.1)
  decls_given b (Parameter vs ∷ ds) us q h =
      over us (decl_uses (Parameter vs)) (flat_map decl_uses ds) b.arrays [] (behind_sites b (flat_map decl_sites (Parameter vs ∷ ds))).arrays h (none_given x (ranks_in (decl_uses (Parameter vs))) (items_no_ranks vs))
      (decls_given (behind_site b (declaration (Parameter vs))) ds (us ++ decl_uses (Parameter vs)) q.1)
  decls_given b (Save names ∷ ds) us q h =
      over us (map (used_as Saved) names) (flat_map decl_uses ds) b.arrays [] (behind_sites b (flat_map decl_sites (Save names ∷ ds))).arrays h (none_given x (ranks_in (map (used_as Saved) names)) (saved_no_ranks names))
      (decls_given (behind_site b (declaration (Save names))) ds (us ++ map (used_as Saved) names) q.1)
  decls_given b (Remark text ∷ ds) us q h = decls_given b ds us q h

-- something holds for each use
abbrev AllUses : (Use → Type 0) → List Use → Type 0
AllUses P [] = Unit {0}
AllUses P (u ∷ us) = P u × AllUses P us

uses_front : (P : Use → Type 0) (us vs : List Use) → AllUses P (us ++ vs) → AllUses P us
uses_front P [] vs h = tt
uses_front P (u ∷ us) vs h = (h.0, uses_front P us vs h.1)

uses_behind : (P : Use → Type 0) (us vs : List Use) → AllUses P (us ++ vs) → AllUses P vs
uses_behind P [] vs h = h
uses_behind P (u ∷ us) vs h = uses_behind P us vs h.1

-- a use with subscripts is that of such a name
abbrev IsOfArray : (List ℕ → Type 0) → Use → Type 0
IsOfArray P u = (n : ℕ) → subscripts_of u.role ≡ Some n → is_rank n ≡ true → P u.name

module _ (P : List ℕ → Type 0) where
  abbrev Uses : List Use → Type 0
  Uses us = AllUses (IsOfArray P) us

  abbrev front : (us vs : List Use) → Uses (us ++ vs) → Uses us
  front us vs h = uses_front (IsOfArray P) us vs h

  abbrev behind : (us vs : List Use) → Uses (us ++ vs) → Uses vs
  behind us vs h = uses_behind (IsOfArray P) us vs h

  mutual
    in_expr : (e : ExprTree) → Uses (expr_uses e) → EachElement P e
    in_expr (Int n) h = tt
    in_expr (Var x) h = tt
    in_expr (Element x es) h = (h.0 (expr_count es) refl, in_exprs es h.1)
    in_expr (Neg a) h = in_expr a h
    in_expr (Add a b) h = (in_expr a (front (expr_uses a) (expr_uses b) h), in_expr b (behind (expr_uses a) (expr_uses b) h))
    in_expr (Sub a b) h = (in_expr a (front (expr_uses a) (expr_uses b) h), in_expr b (behind (expr_uses a) (expr_uses b) h))
    in_expr (Mul a b) h = (in_expr a (front (expr_uses a) (expr_uses b) h), in_expr b (behind (expr_uses a) (expr_uses b) h))
    in_expr (Div a b) h = (in_expr a (front (expr_uses a) (expr_uses b) h), in_expr b (behind (expr_uses a) (expr_uses b) h))
    in_expr (Pow a b) h = (in_expr a (front (expr_uses a) (expr_uses b) h), in_expr b (behind (expr_uses a) (expr_uses b) h))
    in_expr (Call f es) h = in_exprs es h

    in_exprs : (es : ExprTrees) → Uses (exprs_uses es) → AllElements P es
    in_exprs no_exprs h = tt
    in_exprs (more_exprs e rest) h = (in_expr e (front (expr_uses e) (exprs_uses rest) h), in_exprs rest (behind (expr_uses e) (exprs_uses rest) h))

  in_target : (e : ExprTree) → Uses (target_uses e) → EachElement P e
  in_target (Int n) h = tt
  in_target (Var x) h = tt
  in_target (Element x es) h = (h.0 (expr_count es) refl, in_exprs es h.1)
  in_target (Neg a) h = in_expr a h
  in_target (Add a b) h = in_expr (Add a b) h
  in_target (Sub a b) h = in_expr (Sub a b) h
  in_target (Mul a b) h = in_expr (Mul a b) h
  in_target (Div a b) h = in_expr (Div a b) h
  in_target (Pow a b) h = in_expr (Pow a b) h
  in_target (Call f es) h = in_exprs es h

  in_targets : (es : List ExprTree) → Uses (flat_map target_uses es) → TargetsElements P es
  in_targets [] h = tt
  in_targets (e ∷ rest) h = (in_target e (front (target_uses e) (flat_map target_uses rest) h), in_targets rest (behind (target_uses e) (flat_map target_uses rest) h))

  in_cond : (c : CondTree) → Uses (cond_uses c) → CondElements P c
  in_cond (Rel r a b) h = (in_expr a (front (expr_uses a) (expr_uses b) h), in_expr b (behind (expr_uses a) (expr_uses b) h))
  in_cond (Not a) h = in_cond a h
  in_cond (And a b) h = (in_cond a (front (cond_uses a) (cond_uses b) h), in_cond b (behind (cond_uses a) (cond_uses b) h))
  in_cond (Or a b) h = (in_cond a (front (cond_uses a) (cond_uses b) h), in_cond b (behind (cond_uses a) (cond_uses b) h))

  in_item : (item : ItemTree) → Uses (item_uses item) → ItemElements P item
  in_item (Value e) h = in_expr e h
  in_item (Text text) h = tt

  in_items : (items : List ItemTree) → Uses (flat_map item_uses items) → ItemsElements P items
  in_items [] h = tt
  in_items (item ∷ rest) h = (in_item item (front (item_uses item) (flat_map item_uses rest) h), in_items rest (behind (item_uses item) (flat_map item_uses rest) h))

  -- arguments of a CALL
  in_zeros : (c : CondTree) (es : List ExprTree) → Uses (cond_uses (and_zeros c es)) → Uses (cond_uses c) × TargetsElements P es
  in_zeros c [] h = (h, tt)
  in_zeros c (a ∷ rest) h =
      let more = in_zeros (And c (is_zero a)) rest h in
      (front (cond_uses c) (cond_uses (is_zero a)) more.0, (in_expr a (front (expr_uses a) [] (behind (cond_uses c) (cond_uses (is_zero a)) more.0)), more.1))

  in_condition : (es : List ExprTree) → Uses (cond_uses (condition_of es)) → TargetsElements P es
  in_condition [] h = tt
  in_condition (a ∷ rest) h = let more = in_zeros (is_zero a) rest h in (in_expr a (front (expr_uses a) [] more.0), more.1)

  whole : (arrays : List (List ℕ)) (a : ExprTree) → is_whole_array arrays a ≡ true → EachElement P a
  whole arrays (Int n) h = tt
  whole arrays (Var x) h = tt
  whole arrays (Element x es) h = absurd cc
  whole arrays (Neg a) h = absurd cc
  whole arrays (Add a b) h = absurd cc
  whole arrays (Sub a b) h = absurd cc
  whole arrays (Mul a b) h = absurd cc
  whole arrays (Div a b) h = absurd cc
  whole arrays (Pow a b) h = absurd cc
  whole arrays (Call f es) h = absurd cc

  in_arguments : (arrays : List (List ℕ)) (es : ExprTrees) → TargetsElements P (plain_arguments arrays (listed es)) → AllElements P es
  in_arguments arrays no_exprs h = tt
  in_arguments arrays (more_exprs a rest) h = go (is_whole_array arrays a) refl h (in_arguments arrays rest)
    where
      go : (t : Bool) → is_whole_array arrays a ≡ t → TargetsElements P (if t then plain_arguments arrays (listed rest) else a ∷ plain_arguments arrays (listed rest))
          → (TargetsElements P (plain_arguments arrays (listed rest)) → AllElements P rest) → EachElement P a × AllElements P rest
      go true e k more = (whole arrays a e, more k)
      go false e k more = (k.0, more k.1)

  module _ (arrays : List (List ℕ)) where
    abbrev seen : StmtTree → StmtTree
    seen s = with_calls (using_arguments arrays) s

    abbrev all_seen : StmtTrees → StmtTrees
    all_seen ss = all_with_calls (using_arguments arrays) ss

    abbrev At : List Site → Type 0
    At sites = Uses (flat_map site_uses sites)

    at_front : (xs ys : List Site) → At (xs ++ ys) → At xs
    at_front xs ys h = front (flat_map site_uses xs) (flat_map site_uses ys) (subst Uses (flat_map-append site_uses xs ys) h)

    at_behind : (xs ys : List Site) → At (xs ++ ys) → At ys
    at_behind xs ys h = behind (flat_map site_uses xs) (flat_map site_uses ys) (subst Uses (flat_map-append site_uses xs ys) h)

    in_assign : (l r : ExprTree) (o : Option Called) → At (stmt_sites (instead_of (using_arguments arrays) (Assign l r) o)) → OrElements P l r o
    in_assign l r None h =
        let own = front (target_uses l ++ expr_uses r) [] h in
        (in_target l (front (target_uses l) (expr_uses r) own), in_expr r (behind (target_uses l) (expr_uses r) own))
    in_assign l r (Some c) h =
        let condition = condition_of (plain_arguments arrays (listed c.arguments)) in
        in_arguments arrays c.arguments (in_condition (plain_arguments arrays (listed c.arguments)) (front (cond_uses condition) [] h))

    mutual
      in_stmt : (s : StmtTree) → At (stmt_sites (seen s)) → StmtElements P s
      in_stmt (Assign l r) h = in_assign l r (call_of l r) h
      in_stmt (If c x y) h =
          let xs = stmts_sites (all_seen x) in
          let ys = stmts_sites (all_seen y) in
          let parts = behind (cond_uses c) (flat_map site_uses (xs ++ ys)) h in
          (in_cond c (front (cond_uses c) (flat_map site_uses (xs ++ ys)) h), in_stmts x (at_front xs ys parts), in_stmts y (at_behind xs ys parts))
      in_stmt (Do head body) h =
          let bs = all_seen body in
          let inside = private_site head.private ++ stmts_sites bs in
          let own = front (own_uses (Do head bs)) (flat_map site_uses inside) h in
          let parts = behind (own_uses (Do head bs)) (flat_map site_uses inside) h in
          let bounds = (behind (map (used_as Rejected) head.rejected) (used_as Index head.variable ∷ (expr_uses head.first ++ expr_uses head.last ++ expr_uses head.step)) own).1 in
          let two = front (expr_uses head.first ++ expr_uses head.last) (expr_uses head.step) bounds in (
            (in_expr head.first (front (expr_uses head.first) (expr_uses head.last) two), in_expr head.last (behind (expr_uses head.first) (expr_uses head.last) two)),
            in_stmts body (at_behind (private_site head.private) (stmts_sites bs) parts),
          )
      in_stmt (Print items) h = in_items items (front (flat_map item_uses items) [] h)
      in_stmt (Read items) h = in_targets items (front (flat_map target_uses items) [] h)
      in_stmt Stop h = tt
      in_stmt (Comment text) h = tt

      in_stmts : (ss : StmtTrees) → At (stmts_sites (all_seen ss)) → StmtsElements P ss
      in_stmts no_stmts h = tt
      in_stmts (more_stmts s rest) h =
          let first = stmt_sites (seen s) in
          let others = stmts_sites (all_seen rest) in
          (in_stmt s (at_front first others h), in_stmts rest (at_behind first others h))

-- a program whose names are right
module _ (lines : List ℕ) (t : ProgramTree) (right : name_refusals lines t ≡ []) where
  abbrev d : Declared
  d = declared_in t.decls

  quiet : AreQuiet d (references t) at_first (program_sites t)
  quiet = all_quiet d (references t) at_first lines (program_sites t) right

  given : (x : List ℕ) → IsGiven x (ranks_in d.uses) (at_last t).arrays
  given x =
      subst (λ (a : Arrays). IsGiven x (ranks_in d.uses) a) (sym (last_arrays t))
      (decls_given d (references t) x at_first t.decls [] (quiet_front d (references t) at_first (flat_map decl_sites t.decls) (stmts_sites t.body) quiet) (none_given x [] refl))

  -- a name with so many dimensions is an array
  ranked : (x : List ℕ) (n : ℕ) → is_rank n ≡ true → rank_of d x ≡ n → is_among x (names_of t) ≡ true → HasSome (bounds_by (kind_in t x))
  ranked x n rank h there = by_constant (is_constant d x) refl h
    where
      by_entry : (o : Option ℕ) → entry_of (ranks_in d.uses) x ≡ o → or_zero o ≡ n → HasSome (entry_of (at_last t).arrays x)
      by_entry None e k = let z : is_rank 0 ≡ true = ap is_rank k ∙ rank in absurd cc
      by_entry (Some m) e k = given x n rank (e ∙ ap Some k)

      by_constant : (c : Bool) → is_constant d x ≡ c → (if c then 0 else given_rank d.uses x) ≡ n → HasSome (bounds_by (kind_in t x))
      by_constant true e k = let z : is_rank 0 ≡ true = ap is_rank k ∙ rank in absurd cc
      by_constant false e k =
          let found = by_entry (entry_of (ranks_in d.uses) x) refl k in
          let plain : entry_of (at_last t).values x ≡ None = ap (λ (values : Values). entry_of values x) (last_values t) ∙ none_named at_first t.decls x e refl in (
            found.0,
            (λ i. bounds_by (if there i then Some (kind_of t x) else None)) ∙ (λ i. bounds_by (Some (kind_by (plain i) (found.1 i)))),
          )

  of_arrays : (us : List Use) → ((x : List ℕ) → is_among x (map (λ u. u.name) us) ≡ true → is_among x (names_of t) ≡ true) → list_any (uses_other_rank d) us ≡ false → AllUses (IsOfArray (λ x. HasSome (bounds_by (kind_in t x)))) us
  of_arrays [] has h = tt
  of_arrays (u ∷ us) has h =
      let p = or_parts (uses_other_rank d u) (list_any (uses_other_rank d) us) h in (
        (λ n e rank.
            let same : differs (rank_of d u.name) (Some n) ≡ false = ap (differs (rank_of d u.name)) (sym e) ∙ p.0 in
            ranked u.name n rank (sym (eqb-true n (rank_of d u.name) (not-false (n == rank_of d u.name) same))) (has u.name (ap (λ (b : Bool). b || is_among u.name (map (λ v. v.name) us)) (same_itself u.name)))),
        of_arrays us (λ x m. has x (or_right (is_same_text x u.name) _ m)) p.1,
      )

  all_of_arrays : AllUses (IsOfArray (λ x. HasSome (bounds_by (kind_in t x)))) (flat_map site_uses (program_sites t))
  all_of_arrays =
      of_arrays (flat_map site_uses (program_sites t)) (λ x m. among_first [] (names_at (program_sites t)) x m refl)
      (no_other_rank d (references t) at_first (program_sites t) quiet)

-- in a unit whose names are right, names of elements are those of arrays
pub elements_named : (lines : List ℕ) (u : ProgramUnit) → name_refusals lines (for_names u) ≡ [] → StmtsElements (IsArray u) u.tree.body
elements_named lines u right =
    in_stmts (IsArray u) (dimensioned u.tree.decls) u.tree.body
    (at_behind (IsArray u) (dimensioned u.tree.decls) (flat_map decl_sites (for_names u).decls) (stmts_sites (for_names u).body) (all_of_arrays lines (for_names u) right))

none_before : (a b : List Finding) → a ++ b ≡ [] → a ≡ []
none_before [] b h = refl
none_before (x ∷ a) b h = absurd cc

none_behind : (a b : List Finding) → a ++ b ≡ [] → b ≡ []
none_behind [] b h = h
none_behind (x ∷ a) b h = absurd cc

-- in each unit of a file whose names are right
pub all_arrays : (us : List ProgramUnit) → units_name_refusals us ≡ [] → (u : ProgramUnit) → IsIn u us → StmtsElements (IsArray u) u.tree.body
all_arrays [] h u is = absurd is
all_arrays (v ∷ vs) h u (inl e) =
    elements_named (lines_for_names u) u (ap (λ (w : ProgramUnit). name_refusals (lines_for_names w) (for_names w)) e ∙ none_before (name_refusals (lines_for_names v) (for_names v)) (units_name_refusals vs) h)
all_arrays (v ∷ vs) h u (inr is) = all_arrays vs (none_behind (name_refusals (lines_for_names v) (for_names v)) (units_name_refusals vs) h) u is
