-- The names that declarations give dimensions, declarator by declarator.
use Rattle.std.proofs.Common.{◌≡◌, ℕ, suc, not, length, eqb, eqb-true, arith, List, [], ◌∷◌, ◌++◌, map, filter, Bool, true, false, refl, sym, ap, ◌∙◌, if◌then◌else◌}
use Rattle.std.specs.List.{flat_map}
use Rattle.std.proofs.lemmas.List.{map-append}
use Rattle.std.proofs.lemmas.List.Elements.{filter-append}
use Rattle.std.proofs.lemmas.List.Sums.{fold-append}
use Rattle.ped_base.specs.Lists.{has_some, is_among}
use Rattle.ped_tree.specs.Tree.{ExprTree, ExprTrees, Int, Var, Element, Neg, Add, Sub, Mul, Div, Pow, Call, no_exprs, more_exprs, BoundTree, DeclaratorTree, DeclTree, Program, Implicit, Integer, Dimension, Parameter, Save, Remark}
use Rattle.ped_tree.specs.Views.{bound_tree}
use Rattle.ped_tree.specs.declared.declarations.Bound.{Bound}
use Rattle.ped_tree.specs.Names.Collecting.{with_name, with_names}
use Rattle.ped_tree.proofs.NameLaws.Collected.{among_collected}
use Rattle.ped_valid.specs.ped_symbols.specs.declared.uses.Role.TheVariants.{Typed, Named, Saved}
use Rattle.ped_valid.specs.ped_symbols.specs.declared.uses.Use.{Use}
use Rattle.ped_valid.specs.ped_symbols.specs.Uses.{used_as, expr_uses, exprs_uses, bounds_uses, dimension_uses, type_uses, decl_uses}
use Rattle.ped_valid.specs.ped_symbols.specs.Declarations.{is_dimensioning, names_with}
use Rattle.ped_units.specs.Refusals.{dimensioned}
use Rattle.ped_units.specs.Naming.{dimensioned_in}

-- the names that uses give dimensions
abbrev given : List Use → List (List ℕ)
given uses = names_with is_dimensioning uses

given_append : (a b : List Use) → given (a ++ b) ≡ given a ++ given b
given_append a b = ap (map (λ (u : Use). u.name)) (filter-append (λ (u : Use). is_dimensioning u.role) a b) ∙ map-append (λ (u : Use). u.name) (filter (λ (u : Use). is_dimensioning u.role) a) (filter (λ (u : Use). is_dimensioning u.role) b)

-- where neither part gives a name dimensions, both together don't
neither : (a b : List Use) → given a ≡ [] → given b ≡ [] → given (a ++ b) ≡ []
neither a b p q = given_append a b ∙ (λ i. p i ++ q i)

mutual
  expr_gives : (e : ExprTree) → given (expr_uses e) ≡ []
  expr_gives (Int n) = refl
  expr_gives (Var x) = refl
  expr_gives (Element x subscripts) = exprs_give subscripts
  expr_gives (Neg a) = expr_gives a
  expr_gives (Add a b) = neither (expr_uses a) (expr_uses b) (expr_gives a) (expr_gives b)
  expr_gives (Sub a b) = neither (expr_uses a) (expr_uses b) (expr_gives a) (expr_gives b)
  expr_gives (Mul a b) = neither (expr_uses a) (expr_uses b) (expr_gives a) (expr_gives b)
  expr_gives (Div a b) = neither (expr_uses a) (expr_uses b) (expr_gives a) (expr_gives b)
  expr_gives (Pow a b) = neither (expr_uses a) (expr_uses b) (expr_gives a) (expr_gives b)
  expr_gives (Call f arguments) = exprs_give arguments

  exprs_give : (es : ExprTrees) → given (exprs_uses es) ≡ []
  exprs_give no_exprs = refl
  exprs_give (more_exprs e rest) = neither (expr_uses e) (exprs_uses rest) (expr_gives e) (exprs_give rest)

bounds_give : (bs : List BoundTree) → given (bounds_uses bs) ≡ []
bounds_give [] = refl
bounds_give (b ∷ bs) =
    neither (expr_uses b.lower ++ expr_uses b.upper) (bounds_uses bs) (neither (expr_uses b.lower) (expr_uses b.upper) (expr_gives b.lower) (expr_gives b.upper)) (bounds_give bs)

dimension_gives : (d : DeclaratorTree) → given (dimension_uses d) ≡ d.name ∷ []
dimension_gives d = ap (λ (xs : List (List ℕ)). d.name ∷ xs) (bounds_give d.bounds)

-- a name of DIMENSION, before others
pub dimension_before : (d : DeclaratorTree) (ds : List DeclaratorTree) → given (flat_map dimension_uses (d ∷ ds)) ≡ d.name ∷ given (flat_map dimension_uses ds)
dimension_before d ds = given_append (dimension_uses d) (flat_map dimension_uses ds) ∙ ap (λ (xs : List (List ℕ)). xs ++ given (flat_map dimension_uses ds)) (dimension_gives d)

typed_gives : (d : DeclaratorTree) (b : Bool) → given (used_as Typed d.name ∷ (if b then dimension_uses d else [])) ≡ (if b then d.name ∷ [] else [])
typed_gives d true = dimension_gives d
typed_gives d false = refl

-- a name of INTEGER, before others: it counts where it has dimensions
pub type_before : (d : DeclaratorTree) (ds : List DeclaratorTree) → given (flat_map type_uses (d ∷ ds)) ≡ (if has_some d.bounds then d.name ∷ [] else []) ++ given (flat_map type_uses ds)
type_before d ds = given_append (type_uses d) (flat_map type_uses ds) ∙ ap (λ (xs : List (List ℕ)). xs ++ given (flat_map type_uses ds)) (typed_gives d (has_some d.bounds))

named_give : (vs : List (List ℕ × ExprTree)) → given (flat_map (λ v. used_as Named v.0 ∷ expr_uses v.1) vs) ≡ []
named_give [] = refl
named_give (v ∷ vs) = neither (expr_uses v.1) (flat_map (λ v. used_as Named v.0 ∷ expr_uses v.1) vs) (expr_gives v.1) (named_give vs)

saved_give : (xs : List (List ℕ)) → given (map (used_as Saved) xs) ≡ []
saved_give [] = refl
saved_give (x ∷ xs) = saved_give xs

gives : (d : DeclTree) → given (decl_uses d) ≡ dimensioned_in d
gives (Program x) = refl
gives Implicit = refl
gives (Integer ds) = refl
gives (Dimension ds) = refl
gives (Parameter values) = named_give values
gives (Save names) = saved_give names
gives (Remark text) = refl

-- the names of a declaration, before those of others
pub decl_before : (d : DeclTree) (ds : List DeclTree) → dimensioned (d ∷ ds) ≡ dimensioned_in d ++ dimensioned ds
decl_before d ds = given_append (decl_uses d) (flat_map decl_uses ds) ∙ ap (λ (xs : List (List ℕ)). xs ++ dimensioned ds) (gives d)

-- a name is among those that were collected where it is among them
pub collected_same : (xs : List (List ℕ)) (x : List ℕ) → is_among x (with_names [] xs) ≡ is_among x xs
collected_same xs x = among_collected x [] xs

-- a declarator of INTEGER has been looked at
pub type_step : (arrays new whole : List (List ℕ)) (d : DeclaratorTree) (ds : List DeclaratorTree) (b : Bool) → has_some d.bounds ≡ b → new ≡ (if b then with_name arrays d.name else arrays)
    → with_names arrays (given (flat_map type_uses (d ∷ ds))) ≡ whole → with_names new (given (flat_map type_uses ds)) ≡ whole
type_step arrays new whole d ds b h n before =
    let rest = given (flat_map type_uses ds) in
    let is = type_before d ds ∙ ap (λ (c : Bool). (if c then d.name ∷ [] else []) ++ rest) h in
    ap (λ (names : List (List ℕ)). with_names names rest) n ∙ by b ∙ sym (ap (with_names arrays) is) ∙ before
  where
    by : (c : Bool) → with_names (if c then with_name arrays d.name else arrays) (given (flat_map type_uses ds)) ≡ with_names arrays ((if c then d.name ∷ [] else []) ++ given (flat_map type_uses ds))
    by true = refl
    by false = refl

-- a declarator of DIMENSION has been looked at
pub dimension_step : (arrays new whole : List (List ℕ)) (d : DeclaratorTree) (ds : List DeclaratorTree) → new ≡ with_name arrays d.name
    → with_names arrays (given (flat_map dimension_uses (d ∷ ds))) ≡ whole → with_names new (given (flat_map dimension_uses ds)) ≡ whole
dimension_step arrays new whole d ds n before =
    let rest = given (flat_map dimension_uses ds) in
    ap (λ (names : List (List ℕ)). with_names names rest) n ∙ sym (ap (with_names arrays) (dimension_before d ds)) ∙ before

-- a declaration has been looked at
pub decl_step : (arrays new whole : List (List ℕ)) (d : DeclTree) (ds : List DeclTree) → new ≡ with_names arrays (dimensioned_in d)
    → with_names arrays (dimensioned (d ∷ ds)) ≡ whole → with_names new (dimensioned ds) ≡ whole
decl_step arrays new whole d ds n before =
    ap (λ (names : List (List ℕ)). with_names names (dimensioned ds)) n
    ∙ sym (fold-append with_name arrays (dimensioned_in d) (dimensioned ds))
    ∙ sym (ap (with_names arrays) (decl_before d ds))
    ∙ before

none_of_more : (n : ℕ) → eqb (suc n) 0 ≡ false
none_of_more n = grind (arith, eqb-true)

-- a declarator has bounds where they aren't none
pub some_or_none : (bs : List Bound) (n : ℕ) → n ≡ length bs → has_some (map bound_tree bs) ≡ not (eqb n 0)
some_or_none [] n h = sym (ap (λ (m : ℕ). not (eqb m 0)) h)
some_or_none (b ∷ bs) n h = sym (ap (λ (m : ℕ). not (eqb m 0)) h ∙ ap not (none_of_more (length bs)))
