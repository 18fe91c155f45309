-- Bounds of arrays, dimension by dimension.
use Rattle.std.proofs.Common.{◌≡◌, ℕ, ℤ, pos, ◌+◌, ◌-◌, ◌<◌, List, [], ◌∷◌, ◌++◌, length, drop, replicate, slice_set, Option, Some, None, refl, ap, sym, ◌∙◌, append-nil, append_assoc, arith, map, Bool, true, ◌&&◌, if◌then◌else◌, false, subst}
use Rattle.std.specs.Prelude.{nat_le, nat_eq, not}
use Rattle.std.specs.List.{flat_map}
use Rattle.std.proofs.lemmas.Grind.{common_steps, flat_map-append}
use Rattle.std.proofs.lemmas.List.{map-append, length-map}
use Rattle.ped_base.specs.Lists.{has_some}
use Rattle.ped_tree.specs.Tree.{BoundTree}
use Rattle.ped_tree.specs.Views.{bound_tree, declarator_tree}
use Rattle.ped_tree.specs.declared.declarations.Declarator.{Declarator}
use Rattle.ped_tree.specs.declared.declarations.Bound.{Bound}
use Rattle.ped_tree.specs.Grammar.LimitNumbers.{most_dimensions}
use Rattle.ped_symbols.specs.Values.{Values}
use Rattle.ped_base.specs.Dimensions.{Dimensions, IsBounds}
use Rattle.ped_base.specs.declared.bounds.Bounds.TheInside.{Inside}
use Rattle.ped_symbols.specs.Arrays.{Arrays, with_dimension, bounds_values, with_bounds, by_bounds, arrays_of}

-- dimensions with others behind them, where these are known (plain words)
abbrev pub appended : Dimensions → Option Dimensions → Option Dimensions
appended d None = None
appended d (Some e) = Some (record { lower = d.lower ++ e.lower; upper = d.upper ++ e.upper })

-- none before others
pub none_before : (d : Dimensions) (rest : Option Dimensions) → d.lower ≡ [] → d.upper ≡ [] → appended d rest ≡ rest
none_before d None l u = refl
none_before d (Some e) l u = λ i. Some (record { lower = l i ++ e.lower; upper = u i ++ e.upper })

-- one more dimension belongs to those before or to those behind
pub one_more : (d wider : Dimensions) (lower upper : ℤ) (rest : Option Dimensions) → wider.lower ≡ d.lower ++ lower ∷ [] → wider.upper ≡ d.upper ++ upper ∷ []
    → appended wider rest ≡ appended d (with_dimension (Some lower) (Some upper) rest)
one_more d wider lower upper None l u = refl
one_more d wider lower upper (Some e) l u = λ i. Some (record {
  lower = (ap (λ t. t ++ e.lower) l ∙ append_assoc d.lower (lower ∷ []) e.lower) i;
  upper = (ap (λ t. t ++ e.upper) u ∙ append_assoc d.upper (upper ∷ []) e.upper) i;
})

-- none behind others
pub none_behind : (d : Dimensions) → appended d (Some (record { lower = []; upper = [] })) ≡ Some d
none_behind d = λ i. Some (record { lower = append-nil d.lower i; upper = append-nil d.upper i })

rest_more : (xs : List ℤ) (n : ℕ) (v : ℤ) → length xs ≡ 7 → n < 7 → drop n xs ≡ replicate (7 - n) (pos 0) → drop (n + 1) (slice_set xs n v) ≡ replicate (7 - (n + 1)) (pos 0)
rest_more xs n v l k h = grind (arith, common_steps)

-- the room of an array keeps its form where one more dimension stands in it
pub wider_bounds : (b : Inside) (n m : ℕ) (lower upper : ℤ) → IsBounds b → b.rank < 7 → n ≡ b.rank → m ≡ b.rank
    → IsBounds (record { rank = b.rank + 1; lower = slice_set b.lower n lower; upper = slice_set b.upper m upper })
wider_bounds b n m lower upper h k e f = record {
  few = omega arith;
  lower_long = grind (arith, common_steps, h.lower_long);
  upper_long = grind (arith, common_steps, h.upper_long);
  lower_rest = ap (λ n. drop (b.rank + 1) (slice_set b.lower n lower)) e ∙ rest_more b.lower b.rank lower h.lower_long k h.lower_rest;
  upper_rest = ap (λ n. drop (b.rank + 1) (slice_set b.upper n upper)) f ∙ rest_more b.upper b.rank upper h.upper_long k h.upper_rest;
}

-- a list of no items has none, and one of items has some
pub some_of_length : {X : Type 0} (xs : List X) → has_some xs ≡ not (nat_eq (length xs) 0)
some_of_length [] = refl
some_of_length (x ∷ xs) = grind (arith)

-- the array of a name whose bounds are known
pub known_array : (values : Values) (x : List ℕ) (bounds : List BoundTree) (d : Dimensions) → (has_some bounds && nat_le (length bounds) most_dimensions) ≡ true
    → bounds_values values bounds ≡ Some d → by_bounds values x bounds ≡ (x, d) ∷ []
known_array values x bounds d h e = λ i. if h i then with_bounds x (e i) else []

few_of : (b : Bool) (n : ℕ) → (b && nat_le n 7) ≡ true → n < 8
few_of true n h = grind (arith, h)
few_of false n h = absurd cc

-- an array has no more dimensions than there is room for
pub few_bounds : (bounds : List Bound) → (has_some (map bound_tree bounds) && nat_le (length (map bound_tree bounds)) most_dimensions) ≡ true → length bounds < 8
few_bounds bounds h = subst (λ n. n < 8) (length-map bounds bound_tree) (few_of (has_some (map bound_tree bounds)) (length (map bound_tree bounds)) h)

-- the arrays of one declarator more
pub arrays_more : (before : Arrays) (values : Values) (front longer : List Declarator) (x : Declarator) → longer ≡ front ++ x ∷ []
    → (before ++ flat_map (arrays_of values) (map declarator_tree front)) ++ arrays_of values (declarator_tree x) ≡ before ++ flat_map (arrays_of values) (map declarator_tree longer)
arrays_more before values front longer x e =
    append_assoc before _ (arrays_of values (declarator_tree x))
    ∙ ap (λ t. before ++ t)
    (ap (λ t. flat_map (arrays_of values) (map declarator_tree front) ++ t) (sym (append-nil (arrays_of values (declarator_tree x))))
    ∙ sym (flat_map-append (arrays_of values) (map declarator_tree front) (declarator_tree x ∷ []))
    ∙ ap (flat_map (arrays_of values)) (sym (map-append declarator_tree front (x ∷ [])) ∙ ap (map declarator_tree) (sym e)))
