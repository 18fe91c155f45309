-- Named constants and the bounds of arrays are numbers that literals give, whatever a program declares.
use Rattle.std.proofs.Common.{◌≡◌, ℕ, ℤ, unsigned_abs, nat_le, leb-true, Bool, true, false, ◌&&◌, length, List, [], ◌∷◌, ◌++◌, Option, Some, None, is_some, IfSome, All, refl, sym, subst, if◌then◌else◌}
use Rattle.std.specs.List.{flat_map}
use Rattle.std.proofs.lemmas.List.Elements.{All-nil, All-cons, All-append}
use Rattle.std.proofs.lemmas.Map.Entries.{All-lookup}
use Rattle.ped_base.specs.Dimensions.{Dimensions}
use Rattle.ped_base.specs.Lists.{is_same_text, is_among, has_some}
use Rattle.ped_tree.specs.Tree.{ExprTree, BoundTree, DeclaratorTree, ProgramTree}
use Rattle.ped_tree.specs.Grammar.LimitNumbers.{greatest_literal, most_dimensions}
use Rattle.ped_tree.specs.Constants.ConstantExpressions.{constant_value}
use Rattle.ped_links.specs.ped_symbols.specs.declared.symbols.Kind.{Kind}
use Rattle.ped_links.specs.ped_symbols.specs.Entries.{entry_of}
use Rattle.ped_links.specs.ped_symbols.specs.Values.{Values, within, fixed_value, with_value, behind_items, items, declarators}
use Rattle.ped_links.specs.ped_symbols.specs.Arrays.{Arrays, with_dimension, bounds_values, with_bounds, arrays_of, arrays_in}
use Rattle.ped_links.specs.ped_symbols.specs.Sites.{Site, declaration, statement, private_names, program_sites}
use Rattle.ped_links.specs.ped_symbols.specs.NameRefusals.{Before, at_first, behind_site, behind_sites}
use Rattle.ped_links.specs.ped_symbols.specs.Kinds.{at_last, kind_by, kind_of, kind_in, names_of, table_of}
use Rattle.ped_links.specs.ped_symbols.proofs.RightUseLaws.Found.{found_in_program}
use Rattle.ped_calls.specs.Giving.{IsSmall, HasSmallBounds, HasSmallKind}

small_if : (n : ℤ) (b : Bool) → nat_le (unsigned_abs n) greatest_literal ≡ b → IfSome (if b then Some n else None) IsSmall
small_if n true h = leb-true (unsigned_abs n) greatest_literal h
small_if n false h = tt

small_within : (o : Option ℤ) → IfSome (within o) IsSmall
small_within None = tt
small_within (Some n) = small_if n (nat_le (unsigned_abs n) greatest_literal) refl

-- the value of a constant expression that has a fixed one
pub small_fixed : (values : Values) (e : ExprTree) → IfSome (fixed_value values e) IsSmall
small_fixed values e = small_within (constant_value values e)

-- all of these have small values
abbrev HaveSmallValues : Values → Type 0
HaveSmallValues values = All (λ v. IsSmall v.1) values

small_entry : (values : Values) (x : List ℕ) (n : ℤ) (b : Bool) → IsSmall n → HaveSmallValues values → HaveSmallValues (if b then values else values ++ (x, n) ∷ [])
small_entry values x n true s h = h
small_entry values x n false s h = All-append (λ v. IsSmall v.1) values ((x, n) ∷ []) h (All-cons (λ v. IsSmall v.1) (x, n) [] s (All-nil (λ v. IsSmall v.1)))

small_value : (values : Values) (x : List ℕ) (o : Option ℤ) → IfSome o IsSmall → HaveSmallValues values → HaveSmallValues (with_value values x o)
small_value values x None s h = h
small_value values x (Some n) s h = small_entry values x n (is_some (entry_of values x)) s h

small_items : (values : Values) (vs : List (List ℕ × ExprTree)) → HaveSmallValues values → HaveSmallValues (behind_items values vs)
small_items values [] h = h
small_items values (v ∷ vs) h = small_items (with_value values v.0 (fixed_value values v.1)) vs (small_value values v.0 (fixed_value values v.1) (small_fixed values v.1) h)

small_dimension : (l u : Option ℤ) (d : Option Dimensions) → IfSome l IsSmall → IfSome u IsSmall → IfSome d HasSmallBounds → IfSome (with_dimension l u d) HasSmallBounds
small_dimension (Some l) (Some u) (Some d) p q h = record { lower = All-cons IsSmall l d.lower p h.lower; upper = All-cons IsSmall u d.upper q h.upper }
small_dimension (Some l) (Some u) None p q h = tt
small_dimension (Some l) None d p q h = tt
small_dimension None u d p q h = tt

small_bounds : (values : Values) (bs : List BoundTree) → IfSome (bounds_values values bs) HasSmallBounds
small_bounds values [] = record { lower = All-nil IsSmall; upper = All-nil IsSmall }
small_bounds values (b ∷ bs) = small_dimension (fixed_value values b.lower) (fixed_value values b.upper) (bounds_values values bs) (small_fixed values b.lower) (small_fixed values b.upper) (small_bounds values bs)

-- all of these arrays have small bounds
abbrev HaveSmallBounds : Arrays → Type 0
HaveSmallBounds arrays = All (λ a. HasSmallBounds a.1) arrays

small_with : (x : List ℕ) (o : Option Dimensions) → IfSome o HasSmallBounds → HaveSmallBounds (with_bounds x o)
small_with x None h = All-nil (λ a. HasSmallBounds a.1)
small_with x (Some d) h = All-cons (λ a. HasSmallBounds a.1) (x, d) [] h (All-nil (λ a. HasSmallBounds a.1))

small_choice : (b : Bool) (arrays : Arrays) → HaveSmallBounds arrays → HaveSmallBounds (if b then arrays else [])
small_choice true arrays h = h
small_choice false arrays h = All-nil (λ a. HasSmallBounds a.1)

small_declared : (values : Values) (ds : List DeclaratorTree) → HaveSmallBounds (flat_map (arrays_of values) ds)
small_declared values [] = All-nil (λ a. HasSmallBounds a.1)
small_declared values (d ∷ ds) =
    All-append (λ a. HasSmallBounds a.1) (arrays_of values d) (flat_map (arrays_of values) ds)
    (small_choice (has_some d.bounds && nat_le (length d.bounds) most_dimensions) (with_bounds d.name (bounds_values values d.bounds)) (small_with d.name (bounds_values values d.bounds) (small_bounds values d.bounds)))
    (small_declared values ds)

-- what stands before a site is small
record IsSmallBefore (b : Before) : Type 0 where
  values : HaveSmallValues b.values
  arrays : HaveSmallBounds b.arrays

small_site : (b : Before) (s : Site) → IsSmallBefore b → IsSmallBefore (behind_site b s)
small_site b (declaration d) h = record {
  values = small_items b.values (items d) h.values;
  arrays = All-append (λ a. HasSmallBounds a.1) b.arrays (arrays_in b.values d) h.arrays (small_declared b.values (declarators d));
}
small_site b (statement s) h = record { values = h.values; arrays = h.arrays }
small_site b (private_names names) h = h

small_sites : (b : Before) (sites : List Site) → IsSmallBefore b → IsSmallBefore (behind_sites b sites)
small_sites b [] h = h
small_sites b (s ∷ rest) h = small_sites (behind_site b s) rest (small_site b s h)

small_last : (t : ProgramTree) → IsSmallBefore (at_last t)
small_last t = small_sites at_first (program_sites t) record { values = All-nil (λ v. IsSmall v.1); arrays = All-nil (λ a. HasSmallBounds a.1) }

-- the values of the named constants of a program
pub small_constants : (t : ProgramTree) → All (λ v. IsSmall v.1) (at_last t).values
small_constants t = (small_last t).values

small_by : (n : Option ℤ) (d : Option Dimensions) → IfSome d HasSmallBounds → HasSmallKind (Some (kind_by n d))
small_by (Some n) d h = tt
small_by None (Some d) h = h
small_by None None h = tt

small_choice_of : (b : Bool) (k : Kind) → HasSmallKind (Some k) → HasSmallKind (if b then Some k else None)
small_choice_of true k h = h
small_choice_of false k h = tt

-- what a name of a program stands for
pub small_kind : (t : ProgramTree) (x : List ℕ) → HasSmallKind (kind_in t x)
small_kind t x =
    small_choice_of (is_among x (names_of t)) (kind_of t x)
    (small_by (entry_of (at_last t).values x) (entry_of (at_last t).arrays x) (All-lookup HasSmallBounds (is_same_text x) (at_last t).arrays (small_last t).arrays))

-- what a table of names has
pub small_in_table : (t : ProgramTree) (x : List ℕ) → HasSmallKind (entry_of (table_of t).kinds x)
small_in_table t x = subst HasSmallKind (sym (found_in_program t x)) (small_kind t x)
