-- What has been given new names, as the code keeps it. Only contracts of private functions use it.
use Rattle.std.specs.Prelude.{◌≡◌, ◌≤◌, ◌<◌, ◌+◌, ℕ, ℤ, true, map, length, unsigned_abs, All, List, [], ◌∷◌, Option, Some, None}
use Rattle.ped_base.specs.Dimensions.{Dimensions}
use Rattle.ped_base.specs.Lists.{is_among}
use Rattle.ped_tree.specs.Tree.{DeclTree}
use Rattle.ped_tree.specs.Views.{decl_tree}
use Rattle.ped_tree.specs.declared.declarations.Decl.{Decl}
use Rattle.ped_links.specs.ped_symbols.specs.declared.symbols.Kind.{Kind}
use Rattle.ped_links.specs.ped_symbols.specs.declared.symbols.Kind.TheVariants.{Scalar, Array, Constant}
use Rattle.ped_links.specs.ped_units.specs.Expanding as plain
use Rattle.ped_links.specs.ped_units.specs.Expanding.{numbered_name}
use Rattle.ped_calls.specs.declared.giving.Given.{Given}

-- the names that are taken, and the declarations of arrays
abbrev pub given_of : Given → plain.Given
given_of g = record { taken = g.taken; arrays = map decl_tree g.arrays.items }

-- all names with lesser numbers than the next are taken, and so there are not more of these than taken names
pub record HasNext (g : Given) : Type 0 where
  pub first : 1 ≤ g.next
  pub taken : (n : ℕ) → 1 ≤ n → n < g.next → is_among (numbered_name n) g.taken ≡ true
  pub few : g.next ≤ length g.taken + 1

-- a number that a literal gives, with a sign or without
abbrev pub IsSmall : ℤ → Type 0
IsSmall n = unsigned_abs n ≤ 2147483647

-- all bounds of an array are such numbers
pub record HasSmallBounds (d : Dimensions) : Type 0 where
  pub lower : All IsSmall d.lower
  pub upper : All IsSmall d.upper

-- where a name is that of an array, its bounds are such numbers
abbrev pub HasSmallKind : Option Kind → Type 0
HasSmallKind (Some (Array d)) = HasSmallBounds d
HasSmallKind (Some Scalar) = Unit {0}
HasSmallKind (Some (Constant n)) = Unit {0}
HasSmallKind None = Unit {0}

-- a declaration, where there is one
abbrev pub decls_of : Option Decl → List DeclTree
decls_of None = []
decls_of (Some d) = decl_tree d ∷ []
