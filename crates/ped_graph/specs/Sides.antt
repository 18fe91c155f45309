-- What the code computes once of a reference for all its pairs (this project).
use Rattle.std.specs.Prelude.{◌≡◌, ℕ, ◌≤◌, List, [], ◌∷◌, length, take, drop, Bool, true, ◌||◌, ◌&&◌, is_some}
use Rattle.std.specs.List.{list_all}
use Rattle.ped_base.specs.Lists.{is_among}
use Rattle.ped_views.specs.Views.{Row, SubscriptPair, View}
use Rattle.ped_tree.specs.Tree.{ExprTree, Int, Var, Element, Neg, Add, Sub, Mul, Div, Pow, Call}
use Rattle.ped_tree.specs.Constants.NamedConstants.{value_named}
use Rattle.ped_tree.specs.Nests.{Loop, indices_of}
use Rattle.ped_refs.specs.Loops.{nest_of}
use Rattle.ped_affine.specs.Ranges.{Setting}
use Rattle.ped_affine.specs.PairViews.{Site, view_at}
use Rattle.ped_graph.specs.declared.sides.Side.{Side}

-- each variable of which an affine form could be made is that of a loop around the subscript, or the outermost DO assigns it, or it is a named constant (Allen and Kennedy, section 3.1)
abbrev pub is_alone : Setting → List Loop → ExprTree → Bool
is_alone s nest (Int n) = true
is_alone s nest (Var x) = is_among x (indices_of nest) || is_among x s.assigned || is_some (value_named s.constants x)
is_alone s nest (Element x subscripts) = true
is_alone s nest (Neg a) = is_alone s nest a
is_alone s nest (Add a b) = is_alone s nest a && is_alone s nest b
is_alone s nest (Sub a b) = is_alone s nest a && is_alone s nest b
is_alone s nest (Mul a b) = is_alone s nest a && is_alone s nest b
is_alone s nest (Div a b) = true
is_alone s nest (Pow a b) = true
is_alone s nest (Call f arguments) = true

-- both subscripts of a position are affine forms
abbrev pub is_usable : SubscriptPair → Bool
is_usable p = p.usable

-- a reference with its loops, its view with itself, whether all its subscripts are alone, and whether all are affine forms
pub record IsSide (s : Setting) (p : Site) (w : Side) : Type 0 where
  pub nest : nest_of w.nest.now ≡ p.nest
  pub own : w.own ≡ view_at s p p
  pub alone : w.alone ≡ list_all (is_alone s p.nest) p.subscripts
  pub usable : w.usable ≡ list_all is_usable w.own.positions

-- a row, of which this many loops are common, of a subscript whose own row has them all so
pub record IsOwnRow (depth : ℕ) (own row : Row) : Type 0 where
  pub within : depth ≤ length own.common
  pub common : row.common ≡ take depth own.common
  pub inner : row.inner ≡ drop depth own.common
  pub constant : row.constant ≡ own.constant

-- a position of two subscripts by the positions of each of them with itself
pub record IsOwnPosition (depth : ℕ) (a b p : SubscriptPair) : Type 0 where
  pub first : a.usable ≡ true
  pub second : b.usable ≡ true
  pub usable : p.usable ≡ true
  pub source : IsOwnRow depth a.source p.source
  pub sink : IsOwnRow depth b.source p.sink

-- position by position, as many as both have
abbrev pub AreOwnPositions : ℕ → List SubscriptPair → List SubscriptPair → List SubscriptPair → Type 0
AreOwnPositions depth [] bs ps = ps ≡ []
AreOwnPositions depth (a ∷ rest) [] ps = ps ≡ []
AreOwnPositions depth (a ∷ rest) (b ∷ bs) [] = ⊥
AreOwnPositions depth (a ∷ rest) (b ∷ bs) (p ∷ ps) = IsOwnPosition depth a b p × AreOwnPositions depth rest bs ps

-- a view with the ranges and the positions of two sides, of which this many loops are common
pub record IsLike (depth : ℕ) (source sink : Side) (v : View) : Type 0 where
  pub source_alone : source.alone ≡ true
  pub sink_alone : sink.alone ≡ true
  pub loops : v.loops ≡ take depth source.own.loops
  pub source_inner : v.source_inner ≡ drop depth source.own.loops
  pub sink_inner : v.sink_inner ≡ drop depth sink.own.loops
  pub positions : AreOwnPositions depth source.own.positions sink.own.positions v.positions

-- a side whose subscripts are alone and affine forms, with this many loops at least
pub record IsPlain (depth : ℕ) (w : Side) : Type 0 where
  pub alone : w.alone ≡ true
  pub usable : w.usable ≡ true
  pub deep : depth ≤ length w.own.loops
