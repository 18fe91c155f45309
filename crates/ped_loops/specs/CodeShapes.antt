-- Shapes of bounds, and the heads of two loops that change places, as the code has them. Only contracts of private functions use it (this project).
use Rattle.std.specs.Prelude.{◌≡◌, Some}
use Rattle.ped_tree.specs.Tree.{Head}
use Rattle.ped_tree.specs.Views.{expr_tree, head_of}
use Rattle.ped_loops.specs.Shapes as plain
use Rattle.ped_loops.specs.declared.shapes.Shape.{Shape}
use Rattle.ped_loops.specs.declared.shapes.Shape.TheVariants.{Free, Itself, Sum, Difference, Turned}
use Rattle.ped_loops.specs.declared.shapes.Pair.{Pair}

-- the shape that the code has found
abbrev pub shape_in : Shape → plain.Shape
shape_in Free = plain.free
shape_in Itself = plain.itself
shape_in (Sum c) = plain.sum (expr_tree c.now)
shape_in (Difference c) = plain.difference (expr_tree c.now)
shape_in (Turned c) = plain.turned (expr_tree c.now)

-- the head of the outer DO
abbrev pub outer_of : Pair → Head
outer_of p = head_of p.outer.now

-- the head of the inner DO
abbrev pub inner_of : Pair → Head
inner_of p = head_of p.inner.now

-- the bounds of the inner DO have these shapes
pub record HasShapes (p : Pair) : Type 0 where
  pub first : plain.shape_of (outer_of p).variable (inner_of p).first ≡ Some (shape_in p.first)
  pub last : plain.shape_of (outer_of p).variable (inner_of p).last ≡ Some (shape_in p.last)
