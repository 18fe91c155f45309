-- The cells that the code's cells stand for (this project).
use Rattle.std.specs.Prelude.{◌≡◌, ◌-◌, ◌≤◌, ◌<◌, pos, take, drop, length, replicate}
use Rattle.ped_store.specs.Cells.{Cell, Scalar, Element, Private, In, Out}
use Rattle.ped_store.specs.declared.cells.Cell as code
use Rattle.ped_store.specs.declared.cells.Cell.TheVariants as variant

-- the cell that a cell of the code stands for
abbrev pub cell_view : code.Cell → Cell
cell_view (variant.Scalar x) = Scalar x
cell_view (variant.Element x rank subscripts) = Element x (take rank subscripts)
cell_view (variant.Private copy) = Private copy.name copy.iterations
cell_view variant.In = In
cell_view variant.Out = Out

-- a cell as the code keeps it: one subscript to seven of the seven that there is room for, and 0 in the places past them; one DO loop to six
abbrev pub IsCell : code.Cell → Type 0
IsCell (variant.Scalar x) = Unit {0}
IsCell (variant.Element x rank subscripts) = (0 < rank) × (rank ≤ 7) × (drop rank subscripts ≡ replicate (7 - rank) (pos 0))
IsCell (variant.Private copy) = (0 < length copy.iterations) × (length copy.iterations ≤ 6)
IsCell variant.In = Unit {0}
IsCell variant.Out = Unit {0}

-- a private copy
abbrev pub IsPrivate : code.Cell → Type 0
IsPrivate (variant.Private copy) = Unit {0}
IsPrivate (variant.Scalar x) = ⊥
IsPrivate (variant.Element x rank subscripts) = ⊥
IsPrivate variant.In = ⊥
IsPrivate variant.Out = ⊥

-- a scalar or a private copy
abbrev pub IsOfScalar : code.Cell → Type 0
IsOfScalar (variant.Scalar x) = Unit {0}
IsOfScalar (variant.Private copy) = Unit {0}
IsOfScalar (variant.Element x rank subscripts) = ⊥
IsOfScalar variant.In = ⊥
IsOfScalar variant.Out = ⊥
