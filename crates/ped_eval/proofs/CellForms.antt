-- Cells of the code by the cells that they stand for.
use Rattle.std.proofs.Common.{◌≡◌, ℕ, List, [], ◌∷◌, Bool, true, false, if◌then◌else◌, refl, ap, ◌∙◌}
use Rattle.ped_base.specs.Lists.{is_among}
use Rattle.ped_store.specs.Cells.{Cell, Scalar, Element, Private, In, Out}
use Rattle.ped_store.specs.CellViews.{cell_view, IsPrivate, IsOfScalar}
use Rattle.ped_store.specs.declared.cells.Cell as code
use Rattle.ped_store.specs.declared.cells.Cell.TheVariants as variant
use Rattle.ped_eval.specs.Scopes.{Frame, Scope, cell_of}
use Rattle.ped_eval.specs.Agreement.{path_of, is_copy}

-- what stands for a private copy is one
pub private_is : (c : code.Cell) (d : Cell) → cell_view c ≡ d → is_copy d ≡ true → IsPrivate c
private_is (variant.Scalar x) d e h = absurd (false_true (ap is_copy e ∙ h))
  where
    false_true : false ≡ true → ⊥
    false_true e = cc
private_is (variant.Element x rank subscripts) d e h = absurd (false_true (ap is_copy e ∙ h))
  where
    false_true : false ≡ true → ⊥
    false_true e = cc
private_is (variant.Private copy) d e h = tt
private_is variant.In d e h = absurd (false_true (ap is_copy e ∙ h))
  where
    false_true : false ≡ true → ⊥
    false_true e = cc
private_is variant.Out d e h = absurd (false_true (ap is_copy e ∙ h))
  where
    false_true : false ≡ true → ⊥
    false_true e = cc

-- a scalar or a private copy
abbrev is_of_scalar : Cell → Bool
is_of_scalar (Scalar x) = true
is_of_scalar (Element x subscripts) = false
is_of_scalar (Private x path) = true
is_of_scalar In = false
is_of_scalar Out = false

scalar_by : (f : Frame) (fs : Scope) (x : List ℕ) (b : Bool) → is_of_scalar (cell_of fs x) ≡ true → is_of_scalar (if b then Private x (path_of (f ∷ fs)) else cell_of fs x) ≡ true
scalar_by f fs x true h = refl
scalar_by f fs x false h = h

scalar_cell : (scope : Scope) (x : List ℕ) → is_of_scalar (cell_of scope x) ≡ true
scalar_cell [] x = refl
scalar_cell (f ∷ fs) x = scalar_by f fs x (is_among x f.private) (scalar_cell fs x)

scalar_is : (c : code.Cell) → is_of_scalar (cell_view c) ≡ true → IsOfScalar c
scalar_is (variant.Scalar x) h = tt
scalar_is (variant.Element x rank subscripts) h = absurd cc
scalar_is (variant.Private copy) h = tt
scalar_is variant.In h = absurd cc
scalar_is variant.Out h = absurd cc

-- what stands for the cell of a scalar is a scalar or a private copy
pub of_scalar : (c : code.Cell) (scope : Scope) (x : List ℕ) → cell_view c ≡ cell_of scope x → IsOfScalar c
of_scalar c scope x e = scalar_is c (ap is_of_scalar e ∙ scalar_cell scope x)
