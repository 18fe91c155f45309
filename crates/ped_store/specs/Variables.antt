-- What the variables of a program hold: a scalar has one cell, an array one for each element (ANSI X3.9-1978, sections 2.4, 5.2.4).
use Rattle.std.specs.Prelude.{ℕ, ℤ, List, [], ◌∷◌, map, Option, if◌then◌else◌}
use Rattle.ped_base.specs.Dimensions.{Dimensions}
use Rattle.ped_base.specs.Lists.{has_some}
use Rattle.ped_store.specs.Cells.{Scalar, Element}
use Rattle.ped_store.specs.Stores.{Store, number_in}
use Rattle.ped_store.specs.Storage.{elements_of}

-- the bounds of a name that has none: it is no array (plain words)
abbrev pub no_dimensions : Dimensions
no_dimensions = record { lower = []; upper = [] }

-- the values of a variable with these bounds, those of an array in storage order; an undefined one is None (ANSI X3.9-1978, section 5.2.4; this project)
abbrev pub values_of : Dimensions → List ℕ → Store → List (Option ℤ)
values_of bounds x s =
    if has_some bounds.lower
    then map (λ js. number_in (s (Element x js))) (elements_of bounds)
    else number_in (s (Scalar x)) ∷ []
