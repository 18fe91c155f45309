-- Declared names that are all arrays, as the code looks at them.
use Rattle.std.proofs.Common.{◌≡◌, Bool, List, [], ◌∷◌, map, refl, ap}
use Rattle.std.specs.Prelude.{◌&&◌}
use Rattle.std.specs.List.{list_all}
use Rattle.ped_tree.specs.declared.declarations.Declarator.{Declarator}
use Rattle.ped_tree.specs.Views.{declarator_tree}
use Rattle.ped_statements.specs.StatementReading.{is_array}

pub arrays_all : (ds : List Declarator) → list_all is_array (map declarator_tree ds) ≡ list_all (λ d. is_array (declarator_tree d)) ds
arrays_all [] = refl
arrays_all (d ∷ ds) = ap (λ (b : Bool). is_array (declarator_tree d) && b) (arrays_all ds)
