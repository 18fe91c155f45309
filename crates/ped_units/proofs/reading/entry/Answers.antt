use Rattle.std.proofs.Common.{ℕ, List, refl, subst}
use Rattle.ped_expressions.specs.ExpressionReading.{saturated}
use Rattle.ped_units.specs.UnitReading.{IsItemReadAs}
use Rattle.ped_units.specs.Views.{unit_item_of}
use Rattle.ped_units.proofs.reading.entry.Goals as goal

pub returns : goal.returns
returns c = (refl, subst (λ (text : List ℕ). IsItemReadAs saturated text (unit_item_of c.in_ok-item.item)) c.as_slice.ensures c.in_ok-item.ensures)
