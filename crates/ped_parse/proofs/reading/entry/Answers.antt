use Rattle.std.proofs.Common.{ℕ, List, refl, subst}
use Rattle.ped_tree.specs.Grammar.ItemViews.{reading_of}
use Rattle.ped_statements.specs.ped_expressions.specs.ExpressionReading.{saturated}
use Rattle.ped_statements.specs.Saturated.{IsReadAs}
use Rattle.ped_parse.proofs.reading.entry.Goals as goal

-- src/reading.rt:76:1
pub returns : goal.returns
returns c = (refl, subst (λ (text : List ℕ). IsReadAs saturated text (reading_of c.in_ok-reading.reading)) c.as_slice.ensures c.in_ok-reading.ensures)
