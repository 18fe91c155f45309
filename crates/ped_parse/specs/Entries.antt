-- What is read of the statements of a text. Only contracts of private functions use it.
use Rattle.std.specs.Prelude.{◌≡◌, List, map}
use Rattle.ped_tree.specs.Grammar.Statement.{Statement}
use Rattle.ped_tree.specs.Grammar.Items.{Entry}
use Rattle.ped_tree.specs.Grammar.Reading.{AreEntries}
use Rattle.ped_statements.specs.ped_expressions.specs.ExpressionReading.{saturated}
use Rattle.ped_statements.specs.Saturated.{entry_with_literals}

-- the statements with what they say, where a literal that 32 bits don't hold is the greatest number that they hold
abbrev pub AreReadAs : List Statement → List Entry → Type 0
AreReadAs statements entries = (plain : List Entry) × AreEntries statements plain × (entries ≡ map (entry_with_literals saturated) plain)
