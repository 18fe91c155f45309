-- Why a text has no statements (this project).
use Rattle.std.specs.Prelude.{◌≡◌, ℕ, List, Some}
use Rattle.ped_tree.specs.Grammar.LineRefusals.{first_line_refusal}
use Rattle.ped_tree.specs.Grammar.RefusalViews.{finding_of}
use Rattle.ped_lines.specs.declared.errors.LinesError.{LinesError}
use Rattle.ped_lines.specs.declared.errors.LinesError.TheVariants.{NoMemory, Refused}

-- the text's first refusal, or out of memory
abbrev pub IsErrorOf : List ℕ → LinesError → Type 0
IsErrorOf text NoMemory = Unit {0}
IsErrorOf text (Refused r) = first_line_refusal text ≡ Some (finding_of r)
