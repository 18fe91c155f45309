-- That a program is what its printed text says, and that some text says it (this project).
use Rattle.std.specs.Prelude.{◌≡◌, ◌↔◌, ℕ, List}
use Rattle.ped_lines.specs.ped_tree.specs.Tree.{ProgramTree}
use Rattle.ped_lines.specs.ped_tree.specs.Printing.{program_text}
use Rattle.ped_lines.specs.ped_tree.specs.Grammar.Reading.{Reads}

-- the printed text of the program reads as it and as no other program
abbrev pub PrintsItself : ProgramTree → Type 0
PrintsItself t = (u : ProgramTree) → Reads (program_text t) u ↔ (u ≡ t)

-- some text reads as the program
abbrev pub IsRead : ProgramTree → Type 0
IsRead t = (text : List ℕ) × Reads text t
