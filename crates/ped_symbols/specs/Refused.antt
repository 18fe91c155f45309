-- What the refusals of the code stand for (this project).
use Rattle.std.specs.Prelude.{◌≡◌, List, Some}
use Rattle.ped_tree.specs.Grammar.Refusal.{Finding, first_of}
use Rattle.ped_tree.specs.Grammar.RefusalViews.{finding_of}
use Rattle.ped_symbols.specs.declared.symbols.NameRefusal.{NameRefusal}
use Rattle.ped_symbols.specs.declared.symbols.NameRefusal.TheVariants.{At, NoMemory}

-- the first of these refusals, or out of memory
abbrev pub IsFirstOf : List Finding → NameRefusal → Type 0
IsFirstOf findings NoMemory = Unit {0}
IsFirstOf findings (At r) = first_of findings ≡ Some (finding_of r)
