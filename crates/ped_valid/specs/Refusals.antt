-- What the refusals of the code stand for (this project).
use Rattle.std.specs.Prelude.{ℕ, List}
use Rattle.ped_tree.specs.Grammar.RefusalViews.{finding_of}
use Rattle.ped_parse.specs.declared.refusals.ReadRefusal.{ReadRefusal}
use Rattle.ped_parse.specs.declared.refusals.ReadRefusal.TheVariants as reading
use Rattle.ped_symbols.specs.declared.symbols.NameRefusal.{NameRefusal}
use Rattle.ped_symbols.specs.declared.symbols.NameRefusal.TheVariants as names
use Rattle.ped_valid.specs.declared.refusals.OpenRefusal.{OpenRefusal}
use Rattle.ped_valid.specs.declared.refusals.OpenRefusal.TheVariants.{At, NoMemory}
use Rattle.ped_valid.specs.Validity.{RefusesText}

-- the text's first refusal, or out of memory
abbrev pub IsRefusalOf : List ℕ → OpenRefusal → Type 0
IsRefusalOf text NoMemory = Unit {0}
IsRefusalOf text (At r) = RefusesText text (finding_of r)

-- why a text isn't read, as why it is no valid program
abbrev pub of_reading : ReadRefusal → OpenRefusal
of_reading reading.NoMemory = NoMemory
of_reading (reading.At r) = At r

-- why the names of a program aren't right, as why its text is no valid program
abbrev pub of_names : NameRefusal → OpenRefusal
of_names names.NoMemory = NoMemory
of_names (names.At r) = At r
