-- The line that says why a program's text is refused (this project).
use Rattle.std.specs.Prelude.{ℕ, List, [], ◌∷◌, ◌++◌, codes}
use Rattle.std.specs.Fmt.{decimal}
use Rattle.ped_call_runs.specs.ped_calls.specs.ped_units.specs.Verdicts.{UnitFinding, number_of_rule, name_of_rule}

-- the rule that is broken by its number and its name, and its line
abbrev pub refused_line : UnitFinding → List ℕ
refused_line f = codes "ped: refused " ++ decimal (number_of_rule f.rule) ++ codes " " ++ name_of_rule f.rule ++ codes " at " ++ decimal f.line ++ 10 ∷ []
