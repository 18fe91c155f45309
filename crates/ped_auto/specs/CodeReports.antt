-- The report as the code has it (this project).
use Rattle.std.specs.Prelude.{ℕ, List, map, All}
use Rattle.ped_rules.specs.ped_steps.specs.Causes.{Cause}
use Rattle.ped_rules.specs.ped_steps.specs.CodeCauses.{cause_of, IsShort}
use Rattle.ped_rules.specs.ped_steps.specs.declared.causes.Refused.{Refused}
use Rattle.ped_auto.specs.declared.report.AutoReport.{AutoReport}
use Rattle.ped_auto.specs.Strategy.{Report}

-- the causes as the definitions have them
abbrev pub causes_of : List (ℕ × Refused) → List (ℕ × Cause)
causes_of left = map (λ l. (l.0, cause_of l.1)) left

-- the report as the definitions have it
abbrev pub report_of : AutoReport → Report
report_of r = record { accepted = r.accepted; left = causes_of r.left }

-- the causes can be printed
abbrev pub AreShort : List (ℕ × Refused) → Type 0
AreShort left = All (λ l. IsShort l.1) left
