-- The outcomes that the code's outcomes stand for (this project).
use Rattle.std.specs.Prelude.{map}
use Rattle.ped_eval.specs.Outcomes.{LiveRow, Outcome, Ended, Fault}
use Rattle.ped_eval.specs.declared.outcomes.LiveRow as code_row
use Rattle.ped_eval.specs.declared.outcomes.Outcome as code
use Rattle.ped_eval.specs.declared.outcomes.Outcome.TheVariants as variant

-- the row of a live-out variable
abbrev pub row_view : code_row.LiveRow → LiveRow
row_view row = record { name = row.name; values = row.values }

-- an outcome
abbrev pub outcome_view : code.Outcome → Outcome
outcome_view (variant.Ended output live) = Ended output (map row_view live)
outcome_view (variant.Fault number statement) = Fault number statement
