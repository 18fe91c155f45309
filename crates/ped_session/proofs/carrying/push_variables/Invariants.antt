use Rattle.std.proofs.Common.{◌≡◌, ◌++◌, drop, filter, not}
use Rattle.ped_refs.specs.Occurrences.{name_text}
use Rattle.ped_transformations.specs.ped_auto.specs.CarriedNames.{is_file}
use Rattle.ped_session.proofs.carrying.push_variables.Given as goal

abbrev pub invariant-loop-name : goal.invariant-loop-name
invariant-loop-name l = l.all.items ++ filter (λ name. not (is_file (name_text name))) (drop l.name-index l.names) ≡ l.fn.all.items ++ filter (λ name. not (is_file (name_text name))) l.names
