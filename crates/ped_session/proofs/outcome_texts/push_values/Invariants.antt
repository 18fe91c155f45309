use Rattle.std.proofs.Common.{◌≡◌, ◌++◌, drop}
use Rattle.std.specs.List.{flat_map}
use Rattle.ped_session.specs.OutcomeTexts.{value_text}
use Rattle.ped_session.proofs.outcome_texts.push_values.Given as goal

abbrev pub invariant-loop-value : goal.invariant-loop-value
invariant-loop-value l = l.out ++ flat_map value_text (drop l.value-index l.values) ≡ l.fn.out ++ flat_map value_text l.values
