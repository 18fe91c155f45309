use Rattle.std.proofs.Common.{◌≡◌, ◌++◌, map, drop}
use Rattle.std.specs.Fmt.{decimal}
use Rattle.ped_script.specs.CommandTexts.{behind}
use Rattle.ped_script.proofs.texts.push_choices.Given as goal

abbrev pub invariant-loop-choice : goal.invariant-loop-choice
invariant-loop-choice l = l.text ++ behind (map decimal (drop l.choice-index l.choices)) ≡ l.fn.text ++ behind (map decimal l.choices)
