use Rattle.std.proofs.Common.{◌≡◌, ◌++◌, drop}
use Rattle.ped_script.specs.CommandTexts.{behind}
use Rattle.ped_script.proofs.texts.push_names.Given as goal

abbrev pub invariant-loop-name : goal.invariant-loop-name
invariant-loop-name l = l.text ++ behind (drop l.name-index l.names) ≡ l.fn.text ++ behind l.names
