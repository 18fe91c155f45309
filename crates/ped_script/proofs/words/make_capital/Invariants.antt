use Rattle.std.proofs.Common.{◌≡◌, ◌++◌, map, take, drop}
use Rattle.std.specs.Char.{to_ascii_uppercase}
use Rattle.ped_script.proofs.words.make_capital.Given as goal

abbrev pub invariant-loop-c : goal.invariant-loop-c
invariant-loop-c l = l.text ≡ map to_ascii_uppercase (take l.c-index l.initial.text) ++ drop l.c-index l.initial.text
