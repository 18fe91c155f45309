use Rattle.std.proofs.Common.{◌≡◌, take, map, filter}
use Rattle.std.specs.Prelude.{not}
use Rattle.std.specs.Char.{to_ascii_uppercase}
use Rattle.ped_tree.specs.Grammar.Columns.{is_blank}
use Rattle.ped_reduce.proofs.lists.folded.Given as goal

abbrev pub invariant-loop-c : goal.invariant-loop-c
invariant-loop-c l = l.folded.items ≡ map to_ascii_uppercase (filter (λ c. not (is_blank c)) (take l.c-index l.text))
