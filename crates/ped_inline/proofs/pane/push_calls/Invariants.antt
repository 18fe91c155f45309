use Rattle.std.proofs.Common.{◌≡◌, ◌++◌, [], ◌∷◌, map, drop}
use Rattle.std.specs.List.{flat_map}
use Rattle.ped_inline.specs.CallsPane.{called_row}
use Rattle.ped_inline.specs.CodeFolding.{called_seen}
use Rattle.ped_inline.proofs.pane.push_calls.Given as goal

-- the lines so far and those of what is left are those of all
abbrev pub invariant-loop-call : goal.invariant-loop-call
invariant-loop-call l = l.out ++ flat_map (λ c. called_row c ++ 10 ∷ []) (map called_seen (drop l.call-index l.calls)) ≡ l.initial.out ++ flat_map (λ c. called_row c ++ 10 ∷ []) (map called_seen l.calls)
