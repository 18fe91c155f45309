use Rattle.std.proofs.Common.{◌≡◌, ◌++◌, drop, codes}
use Rattle.std.specs.List.{flat_map}
use Rattle.ped_evidence.proofs.printing.push_names.Given as goal

abbrev pub invariant-loop-name : goal.invariant-loop-name
invariant-loop-name l = l.text ++ flat_map (λ name. codes " " ++ name) (drop l.name-index l.names) ≡ l.fn.text ++ flat_map (λ name. codes " " ++ name) l.names
