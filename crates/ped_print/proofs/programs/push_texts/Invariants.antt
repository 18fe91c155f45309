use Rattle.std.proofs.Common.{◌≡◌, ◌++◌, ◌∷◌, [], map, drop}
use Rattle.std.specs.List.{flat_map}
use Rattle.ped_print.specs.PrintedLines.{line_of}
use Rattle.ped_print.proofs.programs.push_texts.Given as goal

abbrev pub invariant-loop-line : goal.invariant-loop-line
invariant-loop-line l =
    l.out ++ flat_map (λ line. line.text ++ 10 ∷ []) (map line_of (drop l.line-index l.lines)) ≡ l.initial.out ++ flat_map (λ line. line.text ++ 10 ∷ []) (map line_of l.lines)
