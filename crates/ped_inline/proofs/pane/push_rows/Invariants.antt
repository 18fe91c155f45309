use Rattle.std.proofs.Common.{◌≡◌, ◌++◌, [], ◌∷◌, map}
use Rattle.std.specs.List.{flat_map}
use Rattle.ped_inline.specs.CallsPane.{folded_row}
use Rattle.ped_inline.specs.CodeFolding.{row_seen}
use Rattle.ped_inline.proofs.pane.push_rows.Given as goal

-- the lines so far and those of what is left are those of all
abbrev pub invariant-loop-row : goal.invariant-loop-row
invariant-loop-row l = l.out ++ flat_map (λ r. folded_row r ++ 10 ∷ []) (map row_seen l.row-iterator) ≡ l.initial.out ++ flat_map (λ r. folded_row r ++ 10 ∷ []) (map row_seen l.rows.keys)
