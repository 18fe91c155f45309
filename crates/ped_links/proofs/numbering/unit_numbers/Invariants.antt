use Rattle.std.proofs.Common.{◌≡◌, ℕ, ◌-◌, ◌≤◌, List, [], map, take, drop}
use Rattle.ped_units.specs.ped_valid.specs.ped_symbols.specs.Entries.{entry_of}
use Rattle.ped_links.specs.Numbers.{number_among}
use Rattle.ped_units.specs.Views.{program_unit_of}
use Rattle.ped_links.proofs.numbering.unit_numbers.Given as goal

abbrev pub invariant-loop-number : goal.invariant-loop-number
invariant-loop-number l = record {
  above : 1 ≤ l.number;
  are : (x : List ℕ) → (x ≡ [] → ⊥) → entry_of l.numbers.entries x ≡ number_among (take (l.number - 1) (drop 1 (map program_unit_of l.units))) 1 x;
}
