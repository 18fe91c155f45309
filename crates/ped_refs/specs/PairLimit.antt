-- How many pairs of references a program may have, and where it has more (this project).
use Rattle.std.specs.Prelude.{ℕ, ◌<◌, ◌≤◌, List, filter, nat_le, Bool}
use Rattle.ped_refs.specs.References.{Reference, pair_count}

-- the greatest number of ordered pairs that a program may have
abbrev pub most_pairs : ℕ
most_pairs = 200000

-- no more ordered pairs than a program may have
abbrev pub is_within_pair_limit : List Reference → Bool
is_within_pair_limit refs = nat_le (pair_count refs) most_pairs

-- the references of the statements up to a number
abbrev pub references_until : ℕ → List Reference → List Reference
references_until number refs = filter (λ r. nat_le r.statement number) refs

-- the statement with this number is the first at which the ordered pairs among the references so far are too many
pub record IsFirstBeyond (refs : List Reference) (number : ℕ) : Type 0 where
  pub beyond : most_pairs < pair_count (references_until number refs)
  pub within_before : (k : ℕ) → k < number → pair_count (references_until k refs) ≤ most_pairs
