use Rattle.std.proofs.Common.{◌≡◌, ◌<◌, ℕ, length, get_or, false}
use Rattle.ped_edges.specs.Rows.{signs_at}
use Rattle.ped_edges.specs.CodeSigns.{signs_of}
use Rattle.ped_edges.proofs.signs.place_signs.Given as goal

-- the places so far have their signs
abbrev pub invariant-loop-place : goal.invariant-loop-place
invariant-loop-place l =
    (length l.signs ≡ 6) × ((k : ℕ) → k < l.place → signs_of (get_or l.signs k (record { before = false; same = false; after = false })) ≡ signs_at l.vectors k)
