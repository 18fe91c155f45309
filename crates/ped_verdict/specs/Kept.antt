-- How a direction vector is kept: at the front of six directions, the rest of which are `=` (this project).
use Rattle.std.specs.Prelude.{◌≡◌, ◌-◌, ◌≤◌, List, ◌++◌, length, take, drop, replicate}
use Rattle.std.proofs.Common.{arith}
use Rattle.std.proofs.lemmas.List.{length-take-le, take-append-drop}
use Rattle.ped_views.specs.declared.directions.Direction.{Direction}
use Rattle.ped_views.specs.declared.directions.Direction.TheVariants.{Same}
use Rattle.ped_verdict.specs.declared.vectors.Vector.TheInside.{Inside}

-- the directions of a vector are at the front
pub record IsVectorInside (a : Inside) : Type 0 where
  pub short : a.len ≤ 6
  pub long : length a.directions ≡ 6
  pub rest : drop a.len a.directions ≡ replicate (6 - a.len) Same

-- how the directions of a vector are kept
abbrev pub inside : List Direction → Inside
inside vector = record { len = length vector; directions = vector ++ replicate (6 - length vector) Same }

-- a vector that is taken out and kept again is the same
pub inside_back : (a : Inside) → IsVectorInside a → inside (take a.len a.directions) ≡ a
inside_back a h =
    let l : length (take a.len a.directions) ≡ a.len = length-take-le a.len a.directions (omega (arith, h.long, h.short)) in
    let t : take a.len a.directions ++ replicate (6 - length (take a.len a.directions)) Same ≡ a.directions =
    rw (l, ← h.rest) (take-append-drop a.len a.directions) in
    λ i. record { len = l i; directions = t i }
