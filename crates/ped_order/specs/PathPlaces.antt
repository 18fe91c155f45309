-- How paths are kept (this project).
use Rattle.std.specs.Prelude.{◌≡◌, ℕ, ◌-◌, ◌≤◌, List, ◌++◌, length, take, drop, replicate, false}
use Rattle.std.proofs.Common.{arith}
use Rattle.std.proofs.lemmas.List.{length-take-le, take-append-drop}
use Rattle.ped_order.specs.declared.paths.Level.{Level}
use Rattle.ped_order.specs.declared.paths.Path.TheInside.{Inside}

-- what is where no iteration is
abbrev pub no_level : Level
no_level = record { statement = 0; parallel = false; number = 0 }

-- at most six iterations at the front, and none after them
pub record IsPath (a : Inside) : Type 0 where
  pub few : a.depth ≤ 6
  pub long : length a.levels ≡ 6
  pub rest : drop a.depth a.levels ≡ replicate (6 - a.depth) no_level

-- how iterations are kept
abbrev pub inside : List Level → Inside
inside ls = record { depth = length ls; levels = ls ++ replicate (6 - length ls) no_level }

-- iterations that are taken out and kept again are the same
pub inside_back : (a : Inside) → IsPath a → inside (take a.depth a.levels) ≡ a
inside_back a h =
    let l : length (take a.depth a.levels) ≡ a.depth = length-take-le a.depth a.levels (omega (arith, h.long, h.few)) in
    let t : take a.depth a.levels ++ replicate (6 - length (take a.depth a.levels)) no_level ≡ a.levels =
    rw (l, ← h.rest) (take-append-drop a.depth a.levels) in
    λ i. record { depth = l i; levels = t i }
