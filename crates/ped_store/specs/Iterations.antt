-- How iterations are kept, and what a hasher is fed of them (this project).
use Rattle.std.specs.Prelude.{◌≡◌, ℕ, ◌+◌, ◌-◌, ◌*◌, ◌%◌, ◌^◌, ◌≤◌, List, [], ◌∷◌, ◌++◌, length, take, drop, replicate}
use Rattle.std.specs.Hash as fed
use Rattle.std.proofs.Common.{arith}
use Rattle.std.proofs.lemmas.List.{length-take-le, take-append-drop}
use Rattle.ped_store.specs.Cells.{Iteration}
use Rattle.ped_store.specs.declared.iterations.Iterations.TheInside.{Inside}

-- what is where no iteration is
abbrev pub no_iteration : Iteration
no_iteration = record { statement = 0; number = 0 }

-- at most six iterations at the front, and none after them
pub record IsIterations (a : Inside) : Type 0 where
  pub few : a.depth ≤ 6
  pub long : length a.items ≡ 6
  pub rest : drop a.depth a.items ≡ replicate (6 - a.depth) no_iteration

-- how iterations are kept
abbrev pub inside : List Iteration → Inside
inside is = record { depth = length is; items = is ++ replicate (6 - length is) no_iteration }

-- iterations that are taken out and kept again are the same
pub inside_back : (a : Inside) → IsIterations a → inside (take a.depth a.items) ≡ a
inside_back a h =
    let l : length (take a.depth a.items) ≡ a.depth = length-take-le a.depth a.items (omega (arith, h.long, h.few)) in
    let t : take a.depth a.items ++ replicate (6 - length (take a.depth a.items)) no_iteration ≡ a.items =
    rw (l, ← h.rest) (take-append-drop a.depth a.items) in
    λ i. record { depth = l i; items = t i }

-- one number for the numbers of iterations, below 2 ^ 64
abbrev pub mixed : List Iteration → ℕ
mixed [] = 0
mixed (i ∷ is) = (mixed is * 6364136223846793005 % 2 ^ 64 + i.number) % 2 ^ 64

-- what a hasher is fed of iterations
abbrev pub iterations_writes : List Iteration → fed.HashWrites
iterations_writes is = fed.u64 (mixed is)
