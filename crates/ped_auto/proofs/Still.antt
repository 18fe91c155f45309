-- The statement with a number is still there.
use Rattle.std.proofs.Common.{ℕ, ◌≤◌, arith}
use Rattle.ped_auto.specs.SerialLoops.{count_of}
use Rattle.ped_auto.specs.Editing.{Editing}
use Rattle.ped_auto.specs.Strategy.{Stage}
use Rattle.ped_auto.specs.CodeStages.{Leads, HasStatement}

pub still_there : {S : Type 0} (e : Editing S) (number : ℕ) (p q : Stage S) → Leads e p q → HasStatement e p.now number → HasStatement e q.now number
still_there e number p q lead h =
    let u = lead.grown h.0 h.1 in
    let first = h.2.0 in
    let within : number ≤ count_of h.0 = h.2.1 in
    let more : count_of h.0 ≤ count_of u.0 = u.2 in
    (u.0, u.1, (first, omega arith))
