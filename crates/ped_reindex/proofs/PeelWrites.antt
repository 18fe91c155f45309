-- A body with a literal for the variable of its DO: it has the same DO loops, it writes no name that it didn't, and C$PED REJECT stands nowhere else.
use Rattle.ped_rules.specs.ped_loop_runs.specs.Writing.{writes_left}
use Rattle.ped_rules.specs.ped_steps.specs.Replacing.{followed}
use Rattle.ped_rules.specs.ped_laws.specs.FlowRuns.Covering.{has_stop, some_stop}
use Rattle.ped_symbolic.specs.Arithmetic.{literal}
use Rattle.ped_tree.specs.Tree.{Int, Neg, StmtTrees, more_stmts, no_stmts}
use Rattle.std.proofs.Common.{Bool, List, ap, false, if◌then◌else◌, refl, true, unsigned_abs, ℕ, ℤ, ◌||◌, ◌∙◌, ◌≡◌}
use Rattle.std.specs.Int.{is_negative}

pub stops_followed : (a b : StmtTrees) → some_stop (followed a b) ≡ some_stop a || some_stop b
stops_followed no_stmts b = refl
stops_followed (more_stmts s rest) b = ap (λ (r : Bool). has_stop s || r) (stops_followed rest b) ∙ grouped (has_stop s) (some_stop rest) (some_stop b)
  where
    grouped : (p q r : Bool) → p || (q || r) ≡ (p || q) || r
    grouped true q r = refl
    grouped false q r = refl

-- a literal is written by nothing
pub literal_unwritten : (constants : List (List ℕ)) (w : List ℕ) (n : ℤ) → writes_left constants w (literal n) ≡ false
literal_unwritten constants w n = go (is_negative n)
  where
    go : (b : Bool) → writes_left constants w (if b then Neg (Int (unsigned_abs n)) else Int (unsigned_abs n)) ≡ false
    go true = refl
    go false = refl
