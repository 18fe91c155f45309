-- What is lowered, as the code has it (this project).
use Rattle.std.specs.Prelude.{◌+◌, ◌-◌, ℕ, List, filter, not, codes}
use Rattle.ped_tree.specs.Tree.{ProgramTree}
use Rattle.ped_rules.specs.Fresh.{occurs, numbered_names, most_numbered}
use Rattle.ped_reduce.specs.declared.partials.Partials.{Partials as CodePartials}
use Rattle.ped_reduce.specs.Lowering.{Partials}

-- the arrays of a scalar
abbrev pub partials_view : CodePartials → Partials
partials_view p = record { scalar = p.scalar; high = p.high; low = p.low; flag = p.flag }

-- the names KX with numbers from n on that don't occur in the program
abbrev pub fresh_from : ProgramTree → ℕ → List (List ℕ)
fresh_from t n = filter (λ x. not (occurs t x)) (numbered_names (codes "KX") n (most_numbered + 1 - n))
