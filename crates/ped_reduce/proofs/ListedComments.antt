-- Comments that list names, before statements: they count for nothing.
use Rattle.std.proofs.Common.{◌≡◌, ℕ, ◌+◌, List, [], ◌∷◌, refl, ap, ◌∙◌, arith}
use Rattle.ped_tree.specs.Tree.{StmtTrees}
use Rattle.ped_tree.specs.NamesIn.{all_loop_variables}
use Rattle.ped_tree.specs.Numbering.{statements_count}
use Rattle.ped_rules.specs.ped_symbols.specs.Sites.{stmts_sites}
use Rattle.ped_rules.specs.ped_laws.specs.FlowRuns.Covering.{some_stop}
use Rattle.ped_rules.specs.ped_eval.specs.Runs.{run_all}
use Rattle.ped_rules.specs.ped_eval.specs.Scopes.{Setting, Scope}
use Rattle.ped_rules.specs.ped_loop_runs.specs.Unrejected.{some_rejection}
use Rattle.ped_rules.specs.ped_loop_runs.specs.Writing.{all_write, some_write_index}
use Rattle.ped_reduce.specs.Lists.{with_list}

-- they have no number
pub listed_count : (names : List (List ℕ)) (body : StmtTrees) → statements_count (with_list names body) ≡ statements_count body
listed_count [] body = refl
listed_count (x ∷ xs) body = let rest = listed_count xs body in omega (arith, rest)

-- no DO
pub listed_variables : (names : List (List ℕ)) (body : StmtTrees) → all_loop_variables (with_list names body) ≡ all_loop_variables body
listed_variables [] body = refl
listed_variables (x ∷ xs) body = listed_variables xs body

-- no names
pub listed_sites : (names : List (List ℕ)) (body : StmtTrees) → stmts_sites (with_list names body) ≡ stmts_sites body
listed_sites [] body = refl
listed_sites (x ∷ xs) body = listed_sites xs body

-- no STOP
pub listed_stop : (names : List (List ℕ)) (body : StmtTrees) → some_stop (with_list names body) ≡ some_stop body
listed_stop [] body = refl
listed_stop (x ∷ xs) body = listed_stop xs body

-- no C$PED REJECT
pub listed_rejection : (names : List (List ℕ)) (body : StmtTrees) → some_rejection (with_list names body) ≡ some_rejection body
listed_rejection [] body = refl
listed_rejection (x ∷ xs) body = listed_rejection xs body

-- they write nothing
pub listed_write : (constants : List (List ℕ)) (w : List ℕ) (names : List (List ℕ)) (body : StmtTrees) → all_write constants w (with_list names body) ≡ all_write constants w body
listed_write constants w [] body = refl
listed_write constants w (x ∷ xs) body = listed_write constants w xs body

pub listed_write_index : (constants : List (List ℕ)) (names : List (List ℕ)) (body : StmtTrees) → some_write_index constants (with_list names body) ≡ some_write_index constants body
listed_write_index constants [] body = refl
listed_write_index constants (x ∷ xs) body = listed_write_index constants xs body

-- they do nothing
pub listed_run : (p : Setting) (names : List (List ℕ)) (body : StmtTrees) (n : ℕ) (scope : Scope) → run_all p (with_list names body) n scope ≡ run_all p body n scope
listed_run p [] body n scope = refl
listed_run p (x ∷ xs) body n scope =
    let same : n + 0 ≡ n = omega arith in
    listed_run p xs body (n + 0) scope ∙ ap (λ (m : ℕ). run_all p body m scope) same
