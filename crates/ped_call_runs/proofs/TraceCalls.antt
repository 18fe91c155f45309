-- CALLs of any depth count as their blocks and the arguments that are no statements there.
use Rattle.std.proofs.Common.{◌≡◌, ℕ, zero, suc, ◌+◌, ◌≤◌, ◌<◌, ℤ, List, [], ◌∷◌, ◌++◌, length, Bool, true, false, Option, Some, None, refl, sym, ap, ◌∙◌, subst, arith, if◌then◌else◌}
use Rattle.ped_tree.specs.Accesses.{listed}
use Rattle.ped_tree.specs.Numbering.{statement_count, statements_count}
use Rattle.ped_tree.specs.Tree.{ExprTree, ExprTrees, no_exprs, more_exprs, StmtTree, StmtTrees}
use Rattle.ped_steps.specs.ped_symbols.specs.Values.{Values, fixed_value}
use Rattle.ped_calls.specs.ped_units.specs.Forms.{Called}
use Rattle.ped_calls.specs.ped_units.specs.Units.{ProgramUnit, ProgramUnits, unit_of}
use Rattle.ped_calls.specs.ped_units.specs.Expanding.{Given, with_new, Meanings, all_replaced, called_replaced, is_variable_name, Bound, standing, bound_by, bound_arguments, meanings_in, behind_stmts, call_comment, block_of, all_expanded_in, unit_expanded, call_expanded}
use Rattle.ped_call_runs.specs.UnitRuns.{number_inside, all_sized, size_in, call_size}
use Rattle.ped_call_runs.proofs.EachCalls.{UnitFits, FitsAt}
use Rattle.ped_call_runs.proofs.Traces.{Trace, arguments_traced, all_traced, unit_traced, call_traced}
use Rattle.ped_call_runs.proofs.TraceNumbers.{lie_wider, lie_joined, length_joined, IsCounted, all_counted, AreCounted, arguments_counted}

-- replaced arguments are as many
pub as_many : (k : Meanings) (es : ExprTrees) → length (listed (all_replaced k es)) ≡ length (listed es)
as_many k no_exprs = refl
as_many k (more_exprs e rest) = ap suc (as_many k rest)

none_made : (n : ℕ) → n ≡ 0 + n
none_made n = omega (arith)

one_made : (a b c : ℕ) → a ≡ b + c → 1 + a ≡ suc b + c
one_made a b c h = omega (arith, h)

-- the assignments of a block count one each
pub front_counts : (constants : Values) (es : List ExprTree) (g : Given) (body : StmtTrees)
    → statements_count (behind_stmts (bound_arguments constants es g).assignments body) ≡ length (bound_arguments constants es g).assignments + statements_count body
front_counts constants [] g body = none_made (statements_count body)
front_counts constants (e ∷ es) g body = go (is_variable_name constants e) (fixed_value constants e) (λ g. front_counts constants es g body)
  where
    go : (u : Bool) (o : Option ℤ) → ((g : Given) → statements_count (behind_stmts (bound_arguments constants es g).assignments body) ≡ length (bound_arguments constants es g).assignments + statements_count body)
        → statements_count (behind_stmts (if u then standing e (bound_arguments constants es g) else bound_by o e g (bound_arguments constants es)).assignments body)
        ≡ length (if u then standing e (bound_arguments constants es g) else bound_by o e g (bound_arguments constants es)).assignments + statements_count body
    go true o more = more g
    go false (Some v) more = more g
    go false None more = one_made (statements_count (behind_stmts (bound_arguments constants es (with_new g)).assignments body)) (length (bound_arguments constants es (with_new g)).assignments) (statements_count body) (more (with_new g))

-- the block of a CALL counts one more than its statements
pub block_count : (c : Called) (made : List StmtTree) (body : StmtTrees) → statement_count (block_of c made body) ≡ statements_count (behind_stmts made body) + 1
block_count c made body = go (statements_count (behind_stmts made body))
  where
    go : (n : ℕ) → 0 + n + 0 + 1 ≡ n + 1
    go n = omega (arith)

block_sizes : (arguments inside made body x y z : ℕ) → arguments ≡ made + x → inside ≡ body + y → z ≡ x + y → 0 + 1 + arguments + inside ≡ made + body + 1 + z
block_sizes arguments inside made body x y z h k l = omega (arith, h, k, l)

-- numbers in the block of the CALL with number j, whose first statement is the comment
behind_first : (j : ℕ) → j < j + 1 + 0
behind_first j = omega (arith)

refl_le : (j : ℕ) → j ≤ j
refl_le j = omega (arith)

front_within : (j made body : ℕ) → j + 1 + 0 + made ≤ j + (made + body + 1)
front_within j made body = omega (arith)

begin_within : (j made : ℕ) → j ≤ j + 1 + 0 + made
begin_within j made = omega (arith)

body_within : (j made body : ℕ) → j + 1 + 0 + made + body ≤ j + (made + body + 1)
body_within j made body = omega (arith)

module _ (us : ProgramUnits) where
  -- the arguments as they are bound
  abbrev bound_in : Values → Meanings → Called → Given → Bound
  bound_in constants k c g = bound_arguments constants (listed (called_replaced k c).arguments) g

  abbrev meant_in : Values → Meanings → Called → Given → ProgramUnit → Meanings
  meant_in constants k c g v = (meanings_in v (bound_in constants k c g)).meanings

  unit_counts : (depth : ℕ) → ((k : Meanings) (c : Called) → FitsAt us depth c → (n j : ℕ) (g : Given) → IsCounted j (call_size depth us c) (statement_count (call_expanded depth us [] (called_replaced k c) g).statement) (call_traced depth us [] k c n j g))
      → (constants : Values) (k : Meanings) (c : Called) (n j : ℕ) (g : Given) (o : Option ProgramUnit) → UnitFits (FitsAt us depth) c o
      → IsCounted j (size_in (call_size depth us) c o) (statement_count (unit_expanded (call_expanded depth us []) constants (called_replaced k c) g o).statement) (unit_traced depth us (call_traced depth us []) k constants c n j g o)
  unit_counts depth deeper constants k c n j g None h = record { sizes = refl; range = tt }
  unit_counts depth deeper constants k c n j g (Some v) h =
      let es : List ExprTree = listed (called_replaced k c).arguments in
      let b : Bound = bound_in constants k c g in
      let m : Meanings = meant_in constants k c g v in
      let behind : Given = (meanings_in v b).given in
      let made : ℕ = length b.assignments in
      let body : StmtTrees = (all_expanded_in m (call_expanded depth us []) v.tree.body behind).statements in
      let first : ℕ = j + 1 + statement_count (call_comment (called_replaced k c)) in
      let arguments : Trace = arguments_traced constants n v.formals es first g in
      let inside : Trace = all_traced m (call_size depth us) (call_expanded depth us []) (call_traced depth us [] m) v.tree.body (number_inside c n) (first + made) behind in
      let many : length es ≡ length (listed c.arguments) = as_many k c.arguments in
      let a : AreCounted j first (length es) b arguments = arguments_counted constants n j v.formals es (many ∙ h.0) first (behind_first j) g in
      let r : IsCounted (first + made) (all_sized (call_size depth us) v.tree.body) (statements_count body) inside =
      all_counted m (call_size depth us) (call_expanded depth us []) (call_traced depth us [] m) (FitsAt us depth) (deeper m) v.tree.body (number_inside c n) (first + made) behind h.2 in
      let whole : statement_count (block_of (called_replaced k c) b.assignments body) ≡ made + statements_count body + 1 = block_count (called_replaced k c) b.assignments body ∙ ap (λ (z : ℕ). z + 1) (front_counts constants es g body) in
      let gaps : length (arguments.gaps ++ inside.gaps) ≡ length arguments.gaps + length inside.gaps = length_joined arguments.gaps inside.gaps in
      subst (λ (z : ℕ). IsCounted j (size_in (call_size depth us) c (Some v)) z (unit_traced depth us (call_traced depth us []) k constants c n j g (Some v))) (sym whole)
      (record {
        sizes = block_sizes (length (listed c.arguments)) (all_sized (call_size depth us) v.tree.body) made (statements_count body) (length arguments.gaps) (length inside.gaps) (length (arguments.gaps ++ inside.gaps)) (sym many ∙ a.sizes) r.sizes gaps;
        range = lie_joined j (j + (made + statements_count body + 1)) arguments.gaps inside.gaps
            (lie_wider j (first + made) j (j + (made + statements_count body + 1)) arguments.gaps (refl_le j) (front_within j made (statements_count body)) a.range)
            (lie_wider (first + made) (first + made + statements_count body) j (j + (made + statements_count body + 1)) inside.gaps (begin_within j made) (body_within j made (statements_count body)) r.range);
      })

  -- CALLs of any depth
  pub calls_count : (depth : ℕ) (constants : Values) (k : Meanings) (c : Called) → FitsAt us depth c → (n j : ℕ) (g : Given)
      → IsCounted j (call_size depth us c) (statement_count (call_expanded depth us constants (called_replaced k c) g).statement) (call_traced depth us constants k c n j g)
  calls_count zero constants k c h n j g = record { sizes = refl; range = tt }
  calls_count (suc depth) constants k c h n j g = unit_counts depth (calls_count depth []) constants k c n j g (unit_of us c.name) h
