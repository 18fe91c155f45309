-- An array in the place of a scalar in a DO with constant bounds: the new program, and where it may come (Allen and Kennedy, section 5.3; this project).
use Rattle.std.specs.Prelude.{◌≡◌, ℕ, ℤ, unsigned_abs, nat_lt, List, ◌∷◌, Bool, true, false, Some}
use Rattle.std.specs.Int.{int_min, int_max}
use Rattle.ped_base.specs.Lists.{is_among}
use Rattle.ped_tree.specs.Tree.{ExprTree, Var, Element, no_exprs, more_exprs, Head, StmtTree, StmtTrees, Assign, Do, no_stmts, more_stmts, ProgramTree}
use Rattle.ped_tree.specs.Nests.{Loop, indices_of}
use Rattle.ped_tree.specs.Constants.ConstantExpressions.{constant_value}
use Rattle.ped_rules.specs.ped_symbols.specs.Kinds.{kind_in, names_of, table_of}
use Rattle.ped_rules.specs.ped_symbols.specs.RightUses.RightUses.{is_scalar}
use Rattle.ped_tree.specs.NamesIn.{loop_variables}
use Rattle.ped_symbolic.specs.Arithmetic.{literal}
use Rattle.ped_symbolic.specs.Substitution.{statements_substituted}
use Rattle.ped_rules.specs.ped_laws.specs.Acts.Orders.{IsIn}
use Rattle.ped_tree.specs.NamesIn.{all_loop_variables}
use Rattle.ped_rules.specs.ped_flow.specs.PlainBounds.{nest_round}
use Rattle.ped_rules.specs.ped_flow.specs.Questions.{LoopOf, IsExposed, IsLiveAfter, IsAssignedThrough}
use Rattle.ped_rules.specs.ped_steps.specs.Replacing.{all_replaced}
use Rattle.ped_rules.specs.ped_steps.specs.Runs.Substituting.{element_at}
use Rattle.ped_tree.specs.NamesIn.{private_names_in}
use Rattle.ped_rules.specs.ped_steps.specs.Runs.Expanding.{has_iteration, last_value, with_array}

-- the array's element at a number, in a program (ANSI X3.9-1978, section 5.3)
abbrev pub element_expr : List ℕ → ℤ → ExprTree
element_expr array n = Element array (more_exprs (literal n) no_exprs)

-- the body of a DO with the element at its variable in the place of a scalar (Allen and Kennedy, section 5.3)
abbrev pub body_with : List ℕ → List ℕ → Head → StmtTrees → StmtTrees
body_with x array h body = statements_substituted x (element_at array h.variable) body

-- what follows the DO: where the scalar is live there, it gets what its last element holds (Allen and Kennedy, section 5.3)
abbrev pub kept_value : Bool → List ℕ → List ℕ → ℤ → StmtTrees
kept_value true x array last = more_stmts (Assign (Var x) (element_expr array last)) no_stmts
kept_value false x array last = no_stmts

-- the DO with the element in the place of the scalar, and what follows it (Allen and Kennedy, section 5.3)
abbrev pub new_statements : List ℕ → List ℕ → Bool → ℤ → Head → StmtTrees → StmtTrees
new_statements x array live last h body = more_stmts (Do h (body_with x array h body)) (kept_value live x array last)

-- the program in which an array has come for a scalar in the DO with number l, whose values go from m1 towards m2 in steps of m3 (Allen and Kennedy, section 5.3; this project)
abbrev pub expanded_by : ProgramTree → ℕ → (StmtTree → StmtTrees) → List ℕ → ℤ → ℤ → ℤ → ProgramTree
expanded_by t l by array m1 m2 m3 = with_array t (all_replaced by l t.body 1) array (int_min m1 (last_value m1 m2 m3)) (int_max m1 (last_value m1 m2 m3))

-- a DO with this number is around the statement with number l (ANSI X3.9-1978, section 11.10)
abbrev pub IsRound : ProgramTree → ℕ → ℕ → Type 0
IsRound t l n = (m : Loop) × IsIn m (nest_round t l) × (m.number ≡ n)

-- an array of this name may come for a scalar in a DO: the DO is no PARALLEL DO; its bounds are constant, and it has an iteration; its first and its last value are literals; the scalar is no variable of the DO, of one around it or in it, private to none of these, and in no PARALLEL DO around it the variable of a DO; it isn't exposed, and where it is live it is assigned on each path through the body; the array's name doesn't occur (Allen and Kennedy, section 5.3; this project)
pub record MayExpand (t : ProgramTree) (l : ℕ) (loop : LoopOf t l) (x array : List ℕ) (live : Bool) (m1 m2 m3 : ℤ) : Type 0 where
  pub in_order : loop.head.parallel ≡ false
  pub scalar : is_scalar (kind_in t) x ≡ true
  pub round : is_among x (indices_of (nest_round t l)) ≡ false
  pub near : is_among x (loop_variables (Do loop.head loop.body)) ≡ false
  pub shared : is_among x (private_names_in (Do loop.head loop.body)) ≡ false
  pub shared_round : (n : ℕ) (m : LoopOf t n) → IsRound t l n → is_among x m.head.private ≡ false
  pub no_index : (n : ℕ) (m : LoopOf t n) → IsRound t l n → m.head.parallel ≡ true → is_among x (m.head.variable ∷ all_loop_variables m.body) ≡ false
  pub unexposed : (n : ℕ) → IsExposed t l x n → ⊥
  pub dead : live ≡ false → IsLiveAfter t l x → ⊥
  pub through : live ≡ true → IsAssignedThrough t l x
  pub new : is_among array (names_of t) ≡ false
  pub first : constant_value (table_of t).constants loop.head.first ≡ Some m1
  pub last : constant_value (table_of t).constants loop.head.last ≡ Some m2
  pub step : constant_value (table_of t).constants loop.head.step ≡ Some m3
  pub some : has_iteration m1 m2 m3 ≡ true
  pub near_first : nat_lt 2147483647 (unsigned_abs m1) ≡ false
  pub near_last : nat_lt 2147483647 (unsigned_abs (last_value m1 m2 m3)) ≡ false
