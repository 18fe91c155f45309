-- Names at two places that stand for the same, but for one: an expression without that one has the same value.
use Rattle.std.proofs.Common.{Bool, Err, List, None, Ok, Option, Some, false, if◌then◌else◌, length, refl, sym, true, ℕ, ℤ, ◌&&◌, ◌++◌, ◌||◌, ◌∙◌, ◌∷◌, ◌≡◌}
use Rattle.ped_base.specs.Arithmetic.Arithmetic.{difference_of, negation_of, power_of, product_of, quotient_of, sum_of}
use Rattle.ped_base.specs.Lists.{is_among, is_same_text}
use Rattle.ped_loop_runs.specs.ped_eval.specs.Evaluation.{given, read_cell, ◌>>>◌}
use Rattle.ped_loop_runs.specs.ped_eval.specs.Loops.{in_bounds, limits}
use Rattle.ped_loop_runs.specs.ped_eval.specs.Scopes.{Names, Scope, cell_of, index_value, turns_of}
use Rattle.ped_loop_runs.specs.ped_eval.specs.Values.{binary, is_rank, name_value, of_intrinsic, unary, value, values, variable_value}
use Rattle.ped_loop_runs.specs.ped_store.specs.Storage.{is_within}
use Rattle.ped_loop_runs.specs.ped_store.specs.Stores.{Store, outside_bounds}
use Rattle.ped_tree.proofs.NameLaws.Collected.{among_append}
use Rattle.ped_tree.specs.Constants.ConstantExpressions.{intrinsic_result}
use Rattle.ped_tree.specs.Constants.NamedConstants.{value_named}
use Rattle.ped_tree.specs.NamesIn.{expr_names, exprs_names}
use Rattle.ped_tree.specs.Tree.{Add, Call, Div, Element, ExprTree, ExprTrees, Head, Int, Mul, Neg, Pow, Sub, Var, more_exprs, no_exprs}
use Rattle.ped_loop_runs.specs.ped_store.specs.Cells as cells

or_none : (a b : Bool) → a || b ≡ false → (a ≡ false) × (b ≡ false)
or_none true b e = absurd cc
or_none false b e = (refl, e)

-- two places in the same iterations, where all names but one stand for the same
pub record AreBeside (w : List ℕ) (scope other : Scope) : Type 0 where
  pub turns : turns_of other ≡ turns_of scope
  pub index : (x : List ℕ) → index_value other x ≡ index_value scope x
  pub cell : (x : List ℕ) → is_same_text w x ≡ false → cell_of other x ≡ cell_of scope x

-- names stand for the same, but for this one
pub record AgreeBut (w : List ℕ) (g z : Names) : Type 0 where
  pub constants : z.constants ≡ g.constants
  pub bounds : (y : List ℕ) → is_same_text w y ≡ false → z.bounds y ≡ g.bounds y
  pub cell : (y : List ℕ) → is_same_text w y ≡ false → z.cell y ≡ g.cell y
  pub index : (y : List ℕ) → is_same_text w y ≡ false → z.index y ≡ g.index y

module _ (w : List ℕ) (g z : Names) (agree : AgreeBut w g z) (s : Store) where
  neither : (xs ys : List (List ℕ)) → is_among w (xs ++ ys) ≡ false → (is_among w xs ≡ false) × (is_among w ys ≡ false)
  neither xs ys h = or_none (is_among w xs) (is_among w ys) (sym (among_append w xs ys) ∙ h)

  name_but : (x : List ℕ) → is_same_text w x ≡ false → (o : Option ℤ) → name_value o z x s ≡ name_value o g x s
  name_but x apart (Some n) = refl
  name_but x apart None = λ i. variable_value (agree.index x apart i) s (agree.cell x apart i)

  mutual
    pub value_but : (e : ExprTree) → is_among w (expr_names e) ≡ false → value z e s ≡ value g e s
    value_but (Int n) h = refl
    value_but (Var x) h = (λ i. name_value (value_named (agree.constants i) x) z x s) ∙ name_but x (or_none (is_same_text w x) false h).0 (value_named g.constants x)
    value_but (Element x es) h =
        let parts = or_none (is_same_text w x) (is_among w (exprs_names es)) h in
        λ i. values_but es parts.1 i >>> λ js. given (if is_rank (length js) && is_within (agree.bounds x parts.0 i) js then Ok (cells.Element x js) else Err outside_bounds) >>> read_cell s
    value_but (Neg a) h = λ i. unary negation_of (value_but a h i)
    value_but (Add a b) h = let parts = neither (expr_names a) (expr_names b) h in λ i. binary sum_of (value_but a parts.0 i) (value_but b parts.1 i)
    value_but (Sub a b) h = let parts = neither (expr_names a) (expr_names b) h in λ i. binary difference_of (value_but a parts.0 i) (value_but b parts.1 i)
    value_but (Mul a b) h = let parts = neither (expr_names a) (expr_names b) h in λ i. binary product_of (value_but a parts.0 i) (value_but b parts.1 i)
    value_but (Div a b) h = let parts = neither (expr_names a) (expr_names b) h in λ i. binary quotient_of (value_but a parts.0 i) (value_but b parts.1 i)
    value_but (Pow a b) h = let parts = neither (expr_names a) (expr_names b) h in λ i. binary power_of (value_but a parts.0 i) (value_but b parts.1 i)
    value_but (Call f es) h = λ i. values_but es h i >>> λ us. given (of_intrinsic (intrinsic_result f us))

    values_but : (es : ExprTrees) → is_among w (exprs_names es) ≡ false → values z es s ≡ values g es s
    values_but no_exprs h = refl
    values_but (more_exprs e rest) h = let parts = neither (expr_names e) (exprs_names rest) h in λ i. value_but e parts.0 i >>> λ u. values_but rest parts.1 i >>> λ us. given (Ok (u ∷ us))

  pub limits_but : (h : Head) → is_among w (expr_names h.first) ≡ false → is_among w (expr_names h.last) ≡ false → limits z h s ≡ limits g h s
  limits_but h first last = λ i. value_but h.first first i >>> λ u. given (in_bounds u) >>> λ m. value_but h.last last i >>> λ v. given (in_bounds v) >>> λ n. given (Ok (record { first = m; last = n }))
