-- Evaluations are the same in stores that hold the same where they read.
use Rattle.std.proofs.Common.{◌≡◌, ℕ, ℤ, List, [], ◌∷◌, length, Bool, true, false, not, ◌&&◌, ◌||◌, Option, Some, None, Ok, Err, if◌then◌else◌, refl}
use Rattle.ped_base.specs.Arithmetic.Arithmetic.{sum_of, difference_of, negation_of, product_of, quotient_of, power_of}
use Rattle.ped_tree.specs.Constants.NamedConstants.{value_named}
use Rattle.ped_tree.specs.Constants.ConstantExpressions.{intrinsic_result}
use Rattle.ped_tree.specs.Tree.{ExprTree, ExprTrees, Int, Var, Neg, Add, Sub, Mul, Div, Pow, Call, no_exprs, more_exprs, CondTree, Rel, Not, And, Or}
use Rattle.ped_tree.specs.Tree as tree
use Rattle.ped_store.specs.Cells.{Cell, Element}
use Rattle.ped_store.specs.Stores.{Store, number_read, outside_bounds}
use Rattle.ped_store.specs.Storage.{is_within}
use Rattle.ped_eval.specs.Scopes.{Names}
use Rattle.ped_eval.specs.Evaluation.{◌>>>◌, given, cell_seen, read_cell}
use Rattle.ped_eval.specs.Values.{unary, binary, variable_value, name_value, is_rank, element_cell, of_intrinsic, value, values, relation_holds, truth, target}

-- two stores hold the same where names stand for cells
pub record IsSameFor (g : Names) (u s : Store) : Type 0 where
  pub scalars : (x : List ℕ) → u (g.cell x) ≡ s (g.cell x)
  pub elements : (x : List ℕ) (js : List ℤ) → u (Element x js) ≡ s (Element x js)

same_read : (c : Cell) (u s : Store) → u c ≡ s c → read_cell u c ≡ read_cell s c
same_read c u s h = λ i. record { seen = cell_seen c (h i) ∷ []; result = number_read (h i) }

same_variable : (o : Option ℤ) (c : Cell) (u s : Store) → u c ≡ s c → variable_value o u c ≡ variable_value o s c
same_variable (Some n) c u s h = refl
same_variable None c u s h = same_read c u s h

same_name : (o : Option ℤ) (g : Names) (x : List ℕ) (u s : Store) → IsSameFor g u s → name_value o g x u ≡ name_value o g x s
same_name (Some n) g x u s h = refl
same_name None g x u s h = same_variable (g.index x) (g.cell x) u s (h.scalars x)

same_element : (b : Bool) (x : List ℕ) (js : List ℤ) (u s : Store) → u (Element x js) ≡ s (Element x js)
    → given (if b then Ok (Element x js) else Err outside_bounds) >>> read_cell u ≡ given (if b then Ok (Element x js) else Err outside_bounds) >>> read_cell s
same_element true x js u s h = λ i. given (Ok (Element x js)) >>> λ c. same_read (Element x js) u s h i
same_element false x js u s h = refl

mutual
  pub same_value : (g : Names) (u s : Store) → IsSameFor g u s → (e : ExprTree) → value g e u ≡ value g e s
  same_value g u s h (Int n) = refl
  same_value g u s h (Var x) = same_name (value_named g.constants x) g x u s h
  same_value g u s h (tree.Element x subscripts) = λ i. same_values g u s h subscripts i >>> λ js. same_element (is_rank (length js) && is_within (g.bounds x) js) x js u s (h.elements x js) i
  same_value g u s h (Neg a) = λ i. unary negation_of (same_value g u s h a i)
  same_value g u s h (Add a b) = λ i. binary sum_of (same_value g u s h a i) (same_value g u s h b i)
  same_value g u s h (Sub a b) = λ i. binary difference_of (same_value g u s h a i) (same_value g u s h b i)
  same_value g u s h (Mul a b) = λ i. binary product_of (same_value g u s h a i) (same_value g u s h b i)
  same_value g u s h (Div a b) = λ i. binary quotient_of (same_value g u s h a i) (same_value g u s h b i)
  same_value g u s h (Pow a b) = λ i. binary power_of (same_value g u s h a i) (same_value g u s h b i)
  same_value g u s h (Call f arguments) = λ i. same_values g u s h arguments i >>> λ us. given (of_intrinsic (intrinsic_result f us))

  pub same_values : (g : Names) (u s : Store) → IsSameFor g u s → (es : ExprTrees) → values g es u ≡ values g es s
  same_values g u s h no_exprs = refl
  same_values g u s h (more_exprs e rest) = λ i. same_value g u s h e i >>> λ v. same_values g u s h rest i >>> λ vs. given (Ok (v ∷ vs))

pub same_truth : (g : Names) (u s : Store) → IsSameFor g u s → (c : CondTree) → truth g c u ≡ truth g c s
same_truth g u s h (Rel r a b) = λ i. same_value g u s h a i >>> λ v. same_value g u s h b i >>> λ w. given (Ok (relation_holds r v w))
same_truth g u s h (Not a) = λ i. same_truth g u s h a i >>> λ v. given (Ok (not v))
same_truth g u s h (And a b) = λ i. same_truth g u s h a i >>> λ v. same_truth g u s h b i >>> λ w. given (Ok (v && w))
same_truth g u s h (Or a b) = λ i. same_truth g u s h a i >>> λ v. same_truth g u s h b i >>> λ w. given (Ok (v || w))

pub same_target : (g : Names) (u s : Store) → IsSameFor g u s → (e : ExprTree) → target g e u ≡ target g e s
same_target g u s h (Int n) = refl
same_target g u s h (Var x) = refl
same_target g u s h (tree.Element x subscripts) = λ i. same_values g u s h subscripts i >>> λ js. given (element_cell g x js)
same_target g u s h (Neg a) = refl
same_target g u s h (Add a b) = refl
same_target g u s h (Sub a b) = refl
same_target g u s h (Mul a b) = refl
same_target g u s h (Div a b) = refl
same_target g u s h (Pow a b) = refl
same_target g u s h (Call f arguments) = refl
