-- What evaluations read, from their parts.
use Rattle.std.proofs.Common.{◌≡◌, ℕ, ℤ, List, [], ◌∷◌, ◌++◌, not, ◌&&◌, ◌||◌, map, refl, sym, ap, Ok, Err, Option, Some, None}
use Rattle.std.specs.Prelude.{Result}
use Rattle.std.proofs.lemmas.List.{append-nil}
use Rattle.ped_base.specs.Arithmetic.Arithmetic.{sum_of, difference_of, negation_of, product_of, quotient_of, power_of}
use Rattle.ped_tree.specs.Constants.ConstantExpressions.{intrinsic_result}
use Rattle.ped_tree.specs.Constants.NamedConstants.{value_named}
use Rattle.ped_tree.specs.declared.expressions.Expr.{Expr}
use Rattle.ped_tree.specs.declared.expressions.Intrinsic.{Intrinsic}
use Rattle.ped_tree.specs.declared.conditions.Relation.{Relation}
use Rattle.ped_tree.specs.Tree.{ExprTree, Int, Var, Element, Neg, Add, Sub, Mul, Div, Pow, Call, CondTree, Rel, Not, And, Or}
use Rattle.ped_tree.specs.Views.{pack_exprs, expr_tree}
use Rattle.ped_store.specs.Cells.{Cell}
use Rattle.ped_store.specs.Stores.{Store}
use Rattle.ped_store.specs.Keeping.{memory_of}
use Rattle.ped_eval.specs.Scopes.{Names, cell_of, index_value}
use Rattle.ped_eval.specs.ScopeViews.{names_at}
use Rattle.ped_eval.specs.Evaluation.{Seen, Evaluated, onward, ◌>>>◌, given, by_number, read_cell}
use Rattle.ped_eval.specs.Values.{of_intrinsic, name_value, variable_value, element_cell, value, values, truth, relation_holds}
use Rattle.ped_eval.specs.declared.surroundings.Surroundings.{Surroundings}
use Rattle.ped_eval.specs.Results.{value_at, target_at, truth_at}
use Rattle.ped_eval.proofs.Levels.{IsOperation}
use Rattle.ped_eval.specs.Noting.{seen_next, read_within, seen_at, all_seen_at, target_seen_at, truth_seen_at}

-- what an operation on one value reads
pub one_seen : {A B : Type 0} (f : A → Result B ℕ) (a : Evaluated A) → (a >>> λ u. given (f u)).seen ≡ a.seen
one_seen f a = go a.seen a.result
  where
    go : (seen : List Seen) (r : Result _ ℕ) → (onward seen r (λ u. given (f u))).seen ≡ seen
    go seen (Ok u) = append-nil seen
    go seen (Err n) = refl

-- what an operation on two values reads
pub two_seen : {A B C : Type 0} (f : A → B → Result C ℕ) (a : Evaluated A) (b : Evaluated B) → (a >>> λ u. b >>> λ v. given (f u v)).seen ≡ a.seen ++ seen_next a.result b.seen
two_seen f a b = go a.seen a.result
  where
    go : (seen : List Seen) (r : Result _ ℕ) → (onward seen r (λ u. b >>> λ v. given (f u v))).seen ≡ seen ++ seen_next r b.seen
    go seen (Ok u) = ap (λ (more : List Seen). seen ++ more) (one_seen (f u) b)
    go seen (Err n) = sym (append-nil seen)

-- what an element reads: its subscripts, and then itself where it lies within its bounds
within_seen : (r : Evaluated (List ℤ)) (f : List ℤ → Result Cell ℕ) (s : Store) → (r >>> λ js. given (f js) >>> read_cell s).seen ≡ r.seen ++ read_within s (r >>> λ js. given (f js)).result
within_seen r f s = go r.seen r.result
  where
    tested : (c : Result Cell ℕ) → (given c >>> read_cell s).seen ≡ read_within s c
    tested (Ok c) = refl
    tested (Err n) = refl

    go : (seen : List Seen) (r : Result (List ℤ) ℕ) → (onward seen r (λ js. given (f js) >>> read_cell s)).seen ≡ seen ++ read_within s (onward seen r (λ js. given (f js))).result
    go seen (Ok js) = ap (λ (more : List Seen). seen ++ more) (tested (f js))
    go seen (Err n) = sym (append-nil seen)

-- no element
abbrev pub IsPlain : ExprTree → Type 0
IsPlain (Element x ts) = ⊥
IsPlain e = Unit {0}

pub operation_plain : (t : ExprTree) → IsOperation t → IsPlain t
operation_plain (Int n) h = tt
operation_plain (Var x) h = tt
operation_plain (Element x ts) h = absurd h
operation_plain (Neg a) h = tt
operation_plain (Add a b) h = tt
operation_plain (Sub a b) h = tt
operation_plain (Mul a b) h = tt
operation_plain (Div a b) h = tt
operation_plain (Pow a b) h = tt
operation_plain (Call f ts) h = tt

module _ (around : Surroundings) where
  abbrev g : Names
  g = names_at (memory_of around.store.now) around.scope.now around.consts.now

  abbrev s : Store
  s = (memory_of around.store.now).cells

  pub int_seen : (n : ℕ) → seen_at around (Int n) ≡ []
  unfolding seen_at
  int_seen n = refl

  pub neg_seen : (a : ExprTree) → seen_at around (Neg a) ≡ seen_at around a
  unfolding seen_at
  neg_seen a = one_seen (λ u. by_number (negation_of u)) (value g a s)

  pub add_seen : (a b : ExprTree) → seen_at around (Add a b) ≡ seen_at around a ++ seen_next (value_at around a) (seen_at around b)
  unfolding seen_at value_at
  add_seen a b = two_seen (λ u v. by_number (sum_of u v)) (value g a s) (value g b s)

  pub sub_seen : (a b : ExprTree) → seen_at around (Sub a b) ≡ seen_at around a ++ seen_next (value_at around a) (seen_at around b)
  unfolding seen_at value_at
  sub_seen a b = two_seen (λ u v. by_number (difference_of u v)) (value g a s) (value g b s)

  pub mul_seen : (a b : ExprTree) → seen_at around (Mul a b) ≡ seen_at around a ++ seen_next (value_at around a) (seen_at around b)
  unfolding seen_at value_at
  mul_seen a b = two_seen (λ u v. by_number (product_of u v)) (value g a s) (value g b s)

  pub div_seen : (a b : ExprTree) → seen_at around (Div a b) ≡ seen_at around a ++ seen_next (value_at around a) (seen_at around b)
  unfolding seen_at value_at
  div_seen a b = two_seen (λ u v. by_number (quotient_of u v)) (value g a s) (value g b s)

  pub pow_seen : (a b : ExprTree) → seen_at around (Pow a b) ≡ seen_at around a ++ seen_next (value_at around a) (seen_at around b)
  unfolding seen_at value_at
  pow_seen a b = two_seen (λ u v. by_number (power_of u v)) (value g a s) (value g b s)

  pub call_seen : (f : Intrinsic) (es : List Expr) → seen_at around (Call f (pack_exprs (map expr_tree es))) ≡ all_seen_at around es
  unfolding seen_at all_seen_at
  call_seen f es = one_seen (λ us. of_intrinsic (intrinsic_result f us)) (values g (pack_exprs (map expr_tree es)) s)

  pub element_seen : (x : List ℕ) (es : List Expr) → seen_at around (Element x (pack_exprs (map expr_tree es))) ≡ all_seen_at around es ++ read_within (memory_of around.store.now).cells (target_at around (Element x (pack_exprs (map expr_tree es))))
  unfolding seen_at all_seen_at target_at
  element_seen x es = within_seen (values g (pack_exprs (map expr_tree es)) s) (element_cell g x) s

  pub none_seen : all_seen_at around [] ≡ []
  unfolding all_seen_at
  none_seen = refl

  pub more_seen : (e : Expr) (es : List Expr) → all_seen_at around (e ∷ es) ≡ seen_at around (expr_tree e) ++ seen_next (value_at around (expr_tree e)) (all_seen_at around es)
  unfolding seen_at all_seen_at value_at
  more_seen e es = two_seen (λ u us. Ok (u ∷ us)) (value g (expr_tree e) s) (values g (pack_exprs (map expr_tree es)) s)

  pub constant_seen : (x : List ℕ) (n : ℤ) → value_named around.consts.now x ≡ Some n → seen_at around (Var x) ≡ []
  unfolding seen_at
  constant_seen x n h = ap (λ (o : Option ℤ). (name_value o g x s).seen) h

  pub variable_seen : (x : List ℕ) → value_named around.consts.now x ≡ None → seen_at around (Var x) ≡ (variable_value (index_value around.scope.now x) (memory_of around.store.now).cells (cell_of around.scope.now x)).seen
  unfolding seen_at
  variable_seen x h = ap (λ (o : Option ℤ). (name_value o g x s).seen) h

  pub element_target_seen : (x : List ℕ) (es : List Expr) → target_seen_at around (Element x (pack_exprs (map expr_tree es))) ≡ all_seen_at around es
  unfolding target_seen_at all_seen_at
  element_target_seen x es = one_seen (element_cell g x) (values g (pack_exprs (map expr_tree es)) s)

  -- other left sides have no subscripts
  pub plain_target_seen : (t : ExprTree) → IsPlain t → target_seen_at around t ≡ []
  unfolding target_seen_at
  plain_target_seen (Int n) h = refl
  plain_target_seen (Var x) h = refl
  plain_target_seen (Element x ts) h = absurd h
  plain_target_seen (Neg a) h = refl
  plain_target_seen (Add a b) h = refl
  plain_target_seen (Sub a b) h = refl
  plain_target_seen (Mul a b) h = refl
  plain_target_seen (Div a b) h = refl
  plain_target_seen (Pow a b) h = refl
  plain_target_seen (Call f ts) h = refl

  pub rel_seen : (r : Relation) (a b : ExprTree) → truth_seen_at around (Rel r a b) ≡ seen_at around a ++ seen_next (value_at around a) (seen_at around b)
  unfolding truth_seen_at seen_at value_at
  rel_seen r a b = two_seen (λ u v. Ok (relation_holds r u v)) (value g a s) (value g b s)

  pub not_seen : (a : CondTree) → truth_seen_at around (Not a) ≡ truth_seen_at around a
  unfolding truth_seen_at
  not_seen a = one_seen (λ u. Ok (not u)) (truth g a s)

  pub and_seen : (a b : CondTree) → truth_seen_at around (And a b) ≡ truth_seen_at around a ++ seen_next (truth_at around a) (truth_seen_at around b)
  unfolding truth_seen_at truth_at
  and_seen a b = two_seen (λ u v. Ok (u && v)) (truth g a s) (truth g b s)

  pub or_seen : (a b : CondTree) → truth_seen_at around (Or a b) ≡ truth_seen_at around a ++ seen_next (truth_at around a) (truth_seen_at around b)
  unfolding truth_seen_at truth_at
  or_seen a b = two_seen (λ u v. Ok (u || v)) (truth g a s) (truth g b s)
