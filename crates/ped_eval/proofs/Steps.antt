-- Results of evaluations, step by step.
use Rattle.std.proofs.Common.{◌≡◌, ℕ, suc, ◌+◌, ◌-◌, ◌<◌, ◌≤◌, ℤ, pos, List, [], ◌∷◌, ◌++◌, Bool, true, false, not, ◌&&◌, ◌||◌, length, map, take, drop, get_or, replicate, leb, refl, sym, ap, ◌∙◌, arith, append_assoc, Ok, Err, Option, Some, None, if◌then◌else◌}
use Rattle.std.specs.Prelude.{Result}
use Rattle.std.proofs.Math.ListN.{set, drop_of_length-le}
use Rattle.std.proofs.Math.Seq.{drop-cons}
use Rattle.std.proofs.lemmas.Bool.{and_parts, leb-true}
use Rattle.std.proofs.lemmas.List.{take_more_set, append-nil}
use Rattle.ped_base.specs.Lists.{is_among}
use Rattle.ped_base.specs.Arithmetic.Arithmetic.{sum_of, difference_of, negation_of, product_of, quotient_of, power_of}
use Rattle.ped_tree.specs.Constants.ConstantExpressions.{intrinsic_result}
use Rattle.ped_tree.specs.Constants.NamedConstants.{value_named}
use Rattle.ped_tree.specs.declared.expressions.Expr.{Expr}
use Rattle.ped_tree.specs.declared.expressions.Intrinsic.{Intrinsic}
use Rattle.ped_tree.specs.declared.conditions.Relation.{Relation}
use Rattle.ped_tree.specs.declared.conditions.Cond.{Cond}
use Rattle.ped_tree.specs.Tree.{ExprTree, ExprTrees, Int, Var, Element, Neg, Add, Sub, Mul, Div, Pow, Call, CondTree, Rel, Not, And, Or}
use Rattle.ped_tree.specs.Views.{pack_exprs, expr_tree, cond_tree}
use Rattle.ped_symbols.specs.Uses.{expr_count}
use Rattle.ped_store.specs.Cells as cells
use Rattle.ped_store.specs.Cells.{Cell, Scalar, Private, In, Out, Iteration}
use Rattle.ped_store.specs.Acts.{iterations_of}
use Rattle.ped_store.specs.Stores.{Store, number_read, outside_bounds}
use Rattle.ped_store.specs.Storage.{is_within}
use Rattle.ped_store.specs.Memories.{Memory, got}
use Rattle.ped_store.specs.Keeping.{memory_of}
use Rattle.ped_eval.specs.Scopes.{Scope, cell_of, index_value, turns_of}
use Rattle.ped_eval.specs.ScopeViews.{names_at}
use Rattle.ped_eval.specs.Evaluation.{Seen, Evaluated, onward, ◌>>>◌, given, by_number, read_cell}
use Rattle.ped_eval.specs.Values.{of_intrinsic, name_value, variable_value, element_cell, is_rank, value, values, truth, relation_holds}
use Rattle.ped_eval.specs.declared.surroundings.Surroundings.{Surroundings}
use Rattle.ped_eval.proofs.Levels.{IsOperation}
use Rattle.ped_eval.specs.Results.{value_at, values_at, target_at, truth_at, of_one, of_two, fault_or, next_result}
use Rattle.ped_eval.specs.Targets.{bounded, IsNamedBy}

-- the result of an evaluation that goes on
result_of : {A B : Type 0} (a : Evaluated A) (next : A → Evaluated B) → (a >>> next).result ≡ of_one (λ u. (next u).result) a.result
result_of a next = go a.seen a.result
  where
    go : (seen : List Seen) (r : Result _ ℕ) → (onward seen r next).result ≡ of_one (λ u. (next u).result) r
    go seen (Ok u) = refl
    go seen (Err n) = refl

-- the result of one that goes on with two values
two_results : {A B C : Type 0} (f : A → B → Result C ℕ) (a : Evaluated A) (b : Evaluated B) → (a >>> λ u. b >>> λ v. given (f u v)).result ≡ of_two f a.result b.result
two_results f a b = go a.seen a.result b.seen b.result
  where
    go : (seen : List Seen) (r : Result _ ℕ) (also : List Seen) (q : Result _ ℕ) → (onward seen r (λ u. onward also q (λ v. given (f u v)))).result ≡ of_two f r q
    go seen (Ok u) also (Ok v) = refl
    go seen (Ok u) also (Err n) = refl
    go seen (Err n) also q = refl

-- an element is read behind the test of its bounds
read_results : (r : Evaluated (List ℤ)) (f : List ℤ → Result Cell ℕ) (s : Store) → (r >>> λ js. given (f js) >>> read_cell s).result ≡ of_one (λ c. number_read (s c)) (r >>> λ js. given (f js)).result
read_results r f s = go r.seen r.result
  where
    tested : (c : Result Cell ℕ) → (given c >>> read_cell s).result ≡ of_one (λ c. number_read (s c)) c
    tested (Ok c) = refl
    tested (Err n) = refl

    go : (seen : List Seen) (r : Result (List ℤ) ℕ) → (onward seen r (λ js. given (f js) >>> read_cell s)).result ≡ of_one (λ c. number_read (s c)) (onward seen r (λ js. given (f js))).result
    go seen (Ok js) = tested (f js)
    go seen (Err n) = refl

module _ (around : Surroundings) where
  pub int_at : (n : ℕ) → value_at around (Int n) ≡ Ok (pos n)
  unfolding value_at
  int_at n = refl

  pub neg_at : (a : ExprTree) → value_at around (Neg a) ≡ of_one (λ u. by_number (negation_of u)) (value_at around a)
  unfolding value_at
  neg_at a = result_of (value (names_at (memory_of around.store.now) around.scope.now around.consts.now) a (memory_of around.store.now).cells) (λ u. given (by_number (negation_of u)))

  pub add_at : (a b : ExprTree) → value_at around (Add a b) ≡ of_two (λ u v. by_number (sum_of u v)) (value_at around a) (value_at around b)
  unfolding value_at
  add_at a b = two_results (λ u v. by_number (sum_of u v)) (value (names_at (memory_of around.store.now) around.scope.now around.consts.now) a (memory_of around.store.now).cells) (value (names_at (memory_of around.store.now) around.scope.now around.consts.now) b (memory_of around.store.now).cells)

  pub sub_at : (a b : ExprTree) → value_at around (Sub a b) ≡ of_two (λ u v. by_number (difference_of u v)) (value_at around a) (value_at around b)
  unfolding value_at
  sub_at a b = two_results (λ u v. by_number (difference_of u v)) (value (names_at (memory_of around.store.now) around.scope.now around.consts.now) a (memory_of around.store.now).cells) (value (names_at (memory_of around.store.now) around.scope.now around.consts.now) b (memory_of around.store.now).cells)

  pub mul_at : (a b : ExprTree) → value_at around (Mul a b) ≡ of_two (λ u v. by_number (product_of u v)) (value_at around a) (value_at around b)
  unfolding value_at
  mul_at a b = two_results (λ u v. by_number (product_of u v)) (value (names_at (memory_of around.store.now) around.scope.now around.consts.now) a (memory_of around.store.now).cells) (value (names_at (memory_of around.store.now) around.scope.now around.consts.now) b (memory_of around.store.now).cells)

  pub div_at : (a b : ExprTree) → value_at around (Div a b) ≡ of_two (λ u v. by_number (quotient_of u v)) (value_at around a) (value_at around b)
  unfolding value_at
  div_at a b = two_results (λ u v. by_number (quotient_of u v)) (value (names_at (memory_of around.store.now) around.scope.now around.consts.now) a (memory_of around.store.now).cells) (value (names_at (memory_of around.store.now) around.scope.now around.consts.now) b (memory_of around.store.now).cells)

  pub pow_at : (a b : ExprTree) → value_at around (Pow a b) ≡ of_two (λ u v. by_number (power_of u v)) (value_at around a) (value_at around b)
  unfolding value_at
  pow_at a b = two_results (λ u v. by_number (power_of u v)) (value (names_at (memory_of around.store.now) around.scope.now around.consts.now) a (memory_of around.store.now).cells) (value (names_at (memory_of around.store.now) around.scope.now around.consts.now) b (memory_of around.store.now).cells)

  pub call_at : (f : Intrinsic) (es : List Expr) → value_at around (Call f (pack_exprs (map expr_tree es))) ≡ of_one (λ us. of_intrinsic (intrinsic_result f us)) (values_at around es)
  unfolding value_at values_at
  call_at f es = result_of (values (names_at (memory_of around.store.now) around.scope.now around.consts.now) (pack_exprs (map expr_tree es)) (memory_of around.store.now).cells) (λ us. given (of_intrinsic (intrinsic_result f us)))

  pub target_at-element : (x : List ℕ) (es : List Expr) → target_at around (Element x (pack_exprs (map expr_tree es))) ≡ of_one (element_cell (names_at (memory_of around.store.now) around.scope.now around.consts.now) x) (values_at around es)
  unfolding target_at values_at
  target_at-element x es = result_of (values (names_at (memory_of around.store.now) around.scope.now around.consts.now) (pack_exprs (map expr_tree es)) (memory_of around.store.now).cells) (λ js. given (element_cell (names_at (memory_of around.store.now) around.scope.now around.consts.now) x js))

  pub element_at : (x : List ℕ) (ts : ExprTrees) → value_at around (Element x ts) ≡ of_one (λ c. number_read ((memory_of around.store.now).cells c)) (target_at around (Element x ts))
  unfolding value_at target_at
  element_at x ts = read_results (values (names_at (memory_of around.store.now) around.scope.now around.consts.now) ts (memory_of around.store.now).cells) (element_cell (names_at (memory_of around.store.now) around.scope.now around.consts.now) x) (memory_of around.store.now).cells

  -- nothing but a scalar or an element may be a left side
  pub target_other : (t : ExprTree) → IsOperation t → Err outside_bounds ≡ target_at around t
  unfolding target_at
  target_other (Int n) h = refl
  target_other (Var x) h = absurd h
  target_other (Element x ts) h = absurd h
  target_other (Neg a) h = refl
  target_other (Add a b) h = refl
  target_other (Sub a b) h = refl
  target_other (Mul a b) h = refl
  target_other (Div a b) h = refl
  target_other (Pow a b) h = refl
  target_other (Call f ts) h = refl

  pub values_none : values_at around [] ≡ Ok []
  unfolding values_at
  values_none = refl

  pub values_more : (e : Expr) (es : List Expr) → values_at around (e ∷ es) ≡ of_two (λ u us. Ok (u ∷ us)) (value_at around (expr_tree e)) (values_at around es)
  unfolding value_at values_at
  values_more e es = two_results (λ u us. Ok (u ∷ us)) (value (names_at (memory_of around.store.now) around.scope.now around.consts.now) (expr_tree e) (memory_of around.store.now).cells) (values (names_at (memory_of around.store.now) around.scope.now around.consts.now) (pack_exprs (map expr_tree es)) (memory_of around.store.now).cells)

  pub rel_at : (r : Relation) (a b : ExprTree) → truth_at around (Rel r a b) ≡ of_two (λ u v. Ok (relation_holds r u v)) (value_at around a) (value_at around b)
  unfolding value_at truth_at
  rel_at r a b = two_results (λ u v. Ok (relation_holds r u v)) (value (names_at (memory_of around.store.now) around.scope.now around.consts.now) a (memory_of around.store.now).cells) (value (names_at (memory_of around.store.now) around.scope.now around.consts.now) b (memory_of around.store.now).cells)

  pub not_at : (a : CondTree) → truth_at around (Not a) ≡ of_one (λ u. Ok (not u)) (truth_at around a)
  unfolding truth_at
  not_at a = result_of (truth (names_at (memory_of around.store.now) around.scope.now around.consts.now) a (memory_of around.store.now).cells) (λ u. given (Ok (not u)))

  pub and_at : (a b : CondTree) → truth_at around (And a b) ≡ of_two (λ u v. Ok (u && v)) (truth_at around a) (truth_at around b)
  unfolding truth_at
  and_at a b = two_results (λ u v. Ok (u && v)) (truth (names_at (memory_of around.store.now) around.scope.now around.consts.now) a (memory_of around.store.now).cells) (truth (names_at (memory_of around.store.now) around.scope.now around.consts.now) b (memory_of around.store.now).cells)

  pub or_at : (a b : CondTree) → truth_at around (Or a b) ≡ of_two (λ u v. Ok (u || v)) (truth_at around a) (truth_at around b)
  unfolding truth_at
  or_at a b = two_results (λ u v. Ok (u || v)) (truth (names_at (memory_of around.store.now) around.scope.now around.consts.now) a (memory_of around.store.now).cells) (truth (names_at (memory_of around.store.now) around.scope.now around.consts.now) b (memory_of around.store.now).cells)

read_either : (m : Memory) (x : List ℕ) (is : List Iteration) (outer : Cell) (b : Bool) → got m outer ≡ number_read (m.cells outer) → got m (if b then Private x is else outer) ≡ number_read (m.cells (if b then Private x is else outer))
read_either m x is outer true h = refl
read_either m x is outer false h = h

-- a scalar is read without a test of bounds
pub got_scalar : (m : Memory) (scope : Scope) (x : List ℕ) → got m (cell_of scope x) ≡ number_read (m.cells (cell_of scope x))
got_scalar m [] x = refl
got_scalar m (f ∷ fs) x = read_either m x (iterations_of (turns_of (f ∷ fs))) (cell_of fs x) (is_among x f.private) (got_scalar m fs x)

bounded_either : (m : Memory) (x : List ℕ) (is : List Iteration) (outer : Cell) (b : Bool) → bounded m outer ≡ Ok outer → bounded m (if b then Private x is else outer) ≡ Ok (if b then Private x is else outer)
bounded_either m x is outer true h = refl
bounded_either m x is outer false h = h

-- a scalar has no bounds
pub bounded_scalar : (m : Memory) (scope : Scope) (x : List ℕ) → bounded m (cell_of scope x) ≡ Ok (cell_of scope x)
bounded_scalar m [] x = refl
bounded_scalar m (f ∷ fs) x = bounded_either m x (iterations_of (turns_of (f ∷ fs))) (cell_of fs x) (is_among x f.private) (bounded_scalar m fs x)

-- a cell that is read behind the test of its bounds
pub got_bounded : (m : Memory) (c : Cell) → of_one (λ d. number_read (m.cells d)) (bounded m c) ≡ got m c
got_bounded m (cells.Element x js) = go (is_within (m.bounds x) js)
  where
    go : (b : Bool) → of_one (λ d. number_read (m.cells d)) (if b then Ok (cells.Element x js) else Err outside_bounds) ≡ (if b then number_read (m.cells (cells.Element x js)) else Err outside_bounds)
    go true = refl
    go false = refl
got_bounded m (Scalar x) = refl
got_bounded m (Private x iterations) = refl
got_bounded m In = refl
got_bounded m Out = refl

-- an operand behind another is only evaluated where that has come to a value
pub of_next : {A B C : Type 0} (f : A → B → Result C ℕ) (r : Result A ℕ) (q : Result B ℕ) → of_two f r (next_result r q) ≡ of_two f r q
of_next f (Ok u) (Ok v) = refl
of_next f (Ok u) (Err n) = refl
of_next f (Err n) q = refl

-- values behind those that are known
abbrev pub with_front : List ℤ → Result (List ℤ) ℕ → Result (List ℤ) ℕ
with_front known r = of_one (λ us. Ok (known ++ us)) r

-- there are as many values as expressions
pub as_many : (around : Surroundings) (es : List Expr) (us : List ℤ) → values_at around es ≡ Ok us → length us ≡ length es
as_many around [] us h = let e : Ok [] ≡ Ok us = sym (values_none around) ∙ h in let f : [] ≡ us = cc in sym (ap length f)
as_many around (e ∷ es) us h = go (value_at around (expr_tree e)) (values_at around es) refl (sym (values_more around e es) ∙ h) (as_many around es)
  where
    go : (r : Result ℤ ℕ) (q : Result (List ℤ) ℕ) → values_at around es ≡ q → of_two (λ u us. Ok (u ∷ us)) r q ≡ Ok us → ((vs : List ℤ) → values_at around es ≡ Ok vs → length vs ≡ length es) → length us ≡ suc (length es)
    go (Ok u) (Ok vs) q h more = let f : u ∷ vs ≡ us = cc in sym (ap length f) ∙ ap suc (more vs q)
    go (Ok u) (Err n) q h more = absurd cc
    go (Err n) r q h more = absurd cc

expr_count-is : (es : List Expr) → expr_count (pack_exprs (map expr_tree es)) ≡ length es
expr_count-is [] = refl
expr_count-is (e ∷ es) = ap suc (expr_count-is es)

-- so many subscripts as an element may have
pub rank_is : (n : ℕ) → is_rank n ≡ true → (0 < n) × (n ≤ 7)
rank_is n h = let p = and_parts (leb 1 n) (leb n 7) h in (leb-true 1 n p.0, leb-true n 7 p.1)

pub first_of : {X : Type 0} (xs : List X) (i : ℕ) (x : X) → i < length xs → x ≡ get_or xs i x → drop i xs ≡ x ∷ drop (i + 1) xs
first_of xs i x h e = grind (arith, drop-cons xs i x h, e)

pub none_behind : {X : Type 0} (xs : List X) (i : ℕ) → length xs ≤ i → drop i xs ≡ []
none_behind xs i h = drop_of_length-le xs h

module _ (around : Surroundings) where
  -- the value of an expression that is known
  pub seen_as : (e f : Expr) (t : ExprTree) → e ≡ f → expr_tree f ≡ t → value_at around t ≡ value_at around (expr_tree e)
  seen_as e f t h l = ap (value_at around) (sym (ap expr_tree h ∙ l))

  -- the truth of a condition that is known
  pub true_as : (e f : Cond) (t : CondTree) → e ≡ f → cond_tree f ≡ t → truth_at around t ≡ truth_at around (cond_tree e)
  true_as e f t h l = ap (truth_at around) (sym (ap cond_tree h ∙ l))

  -- an element with as many subscripts as it may have
  pub target_ranked : (x : List ℕ) (es : List Expr) (js : List ℤ) → values_at around es ≡ Ok js → is_rank (length es) ≡ true → target_at around (Element x (pack_exprs (map expr_tree es))) ≡ bounded (memory_of around.store.now) (cells.Element x js)
  target_ranked x es js h r =
      let n : is_rank (length js) ≡ true = ap is_rank (as_many around es js h) ∙ r in
      target_at-element around x es ∙ ap (of_one (element_cell (names_at (memory_of around.store.now) around.scope.now around.consts.now) x)) h
      ∙ ap (λ (b : Bool). if b && is_within ((memory_of around.store.now).bounds x) js then Ok (cells.Element x js) else Err outside_bounds) n

  -- an element with another number of subscripts
  pub target_unranked : (x : List ℕ) (es : List Expr) → is_rank (length es) ≡ false → target_at around (Element x (pack_exprs (map expr_tree es))) ≡ Err (fault_or outside_bounds (values_at around es))
  target_unranked x es r = target_at-element around x es ∙ go (values_at around es) (as_many around es)
    where
      go : (q : Result (List ℤ) ℕ) → ((js : List ℤ) → q ≡ Ok js → length js ≡ length es) → of_one (element_cell (names_at (memory_of around.store.now) around.scope.now around.consts.now) x) q ≡ Err (fault_or outside_bounds q)
      go (Ok js) many = ap (λ (b : Bool). if b && is_within ((memory_of around.store.now).bounds x) js then Ok (cells.Element x js) else Err outside_bounds) (ap is_rank (many js refl) ∙ r)
      go (Err n) many = refl

  -- an element with a subscript that faults
  pub target_faulted : (x : List ℕ) (es : List Expr) (n : ℕ) → values_at around es ≡ Err n → target_at around (Element x (pack_exprs (map expr_tree es))) ≡ Err n
  target_faulted x es n h = target_at-element around x es ∙ ap (of_one (element_cell (names_at (memory_of around.store.now) around.scope.now around.consts.now) x)) h

  -- the subscripts that are written are counted
  pub named_by : (x : List ℕ) (es : List Expr) (js : List ℤ) → values_at around es ≡ Ok js → IsNamedBy around.scope.now (Element x (pack_exprs (map expr_tree es))) (cells.Element x js)
  named_by x es js h = (js, as_many around es js h ∙ sym (expr_count-is es), refl)

  -- the value of an element whose subscripts are known
  pub element_known : (x : List ℕ) (es : List Expr) (js : List ℤ) → values_at around es ≡ Ok js → is_rank (length es) ≡ true → value_at around (Element x (pack_exprs (map expr_tree es))) ≡ got (memory_of around.store.now) (cells.Element x js)
  element_known x es js h r =
      element_at around x (pack_exprs (map expr_tree es)) ∙ ap (of_one (λ c. number_read ((memory_of around.store.now).cells c))) (target_ranked x es js h r)
      ∙ got_bounded (memory_of around.store.now) (cells.Element x js)

  -- an element with a subscript that faults has no value
  pub element_faulted : (x : List ℕ) (es : List Expr) (n : ℕ) → values_at around es ≡ Err n → value_at around (Element x (pack_exprs (map expr_tree es))) ≡ Err n
  element_faulted x es n h =
      element_at around x (pack_exprs (map expr_tree es)) ∙ ap (of_one (λ c. number_read ((memory_of around.store.now).cells c))) (target_faulted x es n h)

  -- the values of one expression
  pub values_one_known : (es : List Expr) (a : Expr) (u : ℤ) → length es ≡ 1 → a ≡ get_or es 0 a → value_at around (expr_tree a) ≡ Ok u → values_at around es ≡ Ok (u ∷ [])
  values_one_known es a u h e v =
      ap (values_at around) (first_of es 0 a (omega (arith, h)) e ∙ ap (λ (l : List Expr). a ∷ l) (none_behind es 1 (omega (arith, h))))
      ∙ values_more around a [] ∙ (λ i. of_two (λ u us. Ok (u ∷ us)) (v i) (values_none around i))

  -- the values of two expressions
  pub values_two_known : (es : List Expr) (a b : Expr) (u w : ℤ) → length es ≡ 2 → a ≡ get_or es 0 a → b ≡ get_or es 1 b → value_at around (expr_tree a) ≡ Ok u → value_at around (expr_tree b) ≡ Ok w → values_at around es ≡ Ok (u ∷ w ∷ [])
  values_two_known es a b u w h e f v z =
      let second : values_at around (b ∷ []) ≡ Ok (w ∷ []) = values_more around b [] ∙ (λ i. of_two (λ u us. Ok (u ∷ us)) (z i) (values_none around i)) in
      ap (values_at around) (first_of es 0 a (omega (arith, h)) e ∙ ap (λ (l : List Expr). a ∷ l) (first_of es 1 b (omega (arith, h)) f ∙ ap (λ (l : List Expr). b ∷ l) (none_behind es 2 (omega (arith, h)))))
      ∙ values_more around a (b ∷ []) ∙ (λ i. of_two (λ u us. Ok (u ∷ us)) (v i) (second i))

  -- the first of expressions faults
  pub values_first_faulted : (es : List Expr) (a : Expr) (n : ℕ) → 0 < length es → a ≡ get_or es 0 a → value_at around (expr_tree a) ≡ Err n → values_at around es ≡ Err n
  values_first_faulted es a n h e v =
      ap (values_at around) (first_of es 0 a h e) ∙ values_more around a (drop 1 es) ∙ ap (λ (r : Result ℤ ℕ). of_two (λ u us. Ok (u ∷ us)) r (values_at around (drop 1 es))) v

  -- the second of two expressions faults
  pub values_second_faulted : (es : List Expr) (a b : Expr) (u : ℤ) (n : ℕ) → length es ≡ 2 → a ≡ get_or es 0 a → b ≡ get_or es 1 b → value_at around (expr_tree a) ≡ Ok u → value_at around (expr_tree b) ≡ Err n → values_at around es ≡ Err n
  values_second_faulted es a b u n h e f v z =
      let second : values_at around (b ∷ []) ≡ Err n = values_more around b [] ∙ ap (λ (r : Result ℤ ℕ). of_two (λ u us. Ok (u ∷ us)) r (values_at around [])) z in
      ap (values_at around) (first_of es 0 a (omega (arith, h)) e ∙ ap (λ (l : List Expr). a ∷ l) (first_of es 1 b (omega (arith, h)) f ∙ ap (λ (l : List Expr). b ∷ l) (none_behind es 2 (omega (arith, h)))))
      ∙ values_more around a (b ∷ []) ∙ (λ i. of_two (λ u us. Ok (u ∷ us)) (v i) (second i))

  -- one expression more is evaluated
  pub fault_next : (es : List Expr) (i : ℕ) (e : Expr) (u : ℤ) (fault : ℕ) → i < length es → e ≡ get_or es i e → Ok u ≡ value_at around (expr_tree e) → fault_or fault (values_at around (drop i es)) ≡ fault_or fault (values_at around (drop (i + 1) es))
  fault_next es i e u fault h g v =
      ap (λ (l : List Expr). fault_or fault (values_at around l)) (first_of es i e h g)
      ∙ ap (fault_or fault) (values_more around e (drop (i + 1) es) ∙ ap (λ (r : Result ℤ ℕ). of_two (λ u us. Ok (u ∷ us)) r (values_at around (drop (i + 1) es))) (sym v))
      ∙ go (values_at around (drop (i + 1) es))
    where
      go : (q : Result (List ℤ) ℕ) → fault_or fault (of_two (λ u us. Ok (u ∷ us)) (Ok u) q) ≡ fault_or fault q
      go (Ok us) = refl
      go (Err n) = refl

  -- the first fault stands
  pub fault_here : (es : List Expr) (i : ℕ) (e : Expr) (n fault : ℕ) → i < length es → e ≡ get_or es i e → Err n ≡ value_at around (expr_tree e) → fault_or fault (values_at around (drop i es)) ≡ n
  fault_here es i e n fault h g v =
      ap (λ (l : List Expr). fault_or fault (values_at around l)) (first_of es i e h g)
      ∙ ap (fault_or fault) (values_more around e (drop (i + 1) es) ∙ ap (λ (r : Result ℤ ℕ). of_two (λ u us. Ok (u ∷ us)) r (values_at around (drop (i + 1) es))) (sym v))

  -- no expression is left
  pub fault_none : (es : List Expr) (i fault : ℕ) → length es ≤ i → fault_or fault (values_at around (drop i es)) ≡ fault
  fault_none es i fault h = ap (λ (l : List Expr). fault_or fault (values_at around l)) (none_behind es i h) ∙ ap (fault_or fault) (values_none around)

  -- one subscript more is evaluated
  pub values_next : (es : List Expr) (i : ℕ) (e : Expr) (u : ℤ) (known : List ℤ) → i < length es → i < length known → e ≡ get_or es i e → Ok u ≡ value_at around (expr_tree e)
      → with_front (take i known) (values_at around (drop i es)) ≡ with_front (take (i + 1) (set known i u)) (values_at around (drop (i + 1) es))
  values_next es i e u known h room g v =
      ap (λ (l : List Expr). with_front (take i known) (values_at around l)) (first_of es i e h g)
      ∙ ap (with_front (take i known)) (values_more around e (drop (i + 1) es) ∙ ap (λ (r : Result ℤ ℕ). of_two (λ u us. Ok (u ∷ us)) r (values_at around (drop (i + 1) es))) (sym v))
      ∙ go (take i known) (values_at around (drop (i + 1) es))
      ∙ ap (λ (front : List ℤ). with_front front (values_at around (drop (i + 1) es))) (sym (take_more_set known i u room))
    where
      go : (front : List ℤ) (q : Result (List ℤ) ℕ) → with_front front (of_two (λ u us. Ok (u ∷ us)) (Ok u) q) ≡ with_front (front ++ u ∷ []) q
      go front (Ok us) = ap Ok (sym (append_assoc front (u ∷ []) us))
      go front (Err n) = refl

  -- a subscript faults
  pub values_fault : (es : List Expr) (i : ℕ) (e : Expr) (n : ℕ) (known : List ℤ) → i < length es → e ≡ get_or es i e → Err n ≡ value_at around (expr_tree e) → with_front known (values_at around (drop i es)) ≡ Err n
  values_fault es i e n known h g v =
      ap (λ (l : List Expr). with_front known (values_at around l)) (first_of es i e h g)
      ∙ ap (with_front known) (values_more around e (drop (i + 1) es) ∙ ap (λ (r : Result ℤ ℕ). of_two (λ u us. Ok (u ∷ us)) r (values_at around (drop (i + 1) es))) (sym v))

  -- all subscripts are evaluated
  pub values_all : (es : List Expr) (known : List ℤ) → with_front (take (length es) known) (values_at around (drop (length es) es)) ≡ Ok (take (length es) known)
  values_all es known =
      ap (λ (l : List Expr). with_front (take (length es) known) (values_at around l)) (none_behind es (length es) (omega arith))
      ∙ ap (with_front (take (length es) known)) (values_none around) ∙ ap Ok (append-nil (take (length es) known))

  -- a named constant
  pub var_constant : (x : List ℕ) (n : ℤ) → value_named around.consts.now x ≡ Some n → Ok n ≡ value_at around (Var x)
  unfolding value_at
  var_constant x n h = ap (λ (o : Option ℤ). (name_value o (names_at (memory_of around.store.now) around.scope.now around.consts.now) x (memory_of around.store.now).cells).result) (sym h)

  -- a variable
  pub var_variable : (x : List ℕ) → value_named around.consts.now x ≡ None → (variable_value (index_value around.scope.now x) (memory_of around.store.now).cells (cell_of around.scope.now x)).result ≡ value_at around (Var x)
  unfolding value_at
  var_variable x h = ap (λ (o : Option ℤ). (name_value o (names_at (memory_of around.store.now) around.scope.now around.consts.now) x (memory_of around.store.now).cells).result) (sym h)

  -- an operation on values that are known
  pub sum_known : (a b : ExprTree) (u v w : ℤ) → value_at around a ≡ Ok u → value_at around b ≡ Ok v → sum_of u v ≡ Ok w → value_at around (Add a b) ≡ Ok w
  sum_known a b u v w h k r = add_at around a b ∙ (λ i. of_two (λ u v. by_number (sum_of u v)) (h i) (k i)) ∙ ap by_number r

  pub difference_known : (a b : ExprTree) (u v w : ℤ) → value_at around a ≡ Ok u → value_at around b ≡ Ok v → difference_of u v ≡ Ok w → value_at around (Sub a b) ≡ Ok w
  difference_known a b u v w h k r = sub_at around a b ∙ (λ i. of_two (λ u v. by_number (difference_of u v)) (h i) (k i)) ∙ ap by_number r

  pub product_known : (a b : ExprTree) (u v w : ℤ) → value_at around a ≡ Ok u → value_at around b ≡ Ok v → product_of u v ≡ Ok w → value_at around (Mul a b) ≡ Ok w
  product_known a b u v w h k r = mul_at around a b ∙ (λ i. of_two (λ u v. by_number (product_of u v)) (h i) (k i)) ∙ ap by_number r

pub front_none : (r : Result (List ℤ) ℕ) → r ≡ with_front [] r
front_none (Ok us) = refl
front_none (Err n) = refl

-- one place fewer holds 0
pub rest_next : (xs : List ℤ) (i : ℕ) → i < 7 → length xs ≡ 7 → drop i xs ≡ replicate (7 - i) (pos 0) → drop (i + 1) xs ≡ replicate (7 - (i + 1)) (pos 0)
rest_next xs i h long e =
    let room : i < length xs = omega arith in
    let d : drop i xs ≡ get_or xs i (pos 0) ∷ drop (i + 1) xs = grind (arith, drop-cons xs i (pos 0) room) in
    let m : 7 - i ≡ suc (7 - (i + 1)) = omega arith in
    let r : replicate (7 - i) (pos 0) ≡ pos 0 ∷ replicate (7 - (i + 1)) (pos 0) = ap (λ (n : ℕ). replicate n (pos 0)) m in
    let both : get_or xs i (pos 0) ∷ drop (i + 1) xs ≡ pos 0 ∷ replicate (7 - (i + 1)) (pos 0) = sym d ∙ e ∙ r in
    cc
