-- Where each name stands for itself and there is no CALL, statements are expanded to themselves.
use Rattle.std.proofs.Common.{◌≡◌, ℕ, List, [], ◌∷◌, map, Option, Some, None, refl, ap, ◌∙◌, arith}
use Rattle.ped_tree.specs.Tree.{ExprTree, ExprTrees, Int, Var, Element, Neg, Add, Sub, Mul, Div, Pow, Call, no_exprs, more_exprs, CondTree, Rel, Not, And, Or, ItemTree, Value, Text, Head, StmtTree, StmtTrees, Assign, If, Do, Print, Read, Stop, Comment, no_stmts, more_stmts}
use Rattle.ped_links.specs.ped_units.specs.Forms.{Called}
use Rattle.ped_links.specs.ped_units.specs.Units.{call_of}
use Rattle.ped_links.specs.ped_units.specs.Expanding.{Expanded, AllExpanded, name_meant, replaced, all_replaced, cond_replaced, item_replaced, head_replaced, expanded_or, if_expanded, do_expanded, then_expanded, expanded_in, all_expanded_in}
use Rattle.ped_links.specs.ped_units.specs.Verdicts.{one_for, call_count, calls_count}

mutual
  pub same_expr : (e : ExprTree) → replaced [] e ≡ e
  same_expr (Int n) = refl
  same_expr (Var x) = refl
  same_expr (Element x subscripts) = ap (Element x) (same_exprs subscripts)
  same_expr (Neg a) = ap Neg (same_expr a)
  same_expr (Add a b) = λ i. Add (same_expr a i) (same_expr b i)
  same_expr (Sub a b) = λ i. Sub (same_expr a i) (same_expr b i)
  same_expr (Mul a b) = λ i. Mul (same_expr a i) (same_expr b i)
  same_expr (Div a b) = λ i. Div (same_expr a i) (same_expr b i)
  same_expr (Pow a b) = λ i. Pow (same_expr a i) (same_expr b i)
  same_expr (Call f arguments) = ap (Call f) (same_exprs arguments)

  pub same_exprs : (es : ExprTrees) → all_replaced [] es ≡ es
  same_exprs no_exprs = refl
  same_exprs (more_exprs e rest) = λ i. more_exprs (same_expr e i) (same_exprs rest i)

pub same_cond : (c : CondTree) → cond_replaced [] c ≡ c
same_cond (Rel r a b) = λ i. Rel r (same_expr a i) (same_expr b i)
same_cond (Not a) = ap Not (same_cond a)
same_cond (And a b) = λ i. And (same_cond a i) (same_cond b i)
same_cond (Or a b) = λ i. Or (same_cond a i) (same_cond b i)

same_item : (item : ItemTree) → item_replaced [] item ≡ item
same_item (Value e) = ap Value (same_expr e)
same_item (Text text) = refl

same_items : (items : List ItemTree) → map (item_replaced []) items ≡ items
same_items [] = refl
same_items (item ∷ items) = λ i. same_item item i ∷ same_items items i

same_lefts : (items : List ExprTree) → map (replaced []) items ≡ items
same_lefts [] = refl
same_lefts (e ∷ es) = λ i. same_expr e i ∷ same_lefts es i

same_names : (names : List (List ℕ)) → map (name_meant []) names ≡ names
same_names [] = refl
same_names (x ∷ xs) = ap (λ (rest : List (List ℕ)). x ∷ rest) (same_names xs)

pub same_head : (h : Head) → head_replaced [] h ≡ h
same_head h = λ i. record {
  variable = h.variable;
  first = same_expr h.first i;
  last = same_expr h.last i;
  step = same_expr h.step i;
  parallel = h.parallel;
  private = same_names h.private i;
  rejected = h.rejected;
}

no_call : (o : Option Called) → one_for o ≡ 0 → o ≡ None
no_call None h = refl
no_call (Some c) h = absurd cc

-- a statement as it is
abbrev as_it_is : {S : Type 0} → StmtTree → S → Expanded S
as_it_is s state = record { statement = s; state = state }

-- statements as they are
abbrev all_as_they_are : {S : Type 0} → StmtTrees → S → AllExpanded S
all_as_they_are ss state = record { statements = ss; state = state }

mutual
  pub one_same : {S : Type 0} (f : Called → S → Expanded S) (s : StmtTree) (state : S) → call_count s ≡ 0 → expanded_in [] f s state ≡ as_it_is s state
  one_same {S} f (Assign left right) state h =
      ap (expanded_or [] f (Assign (replaced [] left) (replaced [] right)) state) (no_call (call_of left right) h)
      ∙ ap (λ (s : StmtTree). as_it_is {S = S} s state) (λ i. Assign (same_expr left i) (same_expr right i))
  one_same {S} f (If condition then_part else_part) state h =
      let t : all_expanded_in [] f then_part state ≡ all_as_they_are then_part state = all_same f then_part state (omega (arith, h)) in
      let e : all_expanded_in [] f else_part state ≡ all_as_they_are else_part state = all_same f else_part state (omega (arith, h)) in
      ap (λ (c : CondTree). if_expanded c (all_expanded_in [] f then_part state) (all_expanded_in [] f else_part)) (same_cond condition)
      ∙ ap (λ (x : AllExpanded S). if_expanded condition x (all_expanded_in [] f else_part)) t
      ∙ ap (λ (x : AllExpanded S). as_it_is {S = S} (If condition then_part x.statements) x.state) e
  one_same {S} f (Do head body) state h =
      ap (λ (k : Head). do_expanded k (all_expanded_in [] f body state)) (same_head head)
      ∙ ap (do_expanded head) (all_same f body state h)
  one_same {S} f (Print items) state h = ap (λ (x : List ItemTree). as_it_is {S = S} (Print x) state) (same_items items)
  one_same {S} f (Read items) state h = ap (λ (x : List ExprTree). as_it_is {S = S} (Read x) state) (same_lefts items)
  one_same {S} f Stop state h = refl
  one_same {S} f (Comment text) state h = refl

  -- statements without CALLs
  pub all_same : {S : Type 0} (f : Called → S → Expanded S) (ss : StmtTrees) (state : S) → calls_count ss ≡ 0 → all_expanded_in [] f ss state ≡ all_as_they_are ss state
  all_same {S} f no_stmts state h = refl
  all_same {S} f (more_stmts s rest) state h =
      ap (λ (x : Expanded S). then_expanded x (all_expanded_in [] f rest)) (one_same f s state (omega (arith, h)))
      ∙ ap (λ (x : AllExpanded S). all_as_they_are {S = S} (more_stmts s x.statements) x.state) (all_same f rest state (omega (arith, h)))
