-- Expressions that are written alike, as the code tells them, are one tree.
use Rattle.std.proofs.Common.{◌≡◌, ℕ, ◌+◌, ◌==◌, List, [], ◌∷◌, map, length, Bool, true, false, ◌&&◌, ◌↔◌, if◌then◌else◌, refl, sym, ap, subst, ◌∙◌, arith, eqb-true}
use Rattle.std.proofs.lemmas.Bool.{eq-eqb}
use Rattle.std.proofs.lemmas.List.{length-map}
use Rattle.ped_base.specs.Lists.{is_same_text}
use Rattle.ped_base.proofs.NameEquality.{same_itself, same_is}
use Rattle.ped_tree.specs.Tree.{ExprTree, ExprTrees, Int, Var, Element, Neg, Add, Sub, Mul, Div, Pow, Call, no_exprs, more_exprs}
use Rattle.ped_tree.specs.Views.{expr_tree, pack_exprs}
use Rattle.ped_tree.specs.declared.expressions.Expr.{Expr}
use Rattle.ped_tree.specs.declared.expressions.Intrinsic.{Intrinsic}
use Rattle.ped_tree.specs.declared.expressions.Intrinsic.TheVariants.{Mod, Abs, Max, Min}
use Rattle.ped_splits.specs.CodeAlike.{function_number, form_of, number_of, name_of, parts_of, are_none, passes_then, passes, pass_both, is_same_expr, are_same_exprs}

-- an intrinsic function by its number
abbrev function_by : ℕ → Intrinsic
function_by n = if n == 0 then Mod else if n == 1 then Abs else if n == 2 then Max else Min

abbrev first_part : ExprTrees → ExprTree
first_part no_exprs = Int 0
first_part (more_exprs e rest) = e

abbrev second_part : ExprTrees → ExprTree
second_part no_exprs = Int 0
second_part (more_exprs e rest) = first_part rest

-- an expression by what stands for it
abbrev built : (form n : ℕ) → List ℕ → ExprTrees → ExprTree
built form n x parts =
    if form == 0 then Int n
    else if form == 1 then Var x
    else if form == 2 then Element x parts
    else if form == 3 then Neg (first_part parts)
    else if form == 4 then Add (first_part parts) (second_part parts)
    else if form == 5 then Sub (first_part parts) (second_part parts)
    else if form == 6 then Mul (first_part parts) (second_part parts)
    else if form == 7 then Div (first_part parts) (second_part parts)
    else if form == 8 then Pow (first_part parts) (second_part parts)
    else Call (function_by n) parts

function_back : (f : Intrinsic) → function_by (function_number f) ≡ f
function_back Mod = refl
function_back Abs = refl
function_back Max = refl
function_back Min = refl

rebuilt : (e : ExprTree) → built (form_of e) (number_of e) (name_of e) (parts_of e) ≡ e
rebuilt (Int n) = refl
rebuilt (Var x) = refl
rebuilt (Element x parts) = refl
rebuilt (Neg a) = refl
rebuilt (Add a b) = refl
rebuilt (Sub a b) = refl
rebuilt (Mul a b) = refl
rebuilt (Div a b) = refl
rebuilt (Pow a b) = refl
rebuilt (Call f parts) = ap (λ (g : Intrinsic). Call g parts) (function_back f)

-- an expression of this form is built so
of_form : (e : ExprTree) (form : ℕ) → (form_of e == form) ≡ true → built form (number_of e) (name_of e) (parts_of e) ≡ e
of_form e form is = ap (λ (k : ℕ). built k (number_of e) (name_of e) (parts_of e)) (sym (eqb-true (form_of e) form is)) ∙ rebuilt e

pub both_of : (a b : Bool) → (a && b) ≡ true → (a ≡ true) × (b ≡ true)
both_of true b h = (refl, h)
both_of false b h = absurd cc

pub both_so : (a b : Bool) → a ≡ true → b ≡ true → (a && b) ≡ true
both_so true b g h = h
both_so false b g h = absurd cc

first_passes : (p : ExprTree → Bool) (parts : ExprTrees) → passes p parts ≡ true → p (first_part parts) ≡ true
first_passes p no_exprs h = absurd cc
first_passes p (more_exprs e rest) h = h

both_pass : (p q : ExprTree → Bool) (parts : ExprTrees) → pass_both p q parts ≡ true → (p (first_part parts) ≡ true) × (q (second_part parts) ≡ true)
both_pass p q no_exprs h = absurd cc
both_pass p q (more_exprs e no_exprs) h = absurd cc
both_pass p q (more_exprs e (more_exprs f rest)) h = both_of (p e) (q f) h

-- two operands that are alike
module _ (c d b : ExprTree) (form : ℕ) (operation : ExprTree → ExprTree → ExprTree) where
  operands : built form (number_of b) (name_of b) (parts_of b) ≡ operation (first_part (parts_of b)) (second_part (parts_of b))
      → ((e : ExprTree) → is_same_expr c e ≡ true → c ≡ e) → ((e : ExprTree) → is_same_expr d e ≡ true → d ≡ e)
      → ((form_of b == form) && pass_both (is_same_expr c) (is_same_expr d) (parts_of b)) ≡ true → operation c d ≡ b
  operands made left right h =
      let p = both_of (form_of b == form) (pass_both (is_same_expr c) (is_same_expr d) (parts_of b)) h in
      let q = both_pass (is_same_expr c) (is_same_expr d) (parts_of b) p.1 in
      (λ i. operation (left (first_part (parts_of b)) q.0 i) (right (second_part (parts_of b)) q.1 i)) ∙ (sym made ∙ of_form b form p.0)

mutual
  same_tree : (a b : ExprTree) → is_same_expr a b ≡ true → a ≡ b
  same_tree (Int n) b h =
      let p = both_of (form_of b == 0) (number_of b == n) h in
      ap Int (sym (eqb-true (number_of b) n p.1)) ∙ of_form b 0 p.0
  same_tree (Var x) b h =
      let p = both_of (form_of b == 1) (is_same_text x (name_of b)) h in
      ap Var (same_is x (name_of b) p.1) ∙ of_form b 1 p.0
  same_tree (Element x parts) b h =
      let p = both_of (form_of b == 2) (is_same_text x (name_of b) && are_same_exprs parts (parts_of b)) h in
      let q = both_of (is_same_text x (name_of b)) (are_same_exprs parts (parts_of b)) p.1 in
      (λ i. Element (same_is x (name_of b) q.0 i) (same_trees parts (parts_of b) q.1 i)) ∙ of_form b 2 p.0
  same_tree (Neg c) b h =
      let p = both_of (form_of b == 3) (passes (is_same_expr c) (parts_of b)) h in
      ap Neg (same_tree c (first_part (parts_of b)) (first_passes (is_same_expr c) (parts_of b) p.1)) ∙ of_form b 3 p.0
  same_tree (Add c d) b h = operands c d b 4 (λ e f. Add e f) refl (λ e i. same_tree c e i) (λ e i. same_tree d e i) h
  same_tree (Sub c d) b h = operands c d b 5 (λ e f. Sub e f) refl (λ e i. same_tree c e i) (λ e i. same_tree d e i) h
  same_tree (Mul c d) b h = operands c d b 6 (λ e f. Mul e f) refl (λ e i. same_tree c e i) (λ e i. same_tree d e i) h
  same_tree (Div c d) b h = operands c d b 7 (λ e f. Div e f) refl (λ e i. same_tree c e i) (λ e i. same_tree d e i) h
  same_tree (Pow c d) b h = operands c d b 8 (λ e f. Pow e f) refl (λ e i. same_tree c e i) (λ e i. same_tree d e i) h
  same_tree (Call f parts) b h =
      let p = both_of (form_of b == 9) ((number_of b == function_number f) && are_same_exprs parts (parts_of b)) h in
      let q = both_of (number_of b == function_number f) (are_same_exprs parts (parts_of b)) p.1 in
      let function : f ≡ function_by (number_of b) = sym (function_back f) ∙ ap function_by (sym (eqb-true (number_of b) (function_number f) q.0)) in
      (λ i. Call (function i) (same_trees parts (parts_of b) q.1 i)) ∙ of_form b 9 p.0

  same_trees : (xs ys : ExprTrees) → are_same_exprs xs ys ≡ true → xs ≡ ys
  same_trees no_exprs no_exprs h = refl
  same_trees no_exprs (more_exprs b ys) h = absurd cc
  same_trees (more_exprs a xs) no_exprs h = absurd cc
  same_trees (more_exprs a xs) (more_exprs b ys) h =
      let p = both_of (is_same_expr a b) (are_same_exprs xs ys) h in
      (λ i. more_exprs (same_tree a b p.0 i) (same_trees xs ys p.1 i))

mutual
  tree_itself : (a : ExprTree) → is_same_expr a a ≡ true
  tree_itself (Int n) = eq-eqb n n refl
  tree_itself (Var x) = same_itself x
  tree_itself (Element x parts) = both_so (is_same_text x x) (are_same_exprs parts parts) (same_itself x) (trees_themselves parts)
  tree_itself (Neg c) = tree_itself c
  tree_itself (Add c d) = both_so (is_same_expr c c) (is_same_expr d d) (tree_itself c) (tree_itself d)
  tree_itself (Sub c d) = both_so (is_same_expr c c) (is_same_expr d d) (tree_itself c) (tree_itself d)
  tree_itself (Mul c d) = both_so (is_same_expr c c) (is_same_expr d d) (tree_itself c) (tree_itself d)
  tree_itself (Div c d) = both_so (is_same_expr c c) (is_same_expr d d) (tree_itself c) (tree_itself d)
  tree_itself (Pow c d) = both_so (is_same_expr c c) (is_same_expr d d) (tree_itself c) (tree_itself d)
  tree_itself (Call f parts) = both_so (function_number f == function_number f) (are_same_exprs parts parts) (eq-eqb (function_number f) (function_number f) refl) (trees_themselves parts)

  trees_themselves : (xs : ExprTrees) → are_same_exprs xs xs ≡ true
  trees_themselves no_exprs = refl
  trees_themselves (more_exprs a xs) = both_so (is_same_expr a a) (are_same_exprs xs xs) (tree_itself a) (trees_themselves xs)

-- they are written alike exactly where they are one tree
pub alike_trees : (a b : ExprTree) → (is_same_expr a b ≡ true) ↔ (a ≡ b)
alike_trees a b = (same_tree a b, λ e. subst (λ (c : ExprTree). is_same_expr a c ≡ true) e (tree_itself a))

-- as many, where they are alike
abbrev how_many : ExprTrees → ℕ
how_many no_exprs = 0
how_many (more_exprs e rest) = how_many rest + 1

packed_long : (es : List ExprTree) → how_many (pack_exprs es) ≡ length es
packed_long [] = refl
packed_long (e ∷ es) = let h = packed_long es in omega (arith, h)

other_truth : (b : Bool) → (b ≡ true → ⊥) → false ≡ b
other_truth true h = absurd (h refl)
other_truth false h = refl

-- lists of other lengths aren't alike
pub other_lengths : (xs ys : List Expr) → (length xs ≡ length ys → ⊥) → false ≡ are_same_exprs (pack_exprs (map expr_tree xs)) (pack_exprs (map expr_tree ys))
other_lengths xs ys other =
    other_truth (are_same_exprs (pack_exprs (map expr_tree xs)) (pack_exprs (map expr_tree ys)))
    (λ h. other (
    sym (length-map xs expr_tree) ∙ sym (packed_long (map expr_tree xs))
    ∙ ap how_many (same_trees (pack_exprs (map expr_tree xs)) (pack_exprs (map expr_tree ys)) h)
    ∙ packed_long (map expr_tree ys) ∙ length-map ys expr_tree))
