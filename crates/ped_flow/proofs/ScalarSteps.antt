-- What expressions and lists do to a scalar, from what their parts do.
use Rattle.std.proofs.Common.{◌≡◌, ℕ, ◌+◌, ◌<◌, List, ◌∷◌, ◌++◌, length, drop, get_or, sym, ap, ◌∙◌, rules, drop-cons, add-one}
use Rattle.std.specs.Global.{Box}
use Rattle.ped_tree.specs.Tree as plain
use Rattle.ped_tree.specs.Views.{expr_tree, cond_tree}
use Rattle.ped_tree.specs.declared.expressions.Expr.{Expr}
use Rattle.ped_tree.specs.declared.expressions.Expr as variant
use Rattle.ped_tree.specs.declared.conditions.Cond.{Cond}
use Rattle.ped_tree.specs.declared.conditions.Cond as cond
use Rattle.ped_tree.specs.declared.conditions.Relation.{Relation}
use Rattle.ped_flow.specs.Events.{reads_of, scalars_in, scalars_in_cond}
use Rattle.ped_flow.specs.Summaries.{summary_in_turn, summary_events}
use Rattle.ped_flow.specs.declared.summaries.Summary.{Summary}
use Rattle.ped_flow.proofs.SumLaws.{in_turn-assoc, reads-append}

pub expr_tree-Add : (a b : Box Expr) → expr_tree (variant.Add a b) ≡ plain.Add (expr_tree a.value) (expr_tree b.value)
expr_tree-Add a b = search (rules, variant.the_lemmas)

pub expr_tree-Sub : (a b : Box Expr) → expr_tree (variant.Sub a b) ≡ plain.Sub (expr_tree a.value) (expr_tree b.value)
expr_tree-Sub a b = search (rules, variant.the_lemmas)

pub expr_tree-Mul : (a b : Box Expr) → expr_tree (variant.Mul a b) ≡ plain.Mul (expr_tree a.value) (expr_tree b.value)
expr_tree-Mul a b = search (rules, variant.the_lemmas)

pub expr_tree-Div : (a b : Box Expr) → expr_tree (variant.Div a b) ≡ plain.Div (expr_tree a.value) (expr_tree b.value)
expr_tree-Div a b = search (rules, variant.the_lemmas)

pub expr_tree-Pow : (a b : Box Expr) → expr_tree (variant.Pow a b) ≡ plain.Pow (expr_tree a.value) (expr_tree b.value)
expr_tree-Pow a b = search (rules, variant.the_lemmas)

pub cond_tree-Rel : (r : Relation) (a b : Expr) → cond_tree (cond.Rel r a b) ≡ plain.Rel r (expr_tree a) (expr_tree b)
cond_tree-Rel r a b = search (rules, cond.the_lemmas)

pub cond_tree-And : (a b : Box Cond) → cond_tree (cond.And a b) ≡ plain.And (cond_tree a.value) (cond_tree b.value)
cond_tree-And a b = search (rules, cond.the_lemmas)

pub cond_tree-Or : (a b : Box Cond) → cond_tree (cond.Or a b) ≡ plain.Or (cond_tree a.value) (cond_tree b.value)
cond_tree-Or a b = search (rules, cond.the_lemmas)

-- reads of two parts
two_read : (x : List ℕ) (n : ℕ) (whole left right : List (List ℕ)) (m k r : Summary) → whole ≡ left ++ right → m ≡ summary_events x (reads_of n left) → k ≡ summary_events x (reads_of n right) → r ≡ summary_in_turn m k → r ≡ summary_events x (reads_of n whole)
two_read x n whole left right m k r w h g e = e ∙ (λ i. summary_in_turn (h i) (g i)) ∙ sym (reads-append x n left right) ∙ ap (λ (names : List (List ℕ)). summary_events x (reads_of n names)) (sym w)

module _ (x : List ℕ) (cs : List (List ℕ)) (n : ℕ) (e : Expr) (a b : Box Expr) (p q : Expr) (m k r : Summary) where
  operands : (t : plain.ExprTree) → scalars_in cs t ≡ scalars_in cs (expr_tree a.value) ++ scalars_in cs (expr_tree b.value) → expr_tree e ≡ t → p ≡ a.value → q ≡ b.value
      → m ≡ summary_events x (reads_of n (scalars_in cs (expr_tree p))) → k ≡ summary_events x (reads_of n (scalars_in cs (expr_tree q))) → r ≡ summary_in_turn m k
      → r ≡ summary_events x (reads_of n (scalars_in cs (expr_tree e)))
  operands t parts is l g h f i =
      two_read x n (scalars_in cs (expr_tree e)) (scalars_in cs (expr_tree p)) (scalars_in cs (expr_tree q)) m k r
      (ap (scalars_in cs) is ∙ parts ∙ (λ j. scalars_in cs (expr_tree (sym l j)) ++ scalars_in cs (expr_tree (sym g j)))) h f i

  pub summary_read : e ≡ variant.Add a b → p ≡ a.value → q ≡ b.value → m ≡ summary_events x (reads_of n (scalars_in cs (expr_tree p))) → k ≡ summary_events x (reads_of n (scalars_in cs (expr_tree q))) → r ≡ summary_in_turn m k → r ≡ summary_events x (reads_of n (scalars_in cs (expr_tree e)))
  summary_read is = operands (plain.Add (expr_tree a.value) (expr_tree b.value)) (λ i. scalars_in cs (expr_tree a.value) ++ scalars_in cs (expr_tree b.value)) (ap expr_tree is ∙ expr_tree-Add a b)

  pub difference_read : e ≡ variant.Sub a b → p ≡ a.value → q ≡ b.value → m ≡ summary_events x (reads_of n (scalars_in cs (expr_tree p))) → k ≡ summary_events x (reads_of n (scalars_in cs (expr_tree q))) → r ≡ summary_in_turn m k → r ≡ summary_events x (reads_of n (scalars_in cs (expr_tree e)))
  difference_read is = operands (plain.Sub (expr_tree a.value) (expr_tree b.value)) (λ i. scalars_in cs (expr_tree a.value) ++ scalars_in cs (expr_tree b.value)) (ap expr_tree is ∙ expr_tree-Sub a b)

  pub product_read : e ≡ variant.Mul a b → p ≡ a.value → q ≡ b.value → m ≡ summary_events x (reads_of n (scalars_in cs (expr_tree p))) → k ≡ summary_events x (reads_of n (scalars_in cs (expr_tree q))) → r ≡ summary_in_turn m k → r ≡ summary_events x (reads_of n (scalars_in cs (expr_tree e)))
  product_read is = operands (plain.Mul (expr_tree a.value) (expr_tree b.value)) (λ i. scalars_in cs (expr_tree a.value) ++ scalars_in cs (expr_tree b.value)) (ap expr_tree is ∙ expr_tree-Mul a b)

  pub quotient_read : e ≡ variant.Div a b → p ≡ a.value → q ≡ b.value → m ≡ summary_events x (reads_of n (scalars_in cs (expr_tree p))) → k ≡ summary_events x (reads_of n (scalars_in cs (expr_tree q))) → r ≡ summary_in_turn m k → r ≡ summary_events x (reads_of n (scalars_in cs (expr_tree e)))
  quotient_read is = operands (plain.Div (expr_tree a.value) (expr_tree b.value)) (λ i. scalars_in cs (expr_tree a.value) ++ scalars_in cs (expr_tree b.value)) (ap expr_tree is ∙ expr_tree-Div a b)

  pub power_read : e ≡ variant.Pow a b → p ≡ a.value → q ≡ b.value → m ≡ summary_events x (reads_of n (scalars_in cs (expr_tree p))) → k ≡ summary_events x (reads_of n (scalars_in cs (expr_tree q))) → r ≡ summary_in_turn m k → r ≡ summary_events x (reads_of n (scalars_in cs (expr_tree e)))
  power_read is = operands (plain.Pow (expr_tree a.value) (expr_tree b.value)) (λ i. scalars_in cs (expr_tree a.value) ++ scalars_in cs (expr_tree b.value)) (ap expr_tree is ∙ expr_tree-Pow a b)

module _ (x : List ℕ) (cs : List (List ℕ)) (n : ℕ) (c : Cond) (m k r : Summary) where
  pub relation_read : (o : Relation) (a b : Expr) → c ≡ cond.Rel o a b → m ≡ summary_events x (reads_of n (scalars_in cs (expr_tree a))) → k ≡ summary_events x (reads_of n (scalars_in cs (expr_tree b))) → r ≡ summary_in_turn m k → r ≡ summary_events x (reads_of n (scalars_in_cond cs (cond_tree c)))
  relation_read o a b is = two_read x n (scalars_in_cond cs (cond_tree c)) (scalars_in cs (expr_tree a)) (scalars_in cs (expr_tree b)) m k r (ap (scalars_in_cond cs) (ap cond_tree is ∙ cond_tree-Rel o a b))

  conditions : (a b : Box Cond) (p q : Cond) (t : plain.CondTree) → scalars_in_cond cs t ≡ scalars_in_cond cs (cond_tree a.value) ++ scalars_in_cond cs (cond_tree b.value) → cond_tree c ≡ t → p ≡ a.value → q ≡ b.value
      → m ≡ summary_events x (reads_of n (scalars_in_cond cs (cond_tree p))) → k ≡ summary_events x (reads_of n (scalars_in_cond cs (cond_tree q))) → r ≡ summary_in_turn m k
      → r ≡ summary_events x (reads_of n (scalars_in_cond cs (cond_tree c)))
  conditions a b p q t parts is l g =
      two_read x n (scalars_in_cond cs (cond_tree c)) (scalars_in_cond cs (cond_tree p)) (scalars_in_cond cs (cond_tree q)) m k r
      (ap (scalars_in_cond cs) is ∙ parts ∙ (λ j. scalars_in_cond cs (cond_tree (sym l j)) ++ scalars_in_cond cs (cond_tree (sym g j))))

  pub and_read : (a b : Box Cond) (p q : Cond) → c ≡ cond.And a b → p ≡ a.value → q ≡ b.value → m ≡ summary_events x (reads_of n (scalars_in_cond cs (cond_tree p))) → k ≡ summary_events x (reads_of n (scalars_in_cond cs (cond_tree q))) → r ≡ summary_in_turn m k → r ≡ summary_events x (reads_of n (scalars_in_cond cs (cond_tree c)))
  and_read a b p q is = conditions a b p q (plain.And (cond_tree a.value) (cond_tree b.value)) (λ i. scalars_in_cond cs (cond_tree a.value) ++ scalars_in_cond cs (cond_tree b.value)) (ap cond_tree is ∙ cond_tree-And a b)

  pub or_read : (a b : Box Cond) (p q : Cond) → c ≡ cond.Or a b → p ≡ a.value → q ≡ b.value → m ≡ summary_events x (reads_of n (scalars_in_cond cs (cond_tree p))) → k ≡ summary_events x (reads_of n (scalars_in_cond cs (cond_tree q))) → r ≡ summary_in_turn m k → r ≡ summary_events x (reads_of n (scalars_in_cond cs (cond_tree c)))
  or_read a b p q is = conditions a b p q (plain.Or (cond_tree a.value) (cond_tree b.value)) (λ i. scalars_in_cond cs (cond_tree a.value) ++ scalars_in_cond cs (cond_tree b.value)) (ap cond_tree is ∙ cond_tree-Or a b)

-- the rest of a list is an item and what stands behind it
pub rest_is : {X : Type 0} (xs : List X) (i : ℕ) (x : X) → i < length xs → x ≡ get_or xs i x → drop i xs ≡ x ∷ drop (i + 1) xs
rest_is xs i x within is = drop-cons xs i x within ∙ (λ j. sym is j ∷ drop (sym (add-one i) j) xs)

-- one more item: what the rest does is what the item does and then what the others do
pub next_in_turn : (before after whole item rest others : Summary) → summary_in_turn before rest ≡ whole → rest ≡ summary_in_turn item others → after ≡ summary_in_turn before item → summary_in_turn after others ≡ whole
next_in_turn before after whole item rest others inv parts e = ap (λ (z : Summary). summary_in_turn z others) e ∙ in_turn-assoc before item others ∙ ap (summary_in_turn before) (sym parts) ∙ inv
