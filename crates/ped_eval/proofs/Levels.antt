-- The plain tree of an expression and of a condition, from their parts.
use Rattle.std.proofs.Common.{◌≡◌, ◌⊎◌, inl, inr, ℕ, List, map, sym, ap, subst, ◌∙◌}
use Rattle.std.specs.Global.{Vec, Box}
use Rattle.ped_tree.specs.Tree as plain
use Rattle.ped_tree.specs.Tree.{ExprTree, CondTree}
use Rattle.ped_tree.specs.Views.{expr_tree, expr_level, pack_exprs, cond_tree, cond_level}
use Rattle.ped_tree.specs.declared.conditions.Relation.{Relation}
use Rattle.ped_tree.specs.declared.conditions.Cond.{Cond}
use Rattle.ped_tree.specs.declared.conditions.Cond.TheOpen as open_cond
use Rattle.ped_tree.specs.declared.conditions.Cond.TheVariants as condition
use Rattle.ped_tree.specs.declared.conditions.Cond.TheFolds.{fold-roll-Cond}
use Rattle.ped_tree.specs.declared.expressions.Intrinsic.{Intrinsic}
use Rattle.ped_tree.specs.declared.expressions.Expr.{Expr}
use Rattle.ped_tree.specs.declared.expressions.Expr.TheOpen as open_expr
use Rattle.ped_tree.specs.declared.expressions.Expr.TheVariants as variant
use Rattle.ped_tree.specs.declared.expressions.Expr.TheFolds.{fold-roll-Expr}

pub tree-Int : (n : ℕ) → expr_tree (variant.Int n) ≡ plain.Int n
tree-Int n = ap expr_tree (sym (variant.rolls-Int n)) ∙ fold-roll-Expr ExprTree expr_level (open_expr.Int n)

pub tree-Var : (x : List ℕ) → expr_tree (variant.Var x) ≡ plain.Var x
tree-Var x = ap expr_tree (sym (variant.rolls-Var x)) ∙ fold-roll-Expr ExprTree expr_level (open_expr.Var x)

pub tree-Element : (x : List ℕ) (es : Vec Expr) → expr_tree (variant.Element x es) ≡ plain.Element x (pack_exprs (map expr_tree es.items))
tree-Element x es = ap expr_tree (sym (variant.rolls-Element x es)) ∙ fold-roll-Expr ExprTree expr_level (open_expr.Element x es)

pub tree-Neg : (a : Box Expr) → expr_tree (variant.Neg a) ≡ plain.Neg (expr_tree a.value)
tree-Neg a = ap expr_tree (sym (variant.rolls-Neg a)) ∙ fold-roll-Expr ExprTree expr_level (open_expr.Neg a)

pub tree-Add : (a b : Box Expr) → expr_tree (variant.Add a b) ≡ plain.Add (expr_tree a.value) (expr_tree b.value)
tree-Add a b = ap expr_tree (sym (variant.rolls-Add a b)) ∙ fold-roll-Expr ExprTree expr_level (open_expr.Add a b)

pub tree-Sub : (a b : Box Expr) → expr_tree (variant.Sub a b) ≡ plain.Sub (expr_tree a.value) (expr_tree b.value)
tree-Sub a b = ap expr_tree (sym (variant.rolls-Sub a b)) ∙ fold-roll-Expr ExprTree expr_level (open_expr.Sub a b)

pub tree-Mul : (a b : Box Expr) → expr_tree (variant.Mul a b) ≡ plain.Mul (expr_tree a.value) (expr_tree b.value)
tree-Mul a b = ap expr_tree (sym (variant.rolls-Mul a b)) ∙ fold-roll-Expr ExprTree expr_level (open_expr.Mul a b)

pub tree-Div : (a b : Box Expr) → expr_tree (variant.Div a b) ≡ plain.Div (expr_tree a.value) (expr_tree b.value)
tree-Div a b = ap expr_tree (sym (variant.rolls-Div a b)) ∙ fold-roll-Expr ExprTree expr_level (open_expr.Div a b)

pub tree-Pow : (a b : Box Expr) → expr_tree (variant.Pow a b) ≡ plain.Pow (expr_tree a.value) (expr_tree b.value)
tree-Pow a b = ap expr_tree (sym (variant.rolls-Pow a b)) ∙ fold-roll-Expr ExprTree expr_level (open_expr.Pow a b)

pub tree-Call : (f : Intrinsic) (es : Vec Expr) → expr_tree (variant.Call f es) ≡ plain.Call f (pack_exprs (map expr_tree es.items))
tree-Call f es = ap expr_tree (sym (variant.rolls-Call f es)) ∙ fold-roll-Expr ExprTree expr_level (open_expr.Call f es)

-- an expression that is neither a scalar nor an element
abbrev pub IsOther : Expr → Type 0
IsOther e = ((n : ℕ) × (e ≡ variant.Int n)) ⊎ (((a : Box Expr) × (e ≡ variant.Neg a)) ⊎ (((a : Box Expr) × (b : Box Expr) × (e ≡ variant.Add a b)) ⊎ (((a : Box Expr) × (b : Box Expr) × (e ≡ variant.Sub a b)) ⊎ (((a : Box Expr) × (b : Box Expr) × (e ≡ variant.Mul a b)) ⊎ (((a : Box Expr) × (b : Box Expr) × (e ≡ variant.Div a b)) ⊎ (((a : Box Expr) × (b : Box Expr) × (e ≡ variant.Pow a b)) ⊎ (((f : Intrinsic) × (es : Vec Expr) × (e ≡ variant.Call f es)))))))))

-- a tree that is neither
abbrev pub IsOperation : ExprTree → Type 0
IsOperation (plain.Var x) = ⊥
IsOperation (plain.Element x ts) = ⊥
IsOperation t = Unit {0}

pub other_tree : (e : Expr) → IsOther e → IsOperation (expr_tree e)
other_tree e (inl h) = subst IsOperation (sym (ap expr_tree h.1 ∙ tree-Int h.0)) tt
other_tree e (inr (inl h)) = subst IsOperation (sym (ap expr_tree h.1 ∙ tree-Neg h.0)) tt
other_tree e (inr (inr (inl h))) = subst IsOperation (sym (ap expr_tree h.2 ∙ tree-Add h.0 h.1)) tt
other_tree e (inr (inr (inr (inl h)))) = subst IsOperation (sym (ap expr_tree h.2 ∙ tree-Sub h.0 h.1)) tt
other_tree e (inr (inr (inr (inr (inl h))))) = subst IsOperation (sym (ap expr_tree h.2 ∙ tree-Mul h.0 h.1)) tt
other_tree e (inr (inr (inr (inr (inr (inl h)))))) = subst IsOperation (sym (ap expr_tree h.2 ∙ tree-Div h.0 h.1)) tt
other_tree e (inr (inr (inr (inr (inr (inr (inl h))))))) = subst IsOperation (sym (ap expr_tree h.2 ∙ tree-Pow h.0 h.1)) tt
other_tree e (inr (inr (inr (inr (inr (inr (inr h))))))) = subst IsOperation (sym (ap expr_tree h.2 ∙ tree-Call h.0 h.1)) tt

pub tree-Rel : (r : Relation) (a b : Expr) → cond_tree (condition.Rel r a b) ≡ plain.Rel r (expr_tree a) (expr_tree b)
tree-Rel r a b = ap cond_tree (sym (condition.rolls-Rel r a b)) ∙ fold-roll-Cond CondTree cond_level (open_cond.Rel r a b)

pub tree-Not : (a : Box Cond) → cond_tree (condition.Not a) ≡ plain.Not (cond_tree a.value)
tree-Not a = ap cond_tree (sym (condition.rolls-Not a)) ∙ fold-roll-Cond CondTree cond_level (open_cond.Not a)

pub tree-And : (a b : Box Cond) → cond_tree (condition.And a b) ≡ plain.And (cond_tree a.value) (cond_tree b.value)
tree-And a b = ap cond_tree (sym (condition.rolls-And a b)) ∙ fold-roll-Cond CondTree cond_level (open_cond.And a b)

pub tree-Or : (a b : Box Cond) → cond_tree (condition.Or a b) ≡ plain.Or (cond_tree a.value) (cond_tree b.value)
tree-Or a b = ap cond_tree (sym (condition.rolls-Or a b)) ∙ fold-roll-Cond CondTree cond_level (open_cond.Or a b)
