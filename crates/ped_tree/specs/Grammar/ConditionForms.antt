-- Conditions as they are written, without blanks: a type for each level of the grammar, with the text and the tree of each form (ANSI X3.9-1978, section 6.4).
use Rattle.std.specs.Prelude.{◌≡◌, ℕ, List, ◌++◌, codes}
use Rattle.ped_tree.specs.declared.conditions.Relation.{Relation}
use Rattle.ped_tree.specs.Tree.{CondTree, Rel, Not, And, Or}
use Rattle.ped_tree.specs.Printing.{relation_text}
use Rattle.ped_tree.specs.Grammar.ExpressionForms.{ExprForm, expr_form_text, expr_form_tree}

mutual
  -- a condition: a logical term, or a condition, .OR., and a logical term
  pub data CondForm : Type 0 where
    one_term : LogicalTermForm → CondForm
    or : CondForm → LogicalTermForm → CondForm

  -- a logical term: a logical factor, or a logical term, .AND., and a logical factor
  pub data LogicalTermForm : Type 0 where
    one_factor : LogicalFactorForm → LogicalTermForm
    and : LogicalTermForm → LogicalFactorForm → LogicalTermForm

  -- a logical factor: a logical primary, alone or after .NOT.
  pub data LogicalFactorForm : Type 0 where
    affirmed : LogicalPrimaryForm → LogicalFactorForm
    negated : LogicalPrimaryForm → LogicalFactorForm

  -- a logical primary: a relation of two expressions, or a condition in parentheses (ANSI X3.9-1978, sections 6.3, 6.4)
  pub data LogicalPrimaryForm : Type 0 where
    relation : ExprForm → Relation → ExprForm → LogicalPrimaryForm
    group : CondForm → LogicalPrimaryForm

abbrev mutual
  -- the text of a condition
  pub cond_form_text : CondForm → List ℕ
  cond_form_text (one_term t) = logical_term_text t
  cond_form_text (or c t) = cond_form_text c ++ codes ".OR." ++ logical_term_text t

  -- the text of a logical term
  pub logical_term_text : LogicalTermForm → List ℕ
  logical_term_text (one_factor f) = logical_factor_text f
  logical_term_text (and t f) = logical_term_text t ++ codes ".AND." ++ logical_factor_text f

  -- the text of a logical factor
  pub logical_factor_text : LogicalFactorForm → List ℕ
  logical_factor_text (affirmed p) = logical_primary_text p
  logical_factor_text (negated p) = codes ".NOT." ++ logical_primary_text p

  -- the text of a relation, or of a condition in parentheses (ANSI X3.9-1978, sections 6.3, 6.4)
  pub logical_primary_text : LogicalPrimaryForm → List ℕ
  logical_primary_text (relation a r b) = expr_form_text a ++ relation_text r ++ expr_form_text b
  logical_primary_text (group c) = codes "(" ++ cond_form_text c ++ codes ")"

abbrev mutual
  -- the tree of a condition
  pub cond_form_tree : CondForm → CondTree
  cond_form_tree (one_term t) = logical_term_tree t
  cond_form_tree (or c t) = Or (cond_form_tree c) (logical_term_tree t)

  -- the tree of a logical term
  pub logical_term_tree : LogicalTermForm → CondTree
  logical_term_tree (one_factor f) = logical_factor_tree f
  logical_term_tree (and t f) = And (logical_term_tree t) (logical_factor_tree f)

  -- the tree of a logical factor
  pub logical_factor_tree : LogicalFactorForm → CondTree
  logical_factor_tree (affirmed p) = logical_primary_tree p
  logical_factor_tree (negated p) = Not (logical_primary_tree p)

  -- the tree of a relation, or of a condition in parentheses (ANSI X3.9-1978, sections 6.3, 6.4)
  pub logical_primary_tree : LogicalPrimaryForm → CondTree
  logical_primary_tree (relation a r b) = Rel r (expr_form_tree a) (expr_form_tree b)
  logical_primary_tree (group c) = cond_form_tree c

-- the text reads as this condition
abbrev pub ReadsCond : List ℕ → CondTree → Type 0
ReadsCond text c = (f : CondForm) × (cond_form_text f ≡ text) × (cond_form_tree f ≡ c)
