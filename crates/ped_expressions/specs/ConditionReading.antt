-- Reading a condition from left to right, with a number of steps that bounds the recursion (this project).
use Rattle.std.specs.Prelude.{ℕ, zero, suc, List, length, codes, Option, Some, None, ◌==◌, if◌then◌else◌}
use Rattle.ped_tree.specs.declared.conditions.Relation.{Relation}
use Rattle.ped_tree.specs.declared.conditions.Relation.TheVariants.{Lt, Le, Eq, Ne, Gt, Ge}
use Rattle.ped_tree.specs.Tree.{CondTree, Rel, Not, And, Or}
use Rattle.ped_tree.specs.Printing.{relation_text}
use Rattle.ped_expressions.specs.Scanning.{Answer, ◌>>=◌, go_on, after}
use Rattle.ped_expressions.specs.ExpressionReading.{with_literals, expr_of, enough}

-- the tree with each literal n as v n
abbrev pub cond_with_literals : (ℕ → ℕ) → CondTree → CondTree
cond_with_literals v (Rel r a b) = Rel r (with_literals v a) (with_literals v b)
cond_with_literals v (Not a) = Not (cond_with_literals v a)
cond_with_literals v (And a b) = And (cond_with_literals v a) (cond_with_literals v b)
cond_with_literals v (Or a b) = Or (cond_with_literals v a) (cond_with_literals v b)

-- this relational operator, and else what other is found
abbrev pub relation_or : Relation → List ℕ → Answer Relation → Answer Relation
relation_or r text other = go_on (after (relation_text r) text) other (λ rest. Some (r, rest))

-- a relational operator between its periods
abbrev pub relation_at : List ℕ → Answer Relation
relation_at text = relation_or Lt text (relation_or Le text (relation_or Eq text (relation_or Ne text (relation_or Gt text (relation_or Ge text None)))))

-- a relation of two expressions, each literal n as v n
unfoldable pub relation_of : (ℕ → ℕ) → List ℕ → Answer CondTree
relation_of v text = expr_of v text >>= λ a. relation_at a.1 >>= λ r. expr_of v r.1 >>= λ b. Some (Rel r.0 a.0 b.0, b.1)

abbrev mutual
  -- a condition, with at most n steps, each literal m as v m
  pub cond_at : (ℕ → ℕ) → ℕ → List ℕ → Answer CondTree
  cond_at v zero text = None
  cond_at v (suc n) text = logical_term_at v n text >>= λ x. ors_at v n x.0 x.1

  -- what follows a condition after .OR.
  pub ors_at : (ℕ → ℕ) → ℕ → CondTree → List ℕ → Answer CondTree
  ors_at v zero a text = None
  ors_at v (suc n) a text = go_on (after (codes ".OR.") text) (Some (a, text)) (λ r. logical_term_at v n r >>= λ x. ors_at v n (Or a x.0) x.1)

  -- a logical term
  pub logical_term_at : (ℕ → ℕ) → ℕ → List ℕ → Answer CondTree
  logical_term_at v zero text = None
  logical_term_at v (suc n) text = logical_factor_at v n text >>= λ x. ands_at v n x.0 x.1

  -- what follows a logical term after .AND.
  pub ands_at : (ℕ → ℕ) → ℕ → CondTree → List ℕ → Answer CondTree
  ands_at v zero a text = None
  ands_at v (suc n) a text = go_on (after (codes ".AND.") text) (Some (a, text)) (λ r. logical_factor_at v n r >>= λ x. ands_at v n (And a x.0) x.1)

  -- a logical factor
  pub logical_factor_at : (ℕ → ℕ) → ℕ → List ℕ → Answer CondTree
  logical_factor_at v zero text = None
  logical_factor_at v (suc n) text = go_on (after (codes ".NOT.") text) (logical_primary_at v n text) (λ r. logical_primary_at v n r >>= λ x. Some (Not x.0, x.1))

  -- a logical primary: a relation where there is one, and else a condition in parentheses
  pub logical_primary_at : (ℕ → ℕ) → ℕ → List ℕ → Answer CondTree
  logical_primary_at v zero text = None
  logical_primary_at v (suc n) text = go_on (relation_of v text) (after (codes "(") text >>= λ q. cond_at v n q >>= λ x. after (codes ")") x.1 >>= λ r. Some (x.0, r)) (λ x. Some x)

-- a condition, and so on, each with steps enough
unfoldable pub cond_of : (ℕ → ℕ) → List ℕ → Answer CondTree
cond_of v text = cond_at v (enough text) text

-- what follows a condition after .OR., with steps enough
unfoldable pub ors_of : (ℕ → ℕ) → CondTree → List ℕ → Answer CondTree
ors_of v a text = ors_at v (enough text) a text

-- a logical term, with steps enough
unfoldable pub logical_term_of : (ℕ → ℕ) → List ℕ → Answer CondTree
logical_term_of v text = logical_term_at v (enough text) text

-- what follows a logical term after .AND., with steps enough
unfoldable pub ands_of : (ℕ → ℕ) → CondTree → List ℕ → Answer CondTree
ands_of v a text = ands_at v (enough text) a text

-- a logical factor, with steps enough
unfoldable pub logical_factor_of : (ℕ → ℕ) → List ℕ → Answer CondTree
logical_factor_of v text = logical_factor_at v (enough text) text

-- a logical primary, with steps enough
unfoldable pub logical_primary_of : (ℕ → ℕ) → List ℕ → Answer CondTree
logical_primary_of v text = logical_primary_at v (enough text) text

-- a condition that is the whole text
unfoldable pub whole_cond_of : (ℕ → ℕ) → List ℕ → Option CondTree
whole_cond_of v text = cond_of v text >>= λ x. if length x.1 == 0 then Some x.0 else None
