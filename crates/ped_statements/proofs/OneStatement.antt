-- A text says one thing at most.
use Rattle.std.proofs.Common.{◌≡◌, ℕ, List, [], ◌∷◌, map, Some, refl, sym, ap, ◌∙◌}
use Rattle.ped_tree.specs.Tree.{ExprTree, CondTree, ItemTree, Value, Text, Head, StmtTree, StmtTrees, Assign, If, Do, Print, Read, Stop, Comment, no_stmts, more_stmts, BoundTree, DeclaratorTree, DeclTree, Program, Implicit, Integer, Dimension, Parameter, Save, Remark}
use Rattle.ped_tree.specs.Grammar.Items.{Item, declares, saves_all, does, continues, logical_if, block_if, else_if, else_line, end_if, begins_do, ends_do, keeps_private, ends_program}
use Rattle.ped_tree.specs.Grammar.StatementForms.{ReadsItem}
use Rattle.ped_tree.specs.Grammar.Reading.{OneItem}
use Rattle.ped_expressions.specs.ExpressionReading.{with_literals}
use Rattle.ped_statements.specs.Saturated.{item_with_literals, head_with_literals, stmt_with_literals, stmts_with_literals, bound_with_literals, declarator_with_literals, value_with_literals, decl_with_literals, says_with_literals}
use Rattle.ped_statements.specs.StatementReading.{statement_of}
use Rattle.ped_expressions.proofs.Basics.{some_is}
use Rattle.ped_expressions.proofs.Whole.{with_same}
use Rattle.ped_expressions.proofs.CondWhole.{cond_with_same}
use Rattle.ped_statements.proofs.EachStatement.{statement_again}

-- each literal as it is

map_same : {A : Type 0} (f : A → A) → ((x : A) → f x ≡ x) → (xs : List A) → map f xs ≡ xs
map_same f h [] = refl
map_same {A} f h (x ∷ xs) = ap (λ (y : A). y ∷ map f xs) (h x) ∙ ap (λ (ys : List A). x ∷ ys) (map_same f h xs)

item_same : (i : ItemTree) → item_with_literals (λ n. n) i ≡ i
item_same (Value e) = ap Value (with_same e)
item_same (Text text) = refl

head_same : (h : Head) → head_with_literals (λ n. n) h ≡ h
head_same h = let a = with_same h.first in let b = with_same h.last in let c = with_same h.step in λ i. record h { first = a i; last = b i; step = c i }

mutual
  stmt_same : (s : StmtTree) → stmt_with_literals (λ n. n) s ≡ s
  stmt_same (Assign left right) = ap (λ (t : ExprTree). Assign t (with_literals (λ n. n) right)) (with_same left) ∙ ap (Assign left) (with_same right)
  stmt_same (If condition then_part else_part) =
      ap (λ (t : CondTree). If t (stmts_with_literals (λ n. n) then_part) (stmts_with_literals (λ n. n) else_part)) (cond_with_same condition)
      ∙ ap (λ (t : StmtTrees). If condition t (stmts_with_literals (λ n. n) else_part)) (stmts_same then_part)
      ∙ ap (If condition then_part) (stmts_same else_part)
  stmt_same (Do h body) = ap (λ (t : Head). Do t (stmts_with_literals (λ n. n) body)) (head_same h) ∙ ap (Do h) (stmts_same body)
  stmt_same (Print items) = ap Print (map_same (item_with_literals (λ n. n)) item_same items)
  stmt_same (Read items) = ap Read (map_same (with_literals (λ n. n)) with_same items)
  stmt_same Stop = refl
  stmt_same (Comment text) = refl

  stmts_same : (ss : StmtTrees) → stmts_with_literals (λ n. n) ss ≡ ss
  stmts_same no_stmts = refl
  stmts_same (more_stmts s rest) = ap (λ (t : StmtTree). more_stmts t (stmts_with_literals (λ n. n) rest)) (stmt_same s) ∙ ap (more_stmts s) (stmts_same rest)

bound_same : (b : BoundTree) → bound_with_literals (λ n. n) b ≡ b
bound_same b = let l = with_same b.lower in let u = with_same b.upper in λ i. record { lower = l i; upper = u i }

declarator_same : (d : DeclaratorTree) → declarator_with_literals (λ n. n) d ≡ d
declarator_same d = let bs = map_same (bound_with_literals (λ n. n)) bound_same d.bounds in λ i. record { name = d.name; bounds = bs i }

value_same : (c : List ℕ × ExprTree) → value_with_literals (λ n. n) c ≡ c
value_same c = ap (λ (t : ExprTree). (c.0, t)) (with_same c.1)

decl_same : (d : DeclTree) → decl_with_literals (λ n. n) d ≡ d
decl_same (Program x) = refl
decl_same Implicit = refl
decl_same (Integer ds) = ap Integer (map_same (declarator_with_literals (λ n. n)) declarator_same ds)
decl_same (Dimension ds) = ap Dimension (map_same (declarator_with_literals (λ n. n)) declarator_same ds)
decl_same (Parameter values) = ap Parameter (map_same (value_with_literals (λ n. n)) value_same values)
decl_same (Save names) = refl
decl_same (Remark text) = refl

says_same : (i : Item) → says_with_literals (λ n. n) i ≡ i
says_same (declares d) = ap declares (decl_same d)
says_same saves_all = refl
says_same (does s) = ap does (stmt_same s)
says_same continues = refl
says_same (logical_if c s) = ap (λ (t : CondTree). logical_if t (stmts_with_literals (λ n. n) s)) (cond_with_same c) ∙ ap (logical_if c) (stmts_same s)
says_same (block_if c) = ap block_if (cond_with_same c)
says_same (else_if c) = ap else_if (cond_with_same c)
says_same else_line = refl
says_same end_if = refl
says_same (begins_do label h) = ap (begins_do label) (head_same h)
says_same ends_do = refl
says_same (keeps_private names) = refl
says_same ends_program = refl

-- what a text says is read of it
pub item_again : (v : ℕ → ℕ) (text : List ℕ) (i : Item) → ReadsItem text i → statement_of v text ≡ Some (says_with_literals v i)
item_again v text i r = ap (statement_of v) (sym r.1) ∙ statement_again v r.0 ∙ ap (λ (j : Item). Some (says_with_literals v j)) r.2

pub one_item : OneItem
one_item text i j p q = sym (says_same i) ∙ some_is _ _ (sym (item_again (λ n. n) text i p) ∙ item_again (λ n. n) text j q) ∙ says_same j
