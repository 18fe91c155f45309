-- References depend on which names are constants and DO variables, and not on their order.
use Rattle.std.proofs.Common.{◌≡◌, ℕ, List, [], ◌∷◌, ◌++◌, refl, if◌then◌else◌}
use Rattle.std.specs.List.{flat_map}
use Rattle.ped_tree.specs.Tree.{ExprTree, ExprTrees, Int, Var, Element, Neg, Add, Sub, Mul, Div, Pow, Call, no_exprs, more_exprs, CondTree, Rel, Not, And, Or, ItemTree, Value, Text, StmtTree, Assign, If, Do, Print, Read, Stop, Comment}
use Rattle.ped_tree.specs.Accesses.{Access, read_of, write_of, listed, unless_constant, expr_reads, exprs_reads, cond_reads, left_accesses, item_reads, own_accesses}
use Rattle.ped_tree.specs.Names.Collecting.{HaveSame}

-- the same names are constants, a and b, and DO variables, u and v
record Same (a b u v : List (List ℕ)) : Type 0 where
  constants : HaveSame a b
  variables : HaveSame u v

same_unless : (a b : List (List ℕ)) → HaveSame a b → (x : Access) → unless_constant a x ≡ unless_constant b x
same_unless a b h x = λ i. if h x.name i then [] else x ∷ []

mutual
  same_reads : (a b u v : List (List ℕ)) → Same a b u v → (e : ExprTree) → expr_reads a u e ≡ expr_reads b v e
  same_reads a b u v h (Int n) = refl
  same_reads a b u v h (Var x) = λ i. if h.variables x i then [] else same_unless a b h.constants (read_of x []) i
  same_reads a b u v h (Element x subscripts) = λ i. all_same_reads a b u v h subscripts i ++ same_unless a b h.constants (read_of x (listed subscripts)) i
  same_reads a b u v h (Neg e) = same_reads a b u v h e
  same_reads a b u v h (Add d e) = λ i. same_reads a b u v h d i ++ same_reads a b u v h e i
  same_reads a b u v h (Sub d e) = λ i. same_reads a b u v h d i ++ same_reads a b u v h e i
  same_reads a b u v h (Mul d e) = λ i. same_reads a b u v h d i ++ same_reads a b u v h e i
  same_reads a b u v h (Div d e) = λ i. same_reads a b u v h d i ++ same_reads a b u v h e i
  same_reads a b u v h (Pow d e) = λ i. same_reads a b u v h d i ++ same_reads a b u v h e i
  same_reads a b u v h (Call f arguments) = all_same_reads a b u v h arguments

  all_same_reads : (a b u v : List (List ℕ)) → Same a b u v → (es : ExprTrees) → exprs_reads a u es ≡ exprs_reads b v es
  all_same_reads a b u v h no_exprs = refl
  all_same_reads a b u v h (more_exprs e rest) = λ i. same_reads a b u v h e i ++ all_same_reads a b u v h rest i

same_cond : (a b u v : List (List ℕ)) → Same a b u v → (c : CondTree) → cond_reads a u c ≡ cond_reads b v c
same_cond a b u v h (Rel r d e) = λ i. same_reads a b u v h d i ++ same_reads a b u v h e i
same_cond a b u v h (Not c) = same_cond a b u v h c
same_cond a b u v h (And c d) = λ i. same_cond a b u v h c i ++ same_cond a b u v h d i
same_cond a b u v h (Or c d) = λ i. same_cond a b u v h c i ++ same_cond a b u v h d i

same_left : (a b u v : List (List ℕ)) → Same a b u v → (e : ExprTree) → left_accesses a u e ≡ left_accesses b v e
same_left a b u v h (Var x) = same_unless a b h.constants (write_of x [])
same_left a b u v h (Element x subscripts) = λ i. all_same_reads a b u v h subscripts i ++ same_unless a b h.constants (write_of x (listed subscripts)) i
same_left a b u v h (Int n) = refl
same_left a b u v h (Neg e) = refl
same_left a b u v h (Add d e) = refl
same_left a b u v h (Sub d e) = refl
same_left a b u v h (Mul d e) = refl
same_left a b u v h (Div d e) = refl
same_left a b u v h (Pow d e) = refl
same_left a b u v h (Call f arguments) = refl

same_item : (a b u v : List (List ℕ)) → Same a b u v → (t : ItemTree) → item_reads a u t ≡ item_reads b v t
same_item a b u v h (Value e) = same_reads a b u v h e
same_item a b u v h (Text t) = refl

-- what lists of items have is the same where each item has the same
same_all : {X : Type 0} (f g : X → List Access) → ((x : X) → f x ≡ g x) → (xs : List X) → flat_map f xs ≡ flat_map g xs
same_all f g h xs = λ i. flat_map (λ x. h x i) xs

same_own : (a b u v : List (List ℕ)) → Same a b u v → (s : StmtTree) → own_accesses a u s ≡ own_accesses b v s
same_own a b u v h (Assign left right) = λ i. same_reads a b u v h right i ++ same_left a b u v h left i
same_own a b u v h (If c t e) = same_cond a b u v h c
same_own a b u v h (Do d body) = λ i. same_reads a b u v h d.first i ++ same_reads a b u v h d.last i ++ flat_map (λ x. same_unless a b h.constants (write_of x []) i) d.private
same_own a b u v h (Print items) = λ i. same_all (item_reads a u) (item_reads b v) (same_item a b u v h) items i ++ own_accesses a u (Print [])
same_own a b u v h (Read items) = λ i. own_accesses a u (Read []) ++ same_all (left_accesses a u) (left_accesses b v) (same_left a b u v h) items i
same_own a b u v h Stop = refl
same_own a b u v h (Comment text) = refl

-- a statement has the same accesses where the same names are constants, a and b, and DO variables, u and v
pub same_accesses : (a b u v : List (List ℕ)) → HaveSame a b → HaveSame u v → (s : StmtTree) → own_accesses a u s ≡ own_accesses b v s
same_accesses a b u v h k = same_own a b u v record { constants = h; variables = k }
