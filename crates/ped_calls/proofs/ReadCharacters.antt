-- What a statement by itself reads and writes is no more than the characters that are printed for it.
use Rattle.std.proofs.Common.{◌≡◌, ℕ, ◌+◌, ◌≤◌, List, [], ◌∷◌, ◌++◌, length, Bool, true, false, arith, ap, ◌∙◌, length-append, if◌then◌else◌}
use Rattle.std.specs.Prelude.{codes}
use Rattle.std.specs.List.{flat_map}
use Rattle.ped_base.specs.Lists.{is_among}
use Rattle.ped_tree.specs.declared.conditions.Relation.{Relation}
use Rattle.ped_tree.specs.declared.conditions.Relation.TheVariants.{Lt, Le, Eq, Ne, Gt, Ge}
use Rattle.ped_tree.specs.Tree.{ExprTree, ExprTrees, Int, Var, Element, Neg, Add, Sub, Mul, Div, Pow, Call, no_exprs, more_exprs, CondTree, Rel, Not, And, Or, ItemTree, Value, Text, Head, StmtTrees, Assign, If, Print, Read}
use Rattle.ped_tree.specs.Accesses.{Access, read_of, write_of, listed, unless_constant, expr_reads, exprs_reads, cond_reads, left_accesses, item_reads, private_writes, own_accesses}
use Rattle.ped_tree.specs.Printing.{Place, alone, as_term, as_factor, as_base, encloses_sum, encloses_product, encloses_power, enclosed, intrinsic_text, expr_text, exprs_text, further_text, value_text, relation_text, Standing, whole, in_or, in_and, in_not, encloses_or, encloses_and, encloses_not, cond_text, item_text, names_text, do_word, step_text, do_text, private_text, own_text}

between : (a m b : List ℕ) → length (a ++ m ++ b) ≡ length a + length m + length b
between a m b = length-append (a ++ m) b ∙ ap (λ (n : ℕ). n + length b) (length-append a m)

longer : (b : Bool) (t : List ℕ) → length t ≤ length (enclosed b t)
longer true t = omega (arith, between (codes "(") t (codes ")"))
longer false t = omega arith

one_at_most : (k : List (List ℕ)) (a : Access) → length (unless_constant k a) ≤ 1
one_at_most k a = by (is_among a.name k)
  where
    by : (b : Bool) → length (if b then [] else a ∷ []) ≤ 1
    by true = omega arith
    by false = omega arith

scalar_read : (k u : List (List ℕ)) (x : List ℕ) → length (expr_reads k u (Var x)) ≤ 1
scalar_read k u x = by (is_among x u)
  where
    by : (b : Bool) → length (if b then [] else unless_constant k (read_of x [])) ≤ 1
    by true = omega arith
    by false = one_at_most k (read_of x [])

-- two operands with a sign between
both_read : (b : Bool) (s t sign : List ℕ) (p q : List Access) → length p ≤ length s + 1 → length q ≤ length t + 1 → 1 ≤ length sign → length (p ++ q) ≤ length (enclosed b (s ++ sign ++ t)) + 1
both_read b s t sign p q h k l = omega (arith, length-append p q, between s sign t, longer b (s ++ sign ++ t), h, k, l)

-- one operand behind a sign
behind_sign : (b : Bool) (t sign : List ℕ) (p : List Access) → length p ≤ length t + 1 → length p ≤ length (enclosed b (sign ++ t)) + 1
behind_sign b t sign p h = omega (arith, length-append sign t, longer b (sign ++ t), h)

-- an element, with its subscripts
element_read : (x t : List ℕ) (p q : List Access) → length p ≤ length t + 1 → length q ≤ 1 → length (p ++ q) ≤ length (x ++ codes "(" ++ t ++ codes ")") + 1
element_read x t p q h k = omega (arith, length-append p q, length-append (x ++ codes "(" ++ t) (codes ")"), between x (codes "(") t, h, k)

mutual
  pub reads_few : (k u : List (List ℕ)) (p : Place) (e : ExprTree) → length (expr_reads k u e) ≤ length (expr_text p e) + 1
  reads_few k u p (Int n) = omega arith
  reads_few k u p (Var x) = omega (arith, scalar_read k u x)
  reads_few k u p (Element x es) = element_read x (exprs_text es) (exprs_reads k u es) (unless_constant k (read_of x (listed es))) (all_read_few k u es) (one_at_most k (read_of x (listed es)))
  reads_few k u p (Neg a) = behind_sign (encloses_sum p) (expr_text as_term a) (codes "-") (expr_reads k u a) (reads_few k u as_term a)
  reads_few k u p (Add a b) = both_read (encloses_sum p) (expr_text alone a) (expr_text as_term b) (codes "+") (expr_reads k u a) (expr_reads k u b) (reads_few k u alone a) (reads_few k u as_term b) (omega arith)
  reads_few k u p (Sub a b) = both_read (encloses_sum p) (expr_text alone a) (expr_text as_term b) (codes "-") (expr_reads k u a) (expr_reads k u b) (reads_few k u alone a) (reads_few k u as_term b) (omega arith)
  reads_few k u p (Mul a b) = both_read (encloses_product p) (expr_text as_term a) (expr_text as_factor b) (codes "*") (expr_reads k u a) (expr_reads k u b) (reads_few k u as_term a) (reads_few k u as_factor b) (omega arith)
  reads_few k u p (Div a b) = both_read (encloses_product p) (expr_text as_term a) (expr_text as_factor b) (codes "/") (expr_reads k u a) (expr_reads k u b) (reads_few k u as_term a) (reads_few k u as_factor b) (omega arith)
  reads_few k u p (Pow a b) = both_read (encloses_power p) (expr_text as_base a) (expr_text as_factor b) (codes "**") (expr_reads k u a) (expr_reads k u b) (reads_few k u as_base a) (reads_few k u as_factor b) (omega arith)
  reads_few k u p (Call f es) =
      let t = exprs_text es in
      omega (arith, all_read_few k u es, length-append (intrinsic_text f ++ codes "(" ++ t) (codes ")"), between (intrinsic_text f) (codes "(") t)

  pub all_read_few : (k u : List (List ℕ)) (es : ExprTrees) → length (exprs_reads k u es) ≤ length (exprs_text es) + 1
  all_read_few k u no_exprs = omega arith
  all_read_few k u (more_exprs e rest) =
      omega (arith, length-append (expr_reads k u e) (exprs_reads k u rest), length-append (expr_text alone e) (further_text rest), reads_few k u alone e, further_read k u rest)

  further_read : (k u : List (List ℕ)) (es : ExprTrees) → length (exprs_reads k u es) ≤ length (further_text es)
  further_read k u no_exprs = omega arith
  further_read k u (more_exprs e rest) =
      omega (arith, length-append (expr_reads k u e) (exprs_reads k u rest), between (codes ",") (expr_text alone e) (further_text rest), reads_few k u alone e, further_read k u rest)

long_relation : (r : Relation) → 1 ≤ length (relation_text r)
long_relation Lt = omega arith
long_relation Le = omega arith
long_relation Eq = omega arith
long_relation Ne = omega arith
long_relation Gt = omega arith
long_relation Ge = omega arith

pub cond_reads_few : (k u : List (List ℕ)) (s : Standing) (c : CondTree) → length (cond_reads k u c) ≤ length (cond_text s c) + 1
cond_reads_few k u s (Rel r a b) = both_read false (value_text a) (value_text b) (relation_text r) (expr_reads k u a) (expr_reads k u b) (reads_few k u alone a) (reads_few k u alone b) (long_relation r)
cond_reads_few k u s (Not a) = behind_sign (encloses_not s) (cond_text in_not a) (codes ".NOT.") (cond_reads k u a) (cond_reads_few k u in_not a)
cond_reads_few k u s (And a b) = both_read (encloses_and s) (cond_text in_or a) (cond_text in_and b) (codes ".AND.") (cond_reads k u a) (cond_reads k u b) (cond_reads_few k u in_or a) (cond_reads_few k u in_and b) (omega arith)
cond_reads_few k u s (Or a b) = both_read (encloses_or s) (cond_text whole a) (cond_text in_or b) (codes ".OR.") (cond_reads k u a) (cond_reads k u b) (cond_reads_few k u whole a) (cond_reads_few k u in_or b) (omega arith)

left_few : (k u : List (List ℕ)) (e : ExprTree) → length (left_accesses k u e) ≤ length (value_text e) + 1
left_few k u (Int n) = omega arith
left_few k u (Var x) = omega (arith, one_at_most k (write_of x []))
left_few k u (Element x es) = element_read x (exprs_text es) (exprs_reads k u es) (unless_constant k (write_of x (listed es))) (all_read_few k u es) (one_at_most k (write_of x (listed es)))
left_few k u (Neg a) = omega arith
left_few k u (Add a b) = omega arith
left_few k u (Sub a b) = omega arith
left_few k u (Mul a b) = omega arith
left_few k u (Div a b) = omega arith
left_few k u (Pow a b) = omega arith
left_few k u (Call f es) = omega arith

item_few : (k u : List (List ℕ)) (i : ItemTree) → length (item_reads k u i) ≤ length (item_text i) + 1
item_few k u (Value e) = reads_few k u alone e
item_few k u (Text t) = omega arith

-- items of a list, each behind a comma and a blank
items_few : {X : Type 0} (reads : X → List Access) (text : X → List ℕ) → ((x : X) → length (reads x) ≤ length (text x) + 1) → (xs : List X) → length (flat_map reads xs) ≤ length (flat_map (λ x. codes ", " ++ text x) xs)
items_few reads text few [] = omega arith
items_few reads text few (x ∷ xs) =
    omega (arith, length-append (reads x) (flat_map reads xs), length-append (codes ", " ++ text x) (flat_map (λ y. codes ", " ++ text y) xs), length-append (codes ", ") (text x), few x, items_few reads text few xs)

privates_few : (k : List (List ℕ)) (names : List (List ℕ)) → length (private_writes k names) ≤ length names
privates_few k [] = omega arith
privates_few k (x ∷ xs) = omega (arith, length-append (unless_constant k (write_of x [])) (private_writes k xs), one_at_most k (write_of x []), privates_few k xs)

further_names : (names : List (List ℕ)) → length names ≤ length (flat_map (λ y. codes ", " ++ y) names)
further_names [] = omega arith
further_names (x ∷ xs) = omega (arith, length-append (codes ", " ++ x) (flat_map (λ y. codes ", " ++ y) xs), length-append (codes ", ") x, further_names xs)

names_few : (names : List (List ℕ)) → length names ≤ length (private_text names)
names_few [] = omega arith
names_few (x ∷ xs) = omega (arith, length-append (codes "PRIVATE ") (names_text (x ∷ xs)), length-append x (flat_map (λ y. codes ", " ++ y) xs), further_names xs)

-- the names of PRIVATE
pub private_few : (k : List (List ℕ)) (names : List (List ℕ)) → length (private_writes k names) ≤ length (private_text names)
private_few k names = omega (arith, privates_few k names, names_few names)

-- the bounds of a DO
pub do_few : (k u : List (List ℕ)) (h : Head) → length (expr_reads k u h.first ++ expr_reads k u h.last) ≤ length (do_text h)
do_few k u h =
    let w = do_word h.parallel in
    let f = value_text h.first in
    let l = value_text h.last in
    let s = step_text h.step in
    let all = length-append (w ++ h.variable ++ codes " = " ++ f ++ codes ", " ++ l) s in
    let front = between (w ++ h.variable ++ codes " = " ++ f) (codes ", ") l in
    let begin = between (w ++ h.variable) (codes " = ") f in
    omega (arith, length-append (expr_reads k u h.first) (expr_reads k u h.last), all, front, begin, reads_few k u alone h.first, reads_few k u alone h.last)

-- a simple statement
pub assignment_few : (k u : List (List ℕ)) (l r : ExprTree) → length (own_accesses k u (Assign l r)) ≤ length (own_text (Assign l r))
assignment_few k u l r = omega (arith, length-append (expr_reads k u r) (left_accesses k u l), between (value_text l) (codes " = ") (value_text r), reads_few k u alone r, left_few k u l)

pub print_few : (k u : List (List ℕ)) (items : List ItemTree) → length (own_accesses k u (Print items)) ≤ length (own_text (Print items))
print_few k u items =
    omega (arith, length-append (flat_map (item_reads k u) items) (write_of (codes "(OUT)") [] ∷ []), length-append (codes "PRINT *") (flat_map (λ i. codes ", " ++ item_text i) items), items_few (item_reads k u) item_text (item_few k u) items)

pub read_few : (k u : List (List ℕ)) (items : List ExprTree) → length (own_accesses k u (Read items)) ≤ length (own_text (Read items))
read_few k u items =
    omega (arith, length-append (codes "READ *") (flat_map (λ e. codes ", " ++ value_text e) items), items_few (left_accesses k u) value_text (left_few k u) items)

-- the condition of an IF
pub if_few : (k u : List (List ℕ)) (c : CondTree) (s t : StmtTrees) → length (own_accesses k u (If c s t)) ≤ length (own_text (If c s t))
if_few k u c s t = omega (arith, between (codes "IF (") (cond_text whole c) (codes ") THEN"), cond_reads_few k u whole c)
