-- What a statement says besides its literals stays the same where each literal is taken as another one.
use Rattle.std.proofs.Common.{◌≡◌, ℕ, Bool, List, [], ◌∷◌, ◌++◌, map, length, Option, refl, ap, ◌∙◌, suc, ◌+◌}
use Rattle.std.specs.Prelude.{◌||◌, not}
use Rattle.std.specs.List.{list_any, flat_map}
use Rattle.ped_tree.specs.Tree.{ExprTree, ExprTrees, Int, Var, Element, Neg, Add, Sub, Mul, Div, Pow, Call, no_exprs, more_exprs, CondTree, Rel, Not, And, Or, ItemTree, Value, Text, Head, StmtTree, StmtTrees, Assign, If, Do, Print, Read, Stop, Comment, no_stmts, more_stmts, BoundTree, DeclaratorTree, DeclTree, Program, Implicit, Integer, Dimension, Parameter, Save, Remark}
use Rattle.ped_tree.specs.Numbering.{statement_count, statements_count}
use Rattle.ped_tree.specs.Grammar.Items.{Item, declares, saves_all, does, continues, logical_if, block_if, else_if, else_line, end_if, begins_do, ends_do, keeps_private, ends_program}
use Rattle.ped_tree.specs.NamesIn.{expr_names, exprs_names, cond_names, item_names, head_names, stmt_names, stmts_names, declarator_names, decl_names}
use Rattle.ped_tree.specs.Grammar.Statement.{Statement}
use Rattle.ped_tree.specs.Grammar.Occurrences.{names_in, do_variables, constants_of, is_end}
use Rattle.ped_tree.specs.Accesses.{constants_in}
use Rattle.ped_tree.specs.Grammar.Contexts.{Block, decl_rank, rank, numbered_in, is_do, is_stop, may_end, is_save, saves_list, saves_without, blocks_behind}
use Rattle.ped_tree.specs.Grammar.ProgramForms.{line_count}
use Rattle.ped_tree.specs.Grammar.ProgramRefusals.{lacks_if, lacks_do, is_late_private, leaves_open, scalar_of, assigned_by, listed_stmts, assigned_in, private_in, stops}
use Rattle.ped_statements.specs.ped_expressions.specs.ExpressionReading.{with_literals, all_with_literals}
use Rattle.ped_statements.specs.ped_expressions.specs.ConditionReading.{cond_with_literals}
use Rattle.ped_statements.specs.Saturated.{item_with_literals, head_with_literals, stmt_with_literals, stmts_with_literals, bound_with_literals, declarator_with_literals, value_with_literals, decl_with_literals, says_with_literals}

pub both : {A B C : Type 0} (f : A → B → C) {a b : A} {c d : B} → a ≡ b → c ≡ d → f a c ≡ f b d
both f {a = a} {b = b} {c = c} {d = d} p q = ap (λ x. f x c) p ∙ ap (λ y. f b y) q

pub flat_with : {A C : Type 0} (f : A → List C) (g : A → A) → ((x : A) → f (g x) ≡ f x) → (xs : List A) → flat_map f (map g xs) ≡ flat_map f xs
flat_with f g h [] = refl
flat_with f g h (x ∷ xs) = both (λ ys zs. ys ++ zs) (h x) (flat_with f g h xs)

pub any_with : {A : Type 0} (p : A → Bool) (g : A → A) → ((x : A) → p (g x) ≡ p x) → (xs : List A) → list_any p (map g xs) ≡ list_any p xs
any_with p g h [] = refl
any_with p g h (x ∷ xs) = both (λ a b. a || b) (h x) (any_with p g h xs)

pub map_with : {A C : Type 0} (f : A → C) (g : A → A) → ((x : A) → f (g x) ≡ f x) → (xs : List A) → map f (map g xs) ≡ map f xs
map_with f g h [] = refl
map_with f g h (x ∷ xs) = both (λ y ys. y ∷ ys) (h x) (map_with f g h xs)

pub length_with : {A : Type 0} (g : A → A) (xs : List A) → length (map g xs) ≡ length xs
length_with g [] = refl
length_with g (x ∷ xs) = ap suc (length_with g xs)

-- the two lists of names, one behind the other
abbrev joined : List (List ℕ) → List (List ℕ) → List (List ℕ)
joined xs ys = xs ++ ys

mutual
  pub expr_names_with : (v : ℕ → ℕ) (e : ExprTree) → expr_names (with_literals v e) ≡ expr_names e
  expr_names_with v (Int n) = refl
  expr_names_with v (Var x) = refl
  expr_names_with v (Element x es) = ap (λ (ys : List (List ℕ)). x ∷ ys) (exprs_names_with v es)
  expr_names_with v (Neg a) = expr_names_with v a
  expr_names_with v (Add a b) = both joined (expr_names_with v a) (expr_names_with v b)
  expr_names_with v (Sub a b) = both joined (expr_names_with v a) (expr_names_with v b)
  expr_names_with v (Mul a b) = both joined (expr_names_with v a) (expr_names_with v b)
  expr_names_with v (Div a b) = both joined (expr_names_with v a) (expr_names_with v b)
  expr_names_with v (Pow a b) = both joined (expr_names_with v a) (expr_names_with v b)
  expr_names_with v (Call f es) = exprs_names_with v es

  exprs_names_with : (v : ℕ → ℕ) (es : ExprTrees) → exprs_names (all_with_literals v es) ≡ exprs_names es
  exprs_names_with v no_exprs = refl
  exprs_names_with v (more_exprs e es) = both joined (expr_names_with v e) (exprs_names_with v es)

cond_names_with : (v : ℕ → ℕ) (c : CondTree) → cond_names (cond_with_literals v c) ≡ cond_names c
cond_names_with v (Rel r a b) = both joined (expr_names_with v a) (expr_names_with v b)
cond_names_with v (Not a) = cond_names_with v a
cond_names_with v (And a b) = both joined (cond_names_with v a) (cond_names_with v b)
cond_names_with v (Or a b) = both joined (cond_names_with v a) (cond_names_with v b)

item_names_with : (v : ℕ → ℕ) (i : ItemTree) → item_names (item_with_literals v i) ≡ item_names i
item_names_with v (Value e) = expr_names_with v e
item_names_with v (Text t) = refl

head_names_with : (v : ℕ → ℕ) (h : Head) → head_names (head_with_literals v h) ≡ head_names h
head_names_with v h =
    ap (λ (ys : List (List ℕ)). h.rejected ++ h.variable ∷ ys) (ap (λ (ys : List (List ℕ)). ys ++ h.private) (both joined (both joined (expr_names_with v h.first) (expr_names_with v h.last)) (expr_names_with v h.step)))

mutual
  stmt_names_with : (v : ℕ → ℕ) (s : StmtTree) → stmt_names (stmt_with_literals v s) ≡ stmt_names s
  stmt_names_with v (Assign l r) = both joined (expr_names_with v l) (expr_names_with v r)
  stmt_names_with v (If c a b) = both joined (both joined (cond_names_with v c) (stmts_names_with v a)) (stmts_names_with v b)
  stmt_names_with v (Do h b) = both joined (head_names_with v h) (stmts_names_with v b)
  stmt_names_with v (Print items) = flat_with item_names (item_with_literals v) (item_names_with v) items
  stmt_names_with v (Read items) = flat_with expr_names (with_literals v) (expr_names_with v) items
  stmt_names_with v Stop = refl
  stmt_names_with v (Comment t) = refl

  stmts_names_with : (v : ℕ → ℕ) (s : StmtTrees) → stmts_names (stmts_with_literals v s) ≡ stmts_names s
  stmts_names_with v no_stmts = refl
  stmts_names_with v (more_stmts s rest) = both joined (stmt_names_with v s) (stmts_names_with v rest)

bound_names_with : (v : ℕ → ℕ) (b : BoundTree) → expr_names (bound_with_literals v b).lower ++ expr_names (bound_with_literals v b).upper ≡ expr_names b.lower ++ expr_names b.upper
bound_names_with v b = both joined (expr_names_with v b.lower) (expr_names_with v b.upper)

declarator_names_with : (v : ℕ → ℕ) (d : DeclaratorTree) → declarator_names (declarator_with_literals v d) ≡ declarator_names d
declarator_names_with v d = ap (λ (ys : List (List ℕ)). d.name ∷ ys) (flat_with (λ (b : BoundTree). expr_names b.lower ++ expr_names b.upper) (bound_with_literals v) (bound_names_with v) d.bounds)

decl_names_with : (v : ℕ → ℕ) (d : DeclTree) → decl_names (decl_with_literals v d) ≡ decl_names d
decl_names_with v (Program x) = refl
decl_names_with v Implicit = refl
decl_names_with v (Integer ds) = flat_with declarator_names (declarator_with_literals v) (declarator_names_with v) ds
decl_names_with v (Dimension ds) = flat_with declarator_names (declarator_with_literals v) (declarator_names_with v) ds
decl_names_with v (Parameter values) =
    flat_with (λ (c : List ℕ × ExprTree). c.0 ∷ expr_names c.1) (value_with_literals v) (λ c. ap (λ (ys : List (List ℕ)). c.0 ∷ ys) (expr_names_with v c.1)) values
decl_names_with v (Save names) = refl
decl_names_with v (Remark text) = refl

pub names_with : (v : ℕ → ℕ) (i : Item) → names_in (says_with_literals v i) ≡ names_in i
names_with v (declares d) = decl_names_with v d
names_with v (does s) = stmt_names_with v s
names_with v (logical_if c s) = both joined (cond_names_with v c) (stmts_names_with v s)
names_with v (block_if c) = cond_names_with v c
names_with v (else_if c) = cond_names_with v c
names_with v (begins_do label h) = head_names_with v h
names_with v i = refl

pub do_variables_with : (v : ℕ → ℕ) (i : Item) → do_variables (says_with_literals v i) ≡ do_variables i
do_variables_with v i = elim i as (λ i. do_variables (says_with_literals v i) ≡ do_variables i) [
  | declares d ↦ refl
  | saves_all ↦ refl
  | does s ↦ refl
  | continues ↦ refl
  | logical_if c s ↦ refl
  | block_if c ↦ refl
  | else_if c ↦ refl
  | else_line ↦ refl
  | end_if ↦ refl
  | begins_do l h ↦ refl
  | ends_do ↦ refl
  | keeps_private names ↦ refl
  | ends_program ↦ refl
]

constants_in_with : (v : ℕ → ℕ) (d : DeclTree) → constants_in (decl_with_literals v d) ≡ constants_in d
constants_in_with v (Parameter values) = map_with (λ (c : List ℕ × ExprTree). c.0) (value_with_literals v) (λ c. refl) values
constants_in_with v (Program x) = refl
constants_in_with v Implicit = refl
constants_in_with v (Integer ds) = refl
constants_in_with v (Dimension ds) = refl
constants_in_with v (Save names) = refl
constants_in_with v (Remark text) = refl

pub constants_with : (v : ℕ → ℕ) (i : Item) → constants_of (says_with_literals v i) ≡ constants_of i
constants_with v (declares d) = constants_in_with v d
constants_with v i = refl

rank_of_decl : (v : ℕ → ℕ) (d : DeclTree) → decl_rank (decl_with_literals v d) ≡ decl_rank d
rank_of_decl v (Program x) = refl
rank_of_decl v d = refl

pub rank_with : (v : ℕ → ℕ) (i : Item) → rank (says_with_literals v i) ≡ rank i
rank_with v (declares d) = rank_of_decl v d
rank_with v i = refl

mutual
  count_with : (v : ℕ → ℕ) (s : StmtTree) → statement_count (stmt_with_literals v s) ≡ statement_count s
  count_with v (Assign l r) = refl
  count_with v (If c a b) = both (λ m n. m + n + 1) (counts_with v a) (counts_with v b)
  count_with v (Do h b) = ap (λ n. n + 1) (counts_with v b)
  count_with v (Print items) = refl
  count_with v (Read items) = refl
  count_with v Stop = refl
  count_with v (Comment t) = refl

  counts_with : (v : ℕ → ℕ) (s : StmtTrees) → statements_count (stmts_with_literals v s) ≡ statements_count s
  counts_with v no_stmts = refl
  counts_with v (more_stmts s rest) = both (λ m n. m + n) (count_with v s) (counts_with v rest)

pub numbered_with : (v : ℕ → ℕ) (i : Item) → numbered_in (says_with_literals v i) ≡ numbered_in i
numbered_with v (does s) = count_with v s
numbered_with v (logical_if c s) = ap (λ n. n + 1) (counts_with v s)
numbered_with v i = refl

pub is_do_with : (v : ℕ → ℕ) (i : Item) → is_do (says_with_literals v i) ≡ is_do i
is_do_with v (declares d) = refl
is_do_with v i = refl

pub is_stop_with : (v : ℕ → ℕ) (s : StmtTree) → is_stop (stmt_with_literals v s) ≡ is_stop s
is_stop_with v (Assign l r) = refl
is_stop_with v s = refl

pub may_end_with : (v : ℕ → ℕ) (i : Item) → may_end (says_with_literals v i) ≡ may_end i
may_end_with v (does (Assign l r)) = refl
may_end_with v (does s) = ap (λ (b : Bool). not b) (is_stop_with v s)
may_end_with v i = refl

is_save_with : (v : ℕ → ℕ) (d : DeclTree) → is_save (decl_with_literals v d) ≡ is_save d
is_save_with v (Program x) = refl
is_save_with v d = refl

pub saves_list_with : (v : ℕ → ℕ) (i : Item) → saves_list (says_with_literals v i) ≡ saves_list i
saves_list_with v (declares d) = is_save_with v d
saves_list_with v i = refl

pub saves_without_with : (v : ℕ → ℕ) (i : Item) → saves_without (says_with_literals v i) ≡ saves_without i
saves_without_with v (declares d) = refl
saves_without_with v i = refl

pub lacks_if_with : (v : ℕ → ℕ) (c : List Block) (i : Item) → lacks_if c (says_with_literals v i) ≡ lacks_if c i
lacks_if_with v c (declares d) = refl
lacks_if_with v c i = refl

pub lacks_do_with : (v : ℕ → ℕ) (c : List Block) (label : Option ℕ) (i : Item) → lacks_do c label (says_with_literals v i) ≡ lacks_do c label i
lacks_do_with v c label (declares d) = refl
lacks_do_with v c label i = refl

pub late_with : (v : ℕ → ℕ) (b : Bool) (i : Item) → is_late_private b (says_with_literals v i) ≡ is_late_private b i
late_with v b (declares d) = refl
late_with v b i = refl

pub leaves_with : (v : ℕ → ℕ) (c : List Block) (i : Item) → leaves_open c (says_with_literals v i) ≡ leaves_open c i
leaves_with v c (declares d) = refl
leaves_with v c i = refl

scalar_with : (v : ℕ → ℕ) (e : ExprTree) → scalar_of (with_literals v e) ≡ scalar_of e
scalar_with v (Int n) = refl
scalar_with v e = refl

assigned_by_with : (v : ℕ → ℕ) (s : StmtTree) → assigned_by (stmt_with_literals v s) ≡ assigned_by s
assigned_by_with v (Assign l r) = scalar_with v l
assigned_by_with v (Read items) = flat_with scalar_of (with_literals v) (scalar_with v) items
assigned_by_with v s = refl

pub listed_with : (v : ℕ → ℕ) (s : StmtTrees) → listed_stmts (stmts_with_literals v s) ≡ map (stmt_with_literals v) (listed_stmts s)
listed_with v no_stmts = refl
listed_with v (more_stmts s rest) = ap (λ (ys : List StmtTree). stmt_with_literals v s ∷ ys) (listed_with v rest)

pub assigned_with : (v : ℕ → ℕ) (i : Item) → assigned_in (says_with_literals v i) ≡ assigned_in i
assigned_with v (does s) = assigned_by_with v s
assigned_with v (logical_if c s) = ap (λ (ys : List StmtTree). flat_map assigned_by ys) (listed_with v s) ∙ flat_with assigned_by (stmt_with_literals v) (assigned_by_with v) (listed_stmts s)
assigned_with v i = refl

pub private_with : (v : ℕ → ℕ) (i : Item) → private_in (says_with_literals v i) ≡ private_in i
private_with v (declares d) = refl
private_with v i = refl

pub stops_with : (v : ℕ → ℕ) (i : Item) → stops (says_with_literals v i) ≡ stops i
stops_with v (does s) = is_stop_with v s
stops_with v (logical_if c s) = ap (λ (ys : List StmtTree). list_any is_stop ys) (listed_with v s) ∙ any_with is_stop (stmt_with_literals v) (is_stop_with v) (listed_stmts s)
stops_with v i = refl

pub blocks_with : (v : ℕ → ℕ) (behind_do : Bool) (s : Statement) (i : Item) (c : List Block) → blocks_behind behind_do s (says_with_literals v i) c ≡ blocks_behind behind_do s i c
blocks_with v behind_do s (does t) c = refl
blocks_with v behind_do s i c = refl

pub is_end_with : (v : ℕ → ℕ) (i : Item) → is_end (says_with_literals v i) ≡ is_end i
is_end_with v (declares d) = refl
is_end_with v i = refl

pub line_count_with : (v : ℕ → ℕ) (saved : List (List ℕ)) (i : Item) → line_count saved (says_with_literals v i) ≡ line_count saved i
line_count_with v saved (does s) = count_with v s
line_count_with v saved (logical_if c s) = ap (λ n. n + 1) (counts_with v s)
line_count_with v saved i = refl
