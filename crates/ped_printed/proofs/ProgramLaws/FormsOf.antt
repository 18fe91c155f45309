-- What fits has a form, without a literal that is too large.
use Rattle.std.proofs.Common.{◌≡◌, ℕ, suc, List, [], ◌∷◌, map, length, Bool, true, false, Option, Some, None, refl, ap, arith}
use Rattle.std.specs.Prelude.{◌||◌, nat_lt, nat_le}
use Rattle.std.specs.List.{list_all, list_any}
use Rattle.std.proofs.lemmas.Bool.{and_parts, or_from, le-leb}
use Rattle.ped_lines.specs.ped_base.specs.Lists.{has_some}
use Rattle.ped_lines.specs.ped_tree.specs.declared.expressions.Intrinsic.{Intrinsic}
use Rattle.ped_lines.specs.ped_tree.specs.declared.expressions.Intrinsic.TheVariants.{Mod, Abs, Max, Min}
use Rattle.ped_lines.specs.ped_tree.specs.Tree.{ExprTree, ExprTrees, Int, Var, Element, Neg, Add, Sub, Mul, Div, Pow, Call, no_exprs, more_exprs, CondTree, Rel, Not, And, Or, ItemTree, Value, Text, StmtTree, Assign, If, Do, Print, Read, Stop, Comment, BoundTree, DeclaratorTree, DeclTree, Program, Implicit, Integer, Dimension, Parameter, Save, Remark}
use Rattle.ped_lines.specs.ped_tree.specs.Printing.{is_remark}
use Rattle.ped_lines.specs.ped_tree.specs.Grammar.Words.{is_name, intrinsic_of}
use Rattle.ped_lines.specs.ped_tree.specs.Grammar.Literals.{has_large_literal, have_large_literal, cond_has_large_literal, item_has_large_literal, declarator_has_large_literal, decl_has_large_literal}
use Rattle.ped_lines.specs.ped_tree.specs.Grammar.ExpressionForms.{ExprForm, expr_form_tree, ReferenceForm, scalar, element, reference_form_tree}
use Rattle.ped_lines.specs.ped_tree.specs.Grammar.ConditionForms.{CondForm, cond_form_tree}
use Rattle.ped_lines.specs.ped_tree.specs.Grammar.Items.{Item, declares, does, block_if, begins_do, keeps_private}
use Rattle.ped_lines.specs.ped_tree.specs.Grammar.BlockForms.{whole_head}
use Rattle.ped_lines.specs.ped_tree.specs.Grammar.StatementForms.{BoundForm, both_bounds, ArrayForm, an_array, DeclaratorForm, a_scalar, of_array, ConstantForm, a_constant, ItemForm, a_value, a_text, assignment, print, read, stop, no_label, control, StatementForm, program, implicit, integer, dimension, parameter, save, simple, if_then, do_loop, private, bound_form_tree, array_form_tree, declarator_form_tree, constant_form_tree, item_form_tree, statement_form_text, statement_item, are_names, ReadsItem}
use Rattle.ped_lines.specs.ped_tree.specs.Grammar.ProgramRefusals.{is_too_large, has_eight_dimensions}
use Rattle.ped_lines.specs.ped_tree.specs.Grammar.Fits.{is_no_intrinsic, takes_arguments, has_expr, expr_fits, exprs_fit, target_fits, cond_fits, item_fits, bound_fits, declarator_fits, array_fits, constant_fits, decl_fits}
use Rattle.ped_statements.specs.ped_expressions.specs.ExpressionReading.{expr_count, takes}
use Rattle.ped_statements.specs.ped_expressions.proofs.Printed.{Stands, SomeStand, AllStand, printed, printed_exprs}
use Rattle.ped_statements.specs.ped_expressions.proofs.CondPrinted.{CondStands, cond_printed}
use Rattle.ped_printed.specs.Statements.Printed.{SaysFirstLine, itself, of_block_if, of_do, first_line_item}
use Rattle.ped_printed.proofs.ProgramLaws.Fits.{own_fits}

-- expressions

pub up_to : (n m : ℕ) → nat_le n m ≡ true → nat_lt m n ≡ false
up_to n m h = grind arith

none_there : (o : Option Intrinsic) → is_no_intrinsic o ≡ true → o ≡ None
none_there None h = refl
none_there (Some f) h = absurd cc

some_there : (es : ExprTrees) → has_expr es ≡ true → AllStand es → SomeStand es
some_there no_exprs h k = absurd cc
some_there (more_exprs e es) h k = k

two_or_more : (n : ℕ) → nat_le 2 (suc (suc n)) ≡ true
two_or_more n = le-leb _ _ (omega arith)

takes_so_many : (f : Intrinsic) (es : ExprTrees) → takes_arguments f es ≡ true → (takes f (expr_count es) ≡ true) × (has_expr es ≡ true)
takes_so_many Mod no_exprs h = absurd cc
takes_so_many Mod (more_exprs a no_exprs) h = absurd cc
takes_so_many Mod (more_exprs a (more_exprs b no_exprs)) h = (refl, refl)
takes_so_many Mod (more_exprs a (more_exprs b (more_exprs c rest))) h = absurd cc
takes_so_many Abs no_exprs h = absurd cc
takes_so_many Abs (more_exprs a no_exprs) h = (refl, refl)
takes_so_many Abs (more_exprs a (more_exprs b rest)) h = absurd cc
takes_so_many Max no_exprs h = absurd cc
takes_so_many Max (more_exprs a no_exprs) h = absurd cc
takes_so_many Max (more_exprs a (more_exprs b rest)) h = (two_or_more (expr_count rest), refl)
takes_so_many Min no_exprs h = absurd cc
takes_so_many Min (more_exprs a no_exprs) h = absurd cc
takes_so_many Min (more_exprs a (more_exprs b rest)) h = (two_or_more (expr_count rest), refl)

mutual
  stands : (e : ExprTree) → expr_fits e ≡ true → Stands e
  stands (Int n) h = up_to n 2147483647 h
  stands (Var x) h = h
  stands (Element x es) h =
      let a = and_parts _ (exprs_fit es) h in
      let b = and_parts _ (has_expr es) a.0 in
      let c = and_parts (is_name x) (is_no_intrinsic (intrinsic_of x)) b.0 in
      (c.0, none_there (intrinsic_of x) c.1, some_there es b.1 (all_stand es a.1))
  stands (Neg a) h = stands a h
  stands (Add a b) h = let k = and_parts (expr_fits a) (expr_fits b) h in (stands a k.0, stands b k.1)
  stands (Sub a b) h = let k = and_parts (expr_fits a) (expr_fits b) h in (stands a k.0, stands b k.1)
  stands (Mul a b) h = let k = and_parts (expr_fits a) (expr_fits b) h in (stands a k.0, stands b k.1)
  stands (Div a b) h = let k = and_parts (expr_fits a) (expr_fits b) h in (stands a k.0, stands b k.1)
  stands (Pow a b) h = let k = and_parts (expr_fits a) (expr_fits b) h in (stands a k.0, stands b k.1)
  stands (Call f es) h =
      let k = and_parts (takes_arguments f es) (exprs_fit es) h in
      let n = takes_so_many f es k.0 in
      (n.0, some_there es n.1 (all_stand es k.1))

  all_stand : (es : ExprTrees) → exprs_fit es ≡ true → AllStand es
  all_stand no_exprs h = tt
  all_stand (more_exprs e es) h = let k = and_parts (expr_fits e) (exprs_fit es) h in (stands e k.0, all_stand es k.1)

mutual
  expr_small : (e : ExprTree) → expr_fits e ≡ true → has_large_literal e ≡ false
  expr_small (Int n) h = up_to n 2147483647 h
  expr_small (Var x) h = refl
  expr_small (Element x es) h = exprs_small es (and_parts _ (exprs_fit es) h).1
  expr_small (Neg a) h = expr_small a h
  expr_small (Add a b) h = let k = and_parts (expr_fits a) (expr_fits b) h in or_from _ _ (expr_small a k.0) (expr_small b k.1)
  expr_small (Sub a b) h = let k = and_parts (expr_fits a) (expr_fits b) h in or_from _ _ (expr_small a k.0) (expr_small b k.1)
  expr_small (Mul a b) h = let k = and_parts (expr_fits a) (expr_fits b) h in or_from _ _ (expr_small a k.0) (expr_small b k.1)
  expr_small (Div a b) h = let k = and_parts (expr_fits a) (expr_fits b) h in or_from _ _ (expr_small a k.0) (expr_small b k.1)
  expr_small (Pow a b) h = let k = and_parts (expr_fits a) (expr_fits b) h in or_from _ _ (expr_small a k.0) (expr_small b k.1)
  expr_small (Call f es) h = exprs_small es (and_parts (takes_arguments f es) (exprs_fit es) h).1

  exprs_small : (es : ExprTrees) → exprs_fit es ≡ true → have_large_literal es ≡ false
  exprs_small no_exprs h = refl
  exprs_small (more_exprs e es) h = let k = and_parts (expr_fits e) (exprs_fit es) h in or_from _ _ (expr_small e k.0) (exprs_small es k.1)

expr_of : (e : ExprTree) → expr_fits e ≡ true → (f : ExprForm) × (expr_form_tree f ≡ e)
expr_of e h = let p = (printed e (stands e h)).expr_form in (p.0, p.2)

-- scalars and elements

target_of : (e : ExprTree) → target_fits e ≡ true → (f : ReferenceForm) × (reference_form_tree f ≡ e)
target_of (Int n) h = absurd cc
target_of (Var x) h = (scalar x h, refl)
target_of (Element x es) h = let s = stands (Element x es) h in let a = printed_exprs es s.2 in (element x s.0 s.1 a.0, ap (Element x) a.2)
target_of (Neg a) h = absurd cc
target_of (Add a b) h = absurd cc
target_of (Sub a b) h = absurd cc
target_of (Mul a b) h = absurd cc
target_of (Div a b) h = absurd cc
target_of (Pow a b) h = absurd cc
target_of (Call f es) h = absurd cc

target_small : (e : ExprTree) → target_fits e ≡ true → has_large_literal e ≡ false
target_small (Int n) h = absurd cc
target_small (Var x) h = refl
target_small (Element x es) h = expr_small (Element x es) h
target_small (Neg a) h = absurd cc
target_small (Add a b) h = absurd cc
target_small (Sub a b) h = absurd cc
target_small (Mul a b) h = absurd cc
target_small (Div a b) h = absurd cc
target_small (Pow a b) h = absurd cc
target_small (Call f es) h = absurd cc

-- conditions

cond_stands : (c : CondTree) → cond_fits c ≡ true → CondStands c
cond_stands (Rel r a b) h = let k = and_parts (expr_fits a) (expr_fits b) h in (stands a k.0, stands b k.1)
cond_stands (Not a) h = cond_stands a h
cond_stands (And a b) h = let k = and_parts (cond_fits a) (cond_fits b) h in (cond_stands a k.0, cond_stands b k.1)
cond_stands (Or a b) h = let k = and_parts (cond_fits a) (cond_fits b) h in (cond_stands a k.0, cond_stands b k.1)

cond_small : (c : CondTree) → cond_fits c ≡ true → cond_has_large_literal c ≡ false
cond_small (Rel r a b) h = let k = and_parts (expr_fits a) (expr_fits b) h in or_from _ _ (expr_small a k.0) (expr_small b k.1)
cond_small (Not a) h = cond_small a h
cond_small (And a b) h = let k = and_parts (cond_fits a) (cond_fits b) h in or_from _ _ (cond_small a k.0) (cond_small b k.1)
cond_small (Or a b) h = let k = and_parts (cond_fits a) (cond_fits b) h in or_from _ _ (cond_small a k.0) (cond_small b k.1)

cond_of : (c : CondTree) → cond_fits c ≡ true → (f : CondForm) × (cond_form_tree f ≡ c)
cond_of c h = let p = (cond_printed c (cond_stands c h)).cond_form in (p.0, p.2)

-- lists

each_of : {F T : Type 0} (tree : F → T) (test : T → Bool) → ((t : T) → test t ≡ true → (f : F) × (tree f ≡ t)) → (ts : List T) → list_all test ts ≡ true → (fs : List F) × (map tree fs ≡ ts)
each_of tree test each [] h = ([], refl)
each_of tree test each (t ∷ ts) h =
    let k = and_parts (test t) (list_all test ts) h in
    let a = each t k.0 in
    let b = each_of tree test each ts k.1 in
    (a.0 ∷ b.0, λ i. a.1 i ∷ b.1 i)

none_of : {T : Type 0} (test bad : T → Bool) → ((t : T) → test t ≡ true → bad t ≡ false) → (ts : List T) → list_all test ts ≡ true → list_any bad ts ≡ false
none_of test bad each [] h = refl
none_of test bad each (t ∷ ts) h = let k = and_parts (test t) (list_all test ts) h in or_from (bad t) (list_any bad ts) (each t k.0) (none_of test bad each ts k.1)

-- statements

item_of : (i : ItemTree) → item_fits i ≡ true → (f : ItemForm) × (item_form_tree f ≡ i)
item_of (Value e) h = let a = expr_of e h in (a_value a.0, ap Value a.1)
item_of (Text text) h = (a_text text, refl)

item_small : (i : ItemTree) → item_fits i ≡ true → item_has_large_literal i ≡ false
item_small (Value e) h = expr_small e h
item_small (Text text) h = refl

-- some text says the statement, or its first line, without a literal that is too large
pub record IsSaid (s : StmtTree) : Type 0 where
  pub text : List ℕ
  pub item : Item
  pub reads : ReadsItem text item
  pub small : is_too_large item ≡ false
  pub says : SaysFirstLine item s

said_by : (s : StmtTree) (f : StatementForm) (i : Item) → statement_item f ≡ i → is_too_large i ≡ false → SaysFirstLine i s → IsSaid s
said_by s f i e small says = record { text = statement_form_text f; item = i; reads = (f, refl, e); small = small; says = says }

-- the first line of a statement, as it is printed, has no literal that is too large
pub first_small : (s : StmtTree) → own_fits s ≡ true → is_too_large (first_line_item s) ≡ false
first_small (Assign l r) h = let k = and_parts (target_fits l) (expr_fits r) h in or_from _ _ (target_small l k.0) (expr_small r k.1)
first_small (If c x y) h = cond_small c h
first_small (Do k body) h =
    let p = and_parts _ (expr_fits k.step) h in
    let q = and_parts _ (expr_fits k.last) p.0 in
    let r = and_parts (is_name k.variable) (expr_fits k.first) q.0 in
    or_from _ _ (or_from _ _ (expr_small k.first r.1) (expr_small k.last q.1)) (expr_small k.step p.1)
first_small (Print items) h = none_of item_fits item_has_large_literal item_small items h
first_small (Read items) h = none_of target_fits has_large_literal target_small items h
first_small Stop h = refl
first_small (Comment text) h = absurd cc

pub own_said : (s : StmtTree) → own_fits s ≡ true → IsSaid s
own_said (Assign l r) h =
    let k = and_parts (target_fits l) (expr_fits r) h in
    let a = target_of l k.0 in
    let b = expr_of r k.1 in
    said_by (Assign l r) (simple (assignment a.0 b.0)) (does (Assign l r)) (λ i. does (Assign (a.1 i) (b.1 i))) (first_small (Assign l r) h) (itself refl)
own_said (If c x y) h = let a = cond_of c h in said_by (If c x y) (if_then a.0) (block_if c) (ap block_if a.1) (cond_small c h) (of_block_if c x y refl refl)
own_said (Do k body) h =
    let p = and_parts _ (expr_fits k.step) h in
    let q = and_parts _ (expr_fits k.last) p.0 in
    let r = and_parts (is_name k.variable) (expr_fits k.first) q.0 in
    let a = expr_of k.first r.1 in
    let b = expr_of k.last q.1 in
    let c = expr_of k.step p.1 in
    let head = whole_head k [] [] in
    said_by (Do k body) (do_loop k.parallel no_label (control k.variable r.0 a.0 b.0 (Some c.0))) (begins_do None head)
    (λ i. begins_do None (record { variable = k.variable; first = a.1 i; last = b.1 i; step = c.1 i; parallel = k.parallel; private = []; rejected = [] }))
    (first_small (Do k body) h) (of_do None head k.private k.rejected body refl refl)
own_said (Print items) h =
    let a = each_of item_form_tree item_fits item_of items h in
    said_by (Print items) (simple (print a.0)) (does (Print items)) (λ i. does (Print (a.1 i))) (first_small (Print items) h) (itself refl)
own_said (Read items) h =
    let a = each_of reference_form_tree target_fits target_of items h in
    said_by (Read items) (simple (read a.0)) (does (Read items)) (λ i. does (Read (a.1 i))) (first_small (Read items) h) (itself refl)
own_said Stop h = said_by Stop (simple stop) (does Stop) refl refl (itself refl)
own_said (Comment text) h = absurd cc

pub private_said : (names : List (List ℕ)) → are_names names ≡ true → (text : List ℕ) × ReadsItem text (keeps_private names)
private_said names h = (statement_form_text (private names h), (private names h, refl, refl))

-- declarations

bound_of : (b : BoundTree) → bound_fits b ≡ true → (f : BoundForm) × (bound_form_tree f ≡ b)
bound_of b h =
    let k = and_parts (expr_fits b.lower) (expr_fits b.upper) h in
    let l = expr_of b.lower k.0 in
    let u = expr_of b.upper k.1 in
    (both_bounds l.0 u.0, λ i. record { lower = l.1 i; upper = u.1 i })

array_named : (x : List ℕ) (bs : List BoundTree) → is_name x ≡ true → has_some bs ≡ true → list_all bound_fits bs ≡ true → (f : ArrayForm) × (array_form_tree f ≡ (record { name = x; bounds = bs }))
array_named x [] is some h = absurd cc
array_named x (b ∷ bs) is some h =
    let k = and_parts (bound_fits b) (list_all bound_fits bs) h in
    let a = bound_of b k.0 in
    let c = each_of bound_form_tree bound_fits bound_of bs k.1 in
    (an_array x is a.0 c.0, λ i. record { name = x; bounds = a.1 i ∷ c.1 i })

declarator_named : (x : List ℕ) (bs : List BoundTree) → is_name x ≡ true → list_all bound_fits bs ≡ true → (f : DeclaratorForm) × (declarator_form_tree f ≡ (record { name = x; bounds = bs }))
declarator_named x [] is h = (a_scalar x is, refl)
declarator_named x (b ∷ bs) is h = let a = array_named x (b ∷ bs) is refl h in (of_array a.0, a.1)

-- a name and bounds that fit, not too many
record DeclaratorFits (d : DeclaratorTree) : Type 0 where
  name : is_name d.name ≡ true
  few : nat_le (length d.bounds) 7 ≡ true
  bounds : list_all bound_fits d.bounds ≡ true

declarator_parts : (d : DeclaratorTree) → declarator_fits d ≡ true → DeclaratorFits d
declarator_parts d h =
    let a = and_parts _ (list_all bound_fits d.bounds) h in
    let b = and_parts (is_name d.name) (nat_le (length d.bounds) 7) a.0 in
    record { name = b.0; few = b.1; bounds = a.1 }

declarator_of : (d : DeclaratorTree) → declarator_fits d ≡ true → (f : DeclaratorForm) × (declarator_form_tree f ≡ d)
declarator_of d h = let p = declarator_parts d h in declarator_named d.name d.bounds p.name p.bounds

array_of : (d : DeclaratorTree) → array_fits d ≡ true → (f : ArrayForm) × (array_form_tree f ≡ d)
array_of d h =
    let k = and_parts (declarator_fits d) (has_some d.bounds) h in
    let p = declarator_parts d k.0 in
    array_named d.name d.bounds p.name k.1 p.bounds

constant_of : (v : List ℕ × ExprTree) → constant_fits v ≡ true → (f : ConstantForm) × (constant_form_tree f ≡ v)
constant_of v h =
    let k = and_parts (is_name v.0) (expr_fits v.1) h in
    let a = expr_of v.1 k.1 in
    (a_constant v.0 k.0 a.0, λ i. (v.0, a.1 i))

declared_of : (d : DeclTree) → is_remark d ≡ false → decl_fits d ≡ true → (f : StatementForm) × (statement_item f ≡ declares d)
declared_of (Program x) other h = (program x h, refl)
declared_of Implicit other h = (implicit, refl)
declared_of (Integer []) other h = absurd cc
declared_of (Integer (d ∷ ds)) other h =
    let k = and_parts (declarator_fits d) (list_all declarator_fits ds) h in
    let a = declarator_of d k.0 in
    let b = each_of declarator_form_tree declarator_fits declarator_of ds k.1 in
    (integer a.0 b.0, λ i. declares (Integer (a.1 i ∷ b.1 i)))
declared_of (Dimension []) other h = absurd cc
declared_of (Dimension (d ∷ ds)) other h =
    let k = and_parts (array_fits d) (list_all array_fits ds) h in
    let a = array_of d k.0 in
    let b = each_of array_form_tree array_fits array_of ds k.1 in
    (dimension a.0 b.0, λ i. declares (Dimension (a.1 i ∷ b.1 i)))
declared_of (Parameter []) other h = absurd cc
declared_of (Parameter (v ∷ vs)) other h =
    let k = and_parts (constant_fits v) (list_all constant_fits vs) h in
    let a = constant_of v k.0 in
    let b = each_of constant_form_tree constant_fits constant_of vs k.1 in
    (parameter a.0 b.0, λ i. declares (Parameter (a.1 i ∷ b.1 i)))
declared_of (Save names) other h = (save names h, refl)
declared_of (Remark text) other h = absurd cc

pub declared_said : (d : DeclTree) → is_remark d ≡ false → decl_fits d ≡ true → (text : List ℕ) × ReadsItem text (declares d)
declared_said d other h = let a = declared_of d other h in (statement_form_text a.0, (a.0, refl, a.1))

bound_small : (b : BoundTree) → bound_fits b ≡ true → (has_large_literal b.lower || has_large_literal b.upper) ≡ false
bound_small b h = let k = and_parts (expr_fits b.lower) (expr_fits b.upper) h in or_from _ _ (expr_small b.lower k.0) (expr_small b.upper k.1)

declarator_small : (d : DeclaratorTree) → declarator_fits d ≡ true → declarator_has_large_literal d ≡ false
declarator_small d h = none_of bound_fits _ bound_small d.bounds (declarator_parts d h).bounds

array_small : (d : DeclaratorTree) → array_fits d ≡ true → declarator_has_large_literal d ≡ false
array_small d h = declarator_small d (and_parts (declarator_fits d) (has_some d.bounds) h).0

declarator_few : (d : DeclaratorTree) → declarator_fits d ≡ true → nat_lt 7 (length d.bounds) ≡ false
declarator_few d h = up_to (length d.bounds) 7 (declarator_parts d h).few

array_few : (d : DeclaratorTree) → array_fits d ≡ true → nat_lt 7 (length d.bounds) ≡ false
array_few d h = declarator_few d (and_parts (declarator_fits d) (has_some d.bounds) h).0

constant_small : (v : List ℕ × ExprTree) → constant_fits v ≡ true → has_large_literal v.1 ≡ false
constant_small v h = expr_small v.1 (and_parts (is_name v.0) (expr_fits v.1) h).1

pub declared_small : (d : DeclTree) → decl_fits d ≡ true → decl_has_large_literal d ≡ false
declared_small (Program x) h = refl
declared_small Implicit h = refl
declared_small (Integer ds) h = none_of declarator_fits declarator_has_large_literal declarator_small ds (and_parts (has_some ds) (list_all declarator_fits ds) h).1
declared_small (Dimension ds) h = none_of array_fits declarator_has_large_literal array_small ds (and_parts (has_some ds) (list_all array_fits ds) h).1
declared_small (Parameter vs) h = none_of constant_fits (λ v. has_large_literal v.1) constant_small vs (and_parts (has_some vs) (list_all constant_fits vs) h).1
declared_small (Save names) h = refl
declared_small (Remark text) h = refl

pub declared_few : (d : DeclTree) → decl_fits d ≡ true → has_eight_dimensions d ≡ false
declared_few (Program x) h = refl
declared_few Implicit h = refl
declared_few (Integer ds) h = none_of declarator_fits (λ d. nat_lt 7 (length d.bounds)) declarator_few ds (and_parts (has_some ds) (list_all declarator_fits ds) h).1
declared_few (Dimension ds) h = none_of array_fits (λ d. nat_lt 7 (length d.bounds)) array_few ds (and_parts (has_some ds) (list_all array_fits ds) h).1
declared_few (Parameter vs) h = refl
declared_few (Save names) h = refl
declared_few (Remark text) h = refl
