-- What a text says fits, where no literal in it is too large.
use Rattle.std.proofs.Common.{◌≡◌, ℕ, suc, List, [], ◌∷◌, ◌++◌, map, length, Bool, true, false, cond, Option, Some, None, refl, sym, ap, subst, ◌∙◌, arith, eqb-true}
use Rattle.std.specs.Prelude.{codes, ◌||◌, ◌==◌, nat_lt, nat_le}
use Rattle.std.specs.List.{list_all, list_any, flat_map}
use Rattle.std.proofs.lemmas.Bool.{and_parts, and_from, or_parts}
use Rattle.std.proofs.lemmas.List.Folds.{list_all-append}
use Rattle.ped_lines.specs.ped_base.specs.Lists.{has_some}
use Rattle.ped_lines.specs.ped_tree.specs.declared.expressions.Intrinsic.{Intrinsic}
use Rattle.ped_lines.specs.ped_tree.specs.declared.expressions.Intrinsic.TheVariants.{Mod, Abs, Max, Min}
use Rattle.ped_lines.specs.ped_tree.specs.Tree.{ExprTree, ExprTrees, Int, Var, Element, Neg, Add, Sub, Mul, Div, Pow, Call, no_exprs, more_exprs, CondTree, Rel, Not, And, Or, StmtTrees, Assign, Print, Read, no_stmts, more_stmts, DeclaratorTree}
use Rattle.ped_lines.specs.ped_tree.specs.Printing.{doubled, constant_text}
use Rattle.ped_lines.specs.ped_tree.specs.Grammar.Words.{intrinsic_of}
use Rattle.ped_lines.specs.ped_tree.specs.Grammar.Characters.{is_printable}
use Rattle.ped_lines.specs.ped_tree.specs.Grammar.Literals.{has_large_literal, cond_has_large_literal, item_has_large_literal, head_has_large_literal, declarator_has_large_literal}
use Rattle.ped_lines.specs.ped_tree.specs.Grammar.ExpressionForms.{ExprForm, expr_form_tree, ReferenceForm, scalar, element, reference_form_tree}
use Rattle.ped_lines.specs.ped_tree.specs.Grammar.ConditionForms.{CondForm, cond_form_text, cond_form_tree}
use Rattle.ped_lines.specs.ped_tree.specs.Grammar.Items.{Item, declares, does, logical_if, block_if, else_if, begins_do, keeps_private}
use Rattle.ped_lines.specs.ped_tree.specs.Grammar.StatementForms.{are_names, BoundForm, upper_bound, both_bounds, ArrayForm, an_array, DeclaratorForm, a_scalar, of_array, ConstantForm, a_constant, ItemForm, a_value, a_text, SimpleForm, assignment, print, read, stop, continue, ControlForm, control, StatementForm, program, implicit, integer, dimension, parameter, save, save_all, simple, if_simple, if_then, else_if_then, else_alone, end_of_if, do_loop, end_of_do, private, end, bound_form_tree, array_form_tree, declarator_form_tree, constant_form_tree, item_form_text, item_form_tree, simple_form_text, simple_item, behind_if, step_form_tree, control_form_head, statement_form_text, statement_item, ReadsItem}
use Rattle.ped_lines.specs.ped_tree.specs.Grammar.ProgramRefusals.{is_too_large}
use Rattle.ped_lines.specs.ped_tree.specs.Grammar.Fits.{is_no_intrinsic, takes_arguments, has_expr, expr_fits, exprs_fit, target_fits, cond_fits, item_fits, bound_fits, declarator_fits, array_fits, constant_fits, decl_fits}
use Rattle.ped_statements.specs.ped_expressions.specs.ExpressionReading.{expr_count, takes}
use Rattle.ped_statements.specs.ped_expressions.proofs.Printed.{Stands, SomeStand, AllStand, expr_stands, reference_stands}
use Rattle.ped_statements.specs.ped_expressions.proofs.CondPrinted.{CondStands, cond_stands}
use Rattle.ped_printed.proofs.ProgramLaws.Fits.{head_fits, own_fits}

at_most : (n m : ℕ) → nat_lt m n ≡ false → nat_le n m ≡ true
at_most n m h = grind arith

-- expressions

none_there : (o : Option Intrinsic) → o ≡ None → is_no_intrinsic o ≡ true
none_there o h = ap is_no_intrinsic h

some_there : (es : ExprTrees) → SomeStand es → (has_expr es ≡ true) × AllStand es
some_there no_exprs h = absurd h
some_there (more_exprs e es) h = (refl, h)

three_are_not_two : (n : ℕ) → (suc (suc (suc n)) == 2) ≡ true → ⊥
three_are_not_two n h = let e = eqb-true (suc (suc (suc n))) 2 h in omega (arith, e)

two_are_not_one : (n : ℕ) → (suc (suc n) == 1) ≡ true → ⊥
two_are_not_one n h = let e = eqb-true (suc (suc n)) 1 h in omega (arith, e)

takes_these : (f : Intrinsic) (es : ExprTrees) → takes f (expr_count es) ≡ true → takes_arguments f es ≡ true
takes_these Mod no_exprs h = absurd cc
takes_these Mod (more_exprs a no_exprs) h = absurd cc
takes_these Mod (more_exprs a (more_exprs b no_exprs)) h = refl
takes_these Mod (more_exprs a (more_exprs b (more_exprs c rest))) h = absurd (three_are_not_two (expr_count rest) h)
takes_these Abs no_exprs h = absurd cc
takes_these Abs (more_exprs a no_exprs) h = refl
takes_these Abs (more_exprs a (more_exprs b rest)) h = absurd (two_are_not_one (expr_count rest) h)
takes_these Max no_exprs h = absurd cc
takes_these Max (more_exprs a no_exprs) h = absurd cc
takes_these Max (more_exprs a (more_exprs b rest)) h = refl
takes_these Min no_exprs h = absurd cc
takes_these Min (more_exprs a no_exprs) h = absurd cc
takes_these Min (more_exprs a (more_exprs b rest)) h = refl

mutual
  expr_fit : (e : ExprTree) → Stands e → expr_fits e ≡ true
  expr_fit (Int n) h = at_most n 2147483647 h
  expr_fit (Var x) h = h
  expr_fit (Element x es) h = let k = some_there es h.2 in and_from _ _ (and_from _ _ (and_from _ _ h.0 (none_there (intrinsic_of x) h.1)) k.0) (exprs_are es k.1)
  expr_fit (Neg a) h = expr_fit a h
  expr_fit (Add a b) h = and_from _ _ (expr_fit a h.0) (expr_fit b h.1)
  expr_fit (Sub a b) h = and_from _ _ (expr_fit a h.0) (expr_fit b h.1)
  expr_fit (Mul a b) h = and_from _ _ (expr_fit a h.0) (expr_fit b h.1)
  expr_fit (Div a b) h = and_from _ _ (expr_fit a h.0) (expr_fit b h.1)
  expr_fit (Pow a b) h = and_from _ _ (expr_fit a h.0) (expr_fit b h.1)
  expr_fit (Call f es) h = and_from _ _ (takes_these f es h.0) (exprs_are es (some_there es h.1).1)

  exprs_are : (es : ExprTrees) → AllStand es → exprs_fit es ≡ true
  exprs_are no_exprs h = refl
  exprs_are (more_exprs e es) h = and_from _ _ (expr_fit e h.0) (exprs_are es h.1)

expr_is : (f : ExprForm) → has_large_literal (expr_form_tree f) ≡ false → expr_fits (expr_form_tree f) ≡ true
expr_is f h = expr_fit (expr_form_tree f) (expr_stands f h)

target_is : (r : ReferenceForm) → has_large_literal (reference_form_tree r) ≡ false → target_fits (reference_form_tree r) ≡ true
target_is (scalar x is) h = is
target_is (element x is other es) h = expr_fit (reference_form_tree (element x is other es)) (reference_stands (element x is other es) h)

cond_fit : (c : CondTree) → CondStands c → cond_fits c ≡ true
cond_fit (Rel r a b) h = and_from _ _ (expr_fit a h.0) (expr_fit b h.1)
cond_fit (Not a) h = cond_fit a h
cond_fit (And a b) h = and_from _ _ (cond_fit a h.0) (cond_fit b h.1)
cond_fit (Or a b) h = and_from _ _ (cond_fit a h.0) (cond_fit b h.1)

cond_is : (f : CondForm) → cond_has_large_literal (cond_form_tree f) ≡ false → cond_fits (cond_form_tree f) ≡ true
cond_is f h = cond_fit (cond_form_tree f) (cond_stands f h)

-- lists

each_is : {F T : Type 0} (tree : F → T) (bad test : T → Bool) → ((f : F) → bad (tree f) ≡ false → test (tree f) ≡ true) → (fs : List F) → list_any bad (map tree fs) ≡ false → list_all test (map tree fs) ≡ true
each_is tree bad test each [] h = refl
each_is tree bad test each (f ∷ fs) h =
    let k = or_parts (bad (tree f)) (list_any bad (map tree fs)) h in
    and_from (test (tree f)) (list_all test (map tree fs)) (each f k.0) (each_is tree bad test each fs k.1)

-- character constants

front_back : (a b : List ℕ) → list_all is_printable (a ++ b) ≡ true → (list_all is_printable a ≡ true) × (list_all is_printable b ≡ true)
front_back a b h = and_parts (list_all is_printable a) (list_all is_printable b) (sym (list_all-append is_printable a b) ∙ h)

first_of_two : (b : Bool) (c : ℕ) → list_all is_printable (cond b (39 ∷ 39 ∷ []) (c ∷ [])) ≡ true → b ≡ (c == 39) → is_printable c ≡ true
first_of_two true c h e = ap is_printable (eqb-true c 39 (sym e))
first_of_two false c h e = (and_parts (is_printable c) true h).0

once : (text : List ℕ) → list_all is_printable (doubled text) ≡ true → list_all is_printable text ≡ true
once [] h = refl
once (c ∷ cs) h =
    let k = front_back (cond (c == 39) (39 ∷ 39 ∷ []) (c ∷ [])) (doubled cs) h in
    and_from (is_printable c) (list_all is_printable cs) (first_of_two (c == 39) c k.0 refl) (once cs k.1)

constant_printable : (text : List ℕ) → list_all is_printable (constant_text text) ≡ true → list_all is_printable text ≡ true
constant_printable text h = once text (front_back (doubled text) (39 ∷ []) h).0

item_is : (f : ItemForm) → item_has_large_literal (item_form_tree f) ≡ false → list_all is_printable (item_form_text f) ≡ true → item_fits (item_form_tree f) ≡ true
item_is (a_value e) h p = expr_is e h
item_is (a_text text) h p = constant_printable text p

items_are : (fs : List ItemForm) → list_any item_has_large_literal (map item_form_tree fs) ≡ false → list_all is_printable (flat_map (λ f. codes "," ++ item_form_text f) fs) ≡ true → list_all item_fits (map item_form_tree fs) ≡ true
items_are [] h p = refl
items_are (f ∷ fs) h p =
    let k = or_parts (item_has_large_literal (item_form_tree f)) (list_any item_has_large_literal (map item_form_tree fs)) h in
    let q = front_back (codes "," ++ item_form_text f) (flat_map (λ f. codes "," ++ item_form_text f) fs) p in
    and_from (item_fits (item_form_tree f)) (list_all item_fits (map item_form_tree fs)) (item_is f k.0 q.0) (items_are fs k.1 q.1)

-- declarations

bound_is : (f : BoundForm) → (has_large_literal (bound_form_tree f).lower || has_large_literal (bound_form_tree f).upper) ≡ false → bound_fits (bound_form_tree f) ≡ true
bound_is (upper_bound e) h = expr_is e h
bound_is (both_bounds l u) h = let k = or_parts (has_large_literal (expr_form_tree l)) (has_large_literal (expr_form_tree u)) h in and_from _ _ (expr_is l k.0) (expr_is u k.1)

-- an array or a declared name has too large a literal or too many dimensions
abbrev too_much : DeclaratorTree → Bool
too_much d = declarator_has_large_literal d || nat_lt 7 (length d.bounds)

array_is : (f : ArrayForm) → too_much (array_form_tree f) ≡ false → array_fits (array_form_tree f) ≡ true
array_is (an_array x is b bs) h =
    let k = or_parts _ (nat_lt 7 (length (map bound_form_tree (b ∷ bs)))) h in
    let bounds = each_is bound_form_tree (λ b. has_large_literal b.lower || has_large_literal b.upper) bound_fits bound_is (b ∷ bs) k.0 in
    and_from _ _ (and_from _ _ (and_from _ _ is (at_most (length (map bound_form_tree (b ∷ bs))) 7 k.1)) bounds) refl

declarator_is : (f : DeclaratorForm) → too_much (declarator_form_tree f) ≡ false → declarator_fits (declarator_form_tree f) ≡ true
declarator_is (a_scalar x is) h = and_from _ _ (and_from _ _ is refl) refl
declarator_is (of_array a) h = (and_parts (declarator_fits (array_form_tree a)) (has_some (array_form_tree a).bounds) (array_is a h)).0

-- two tests that none of many meets
neither_any : {T : Type 0} (p q : T → Bool) (ts : List T) → list_any p ts ≡ false → list_any q ts ≡ false → list_any (λ t. p t || q t) ts ≡ false
neither_any p q [] h k = refl
neither_any p q (t ∷ ts) h k =
    let a = or_parts (p t) (list_any p ts) h in
    let b = or_parts (q t) (list_any q ts) k in
    let more = neither_any p q ts a.1 b.1 in
    λ i. (a.0 i || b.0 i) || more i

constant_is : (f : ConstantForm) → has_large_literal (constant_form_tree f).1 ≡ false → constant_fits (constant_form_tree f) ≡ true
constant_is (a_constant x is e) h = and_from _ _ is (expr_is e h)

-- statements

-- what an item says fits
abbrev BehindFits : StmtTrees → Type 0
BehindFits no_stmts = Unit {0}
BehindFits (more_stmts s rest) = own_fits s ≡ true

abbrev pub ItemFits : Item → Type 0
ItemFits (declares d) = decl_fits d ≡ true
ItemFits (does s) = own_fits s ≡ true
ItemFits (logical_if c s) = (cond_fits c ≡ true) × BehindFits s
ItemFits (block_if c) = cond_fits c ≡ true
ItemFits (else_if c) = cond_fits c ≡ true
ItemFits (begins_do label h) = head_fits h ≡ true
ItemFits (keeps_private names) = are_names names ≡ true
ItemFits i = Unit {0}

assignment_is : (r : ReferenceForm) (e : ExprForm) → (has_large_literal (reference_form_tree r) || has_large_literal (expr_form_tree e)) ≡ false → own_fits (Assign (reference_form_tree r) (expr_form_tree e)) ≡ true
assignment_is r e h = let k = or_parts (has_large_literal (reference_form_tree r)) (has_large_literal (expr_form_tree e)) h in and_from _ _ (target_is r k.0) (expr_is e k.1)

print_is : (items : List ItemForm) → list_any item_has_large_literal (map item_form_tree items) ≡ false → list_all is_printable (simple_form_text (print items)) ≡ true → own_fits (Print (map item_form_tree items)) ≡ true
print_is items h p = items_are items h (front_back (codes "PRINT*") (flat_map (λ f. codes "," ++ item_form_text f) items) p).1

read_is : (items : List ReferenceForm) → list_any has_large_literal (map reference_form_tree items) ≡ false → own_fits (Read (map reference_form_tree items)) ≡ true
read_is items h = each_is reference_form_tree has_large_literal target_fits target_is items h

simple_is : (s : SimpleForm) → is_too_large (simple_item s) ≡ false → list_all is_printable (simple_form_text s) ≡ true → ItemFits (simple_item s)
simple_is (assignment r e) h p = assignment_is r e h
simple_is (print items) h p = print_is items h p
simple_is (read items) h p = read_is items h
simple_is stop h p = refl
simple_is continue h p = tt

or_none : (b : Bool) → (b || false) ≡ false → b ≡ false
or_none true h = absurd cc
or_none false h = refl

behind_is : (c : CondForm) (s : SimpleForm) → is_too_large (logical_if (cond_form_tree c) (behind_if s)) ≡ false → list_all is_printable (simple_form_text s) ≡ true → BehindFits (behind_if s)
behind_is c (assignment r e) h p = assignment_is r e (or_none _ (or_parts (cond_has_large_literal (cond_form_tree c)) _ h).1)
behind_is c (print items) h p = print_is items (or_none _ (or_parts (cond_has_large_literal (cond_form_tree c)) _ h).1) p
behind_is c (read items) h p = read_is items (or_none _ (or_parts (cond_has_large_literal (cond_form_tree c)) _ h).1)
behind_is c stop h p = refl
behind_is c continue h p = tt

step_is : (step : Option ExprForm) → has_large_literal (step_form_tree step) ≡ false → expr_fits (step_form_tree step) ≡ true
step_is None h = refl
step_is (Some e) h = expr_is e h

control_is : (parallel : Bool) (c : ControlForm) → head_has_large_literal (control_form_head parallel c) ≡ false → head_fits (control_form_head parallel c) ≡ true
control_is parallel (control x is begin limit step) h =
    let a = or_parts _ (has_large_literal (step_form_tree step)) h in
    let b = or_parts (has_large_literal (expr_form_tree begin)) (has_large_literal (expr_form_tree limit)) a.0 in
    and_from _ _ (and_from _ _ (and_from _ _ is (expr_is begin b.0)) (expr_is limit b.1)) (step_is step a.1)

form_fits : (f : StatementForm) → is_too_large (statement_item f) ≡ false → list_all is_printable (statement_form_text f) ≡ true → ItemFits (statement_item f)
form_fits (program x is) h p = is
form_fits implicit h p = refl
form_fits (integer d rest) h p =
    let ts = map declarator_form_tree (d ∷ rest) in
    let k = or_parts (list_any declarator_has_large_literal ts) (list_any (λ d. nat_lt 7 (length d.bounds)) ts) h in
    each_is declarator_form_tree too_much declarator_fits declarator_is (d ∷ rest) (neither_any declarator_has_large_literal (λ d. nat_lt 7 (length d.bounds)) ts k.0 k.1)
form_fits (dimension a rest) h p =
    let ts = map array_form_tree (a ∷ rest) in
    let k = or_parts (list_any declarator_has_large_literal ts) (list_any (λ d. nat_lt 7 (length d.bounds)) ts) h in
    each_is array_form_tree too_much array_fits array_is (a ∷ rest) (neither_any declarator_has_large_literal (λ d. nat_lt 7 (length d.bounds)) ts k.0 k.1)
form_fits (parameter c rest) h p =
    let ts = map constant_form_tree (c ∷ rest) in
    each_is constant_form_tree (λ v. has_large_literal v.1) constant_fits constant_is (c ∷ rest) (or_parts (list_any (λ v. has_large_literal v.1) ts) false h).0
form_fits (save names are) h p = are
form_fits save_all h p = tt
form_fits (simple s) h p = simple_is s h p
form_fits (if_simple c s) h p =
    (cond_is c (or_parts (cond_has_large_literal (cond_form_tree c)) _ h).0, behind_is c s h (front_back (codes "IF(" ++ cond_form_text c ++ codes ")") (simple_form_text s) p).1)
form_fits (if_then c) h p = cond_is c h
form_fits (else_if_then c) h p = cond_is c h
form_fits else_alone h p = tt
form_fits end_of_if h p = tt
form_fits (do_loop parallel label c) h p = control_is parallel c h
form_fits end_of_do h p = tt
form_fits (private names are) h p = are
form_fits end h p = tt

-- a text of printable characters that reads as the item
abbrev pub Said : List ℕ → Item → Type 0
Said text i = ReadsItem text i × (list_all is_printable text ≡ true)

pub said_fits : (text : List ℕ) (i : Item) → Said text i → is_too_large i ≡ false → ItemFits i
said_fits text i r small = subst ItemFits r.0.2 (form_fits r.0.0 (ap is_too_large r.0.2 ∙ small) (ap (list_all is_printable) r.0.1 ∙ r.1))
