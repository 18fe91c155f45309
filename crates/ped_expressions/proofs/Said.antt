-- What is read and what is not, as readers say it.
use Rattle.std.proofs.Common.{◌≡◌, ℕ, true, false, List, [], ◌∷◌, Some, None, refl, sym, ap, subst, ◌∙◌, arith}
use Rattle.std.specs.Prelude.{IsTrue, IsFalse, Result, Err, Option}
use Rattle.ped_expressions.specs.declared.readings.Failure.{Failure}
use Rattle.ped_expressions.specs.declared.readings.Failure.TheVariants.{NoForm}
use Rattle.ped_expressions.specs.Views.{Gives}
use Rattle.ped_base.specs.Letters.{begins_with_letter}
use Rattle.ped_tree.specs.Tree.{ExprTree, Int, Var, Element, Neg, Add, Sub, Mul, Div, Pow, Call, CondTree}
use Rattle.ped_tree.specs.Grammar.Words.{is_numeral}
use Rattle.ped_tree.specs.Grammar.ExpressionForms.{ExprForm, ReferenceForm, ReadsExpr, ReadsReference, first, sum, unsigned, positive, negative, add, subtract, single, product, multiply, divide, plain, power, literal, reference, remainder, absolute, greatest, least, parentheses, scalar, element, expr_form_text, expr_form_tree, reference_form_text, reference_form_tree}
use Rattle.ped_tree.specs.Grammar.ConditionForms.{ReadsCond, cond_form_tree}
use Rattle.ped_tree.specs.Grammar.Literals.{has_large_literal, cond_has_large_literal}
use Rattle.ped_expressions.specs.ExpressionReading.{saturated, with_literals, whole_expr_of, is_reference}
use Rattle.ped_expressions.specs.ConditionReading.{whole_cond_of}
use Rattle.ped_expressions.proofs.Basics.{some_is}
use Rattle.ped_expressions.proofs.Whole.{whole_found, whole_again, reference_is_expr}
use Rattle.ped_expressions.proofs.CondWhole.{whole_cond_found, whole_cond_again}
use Rattle.ped_expressions.proofs.Large.{large_saturated, small_saturated, cond_large_saturated, cond_small_saturated}

pub no_form : {X Y : Type 0} (view : X → Y) (r : Result X Failure) (read : Option Y) (f : Failure) → Gives view r read → r ≡ Err f → f ≡ NoForm → read ≡ None
no_form {X} view r read f g p q = subst (λ (r : Result X Failure). Gives view r read) (p ∙ ap Err q) g

-- expressions

pub expr_said : (text : List ℕ) (e : ExprTree) → whole_expr_of saturated text ≡ Some e → has_large_literal e ≡ false → ReadsExpr text e × IsFalse (has_large_literal e)
expr_said text e h small =
    let f = whole_found saturated text e h in
    let k : has_large_literal (expr_form_tree f.0) ≡ false = sym (large_saturated (expr_form_tree f.0)) ∙ ap has_large_literal f.2 ∙ small in
    ((f.0, f.1, sym (small_saturated (expr_form_tree f.0) k) ∙ f.2), small)

pub expr_large : (text : List ℕ) (e : ExprTree) → whole_expr_of saturated text ≡ Some e → has_large_literal e ≡ true → (t : ExprTree) × ReadsExpr text t × IsTrue (has_large_literal t)
expr_large text e h large =
    let f = whole_found saturated text e h in
    (expr_form_tree f.0, (f.0, f.1, refl), sym (large_saturated (expr_form_tree f.0)) ∙ ap has_large_literal f.2 ∙ large)

pub expr_none : (text : List ℕ) → whole_expr_of saturated text ≡ None → (t : ExprTree) → ReadsExpr text t → ⊥
expr_none text h t r = let k = whole_again saturated text t r in cc

-- conditions

pub cond_said : (text : List ℕ) (c : CondTree) → whole_cond_of saturated text ≡ Some c → cond_has_large_literal c ≡ false → ReadsCond text c × IsFalse (cond_has_large_literal c)
cond_said text c h small =
    let f = whole_cond_found saturated text c h in
    let k : cond_has_large_literal (cond_form_tree f.0) ≡ false = sym (cond_large_saturated (cond_form_tree f.0)) ∙ ap cond_has_large_literal f.2 ∙ small in
    ((f.0, f.1, sym (cond_small_saturated (cond_form_tree f.0) k) ∙ f.2), small)

pub cond_large : (text : List ℕ) (c : CondTree) → whole_cond_of saturated text ≡ Some c → cond_has_large_literal c ≡ true → (t : CondTree) × ReadsCond text t × IsTrue (cond_has_large_literal t)
cond_large text c h large =
    let f = whole_cond_found saturated text c h in
    (cond_form_tree f.0, (f.0, f.1, refl), sym (cond_large_saturated (cond_form_tree f.0)) ∙ ap cond_has_large_literal f.2 ∙ large)

pub cond_none : (text : List ℕ) → whole_cond_of saturated text ≡ None → (t : CondTree) → ReadsCond text t → ⊥
cond_none text h t r = let k = whole_cond_again saturated text t r in cc

-- references: expressions that begin with a letter and whose tree is a scalar or an element

digit_no_letter : (ds : List ℕ) → is_numeral ds ≡ true → begins_with_letter ds ≡ false
digit_no_letter [] h = refl
digit_no_letter (c ∷ cs) h = grind arith

abbrev IsReference : ExprForm → Type 0
IsReference f = (r : ReferenceForm) × (reference_form_text r ≡ expr_form_text f) × (reference_form_tree r ≡ expr_form_tree f)

form_is_reference : (f : ExprForm) → begins_with_letter (expr_form_text f) ≡ true → is_reference (expr_form_tree f) ≡ true → IsReference f
form_is_reference (first unsigned (single (plain (literal ds is)))) b h = absurd (let k = digit_no_letter ds is in cc)
form_is_reference (first unsigned (single (plain (reference r)))) b h = (r, refl, refl)
form_is_reference (first unsigned (single (plain (remainder x is a c)))) b h = absurd cc
form_is_reference (first unsigned (single (plain (absolute x is a)))) b h = absurd cc
form_is_reference (first unsigned (single (plain (greatest x is a c)))) b h = absurd cc
form_is_reference (first unsigned (single (plain (least x is a c)))) b h = absurd cc
form_is_reference (first unsigned (single (plain (parentheses e)))) b h = absurd cc
form_is_reference (first unsigned (single (power p f))) b h = absurd cc
form_is_reference (first unsigned (product t multiply f)) b h = absurd cc
form_is_reference (first unsigned (product t divide f)) b h = absurd cc
form_is_reference (first positive t) b h = absurd cc
form_is_reference (first negative t) b h = absurd cc
form_is_reference (sum e add t) b h = absurd cc
form_is_reference (sum e subtract t) b h = absurd cc

with_reference : (v : ℕ → ℕ) (e : ExprTree) → is_reference (with_literals v e) ≡ is_reference e
with_reference v (Int n) = refl
with_reference v (Var x) = refl
with_reference v (Element x es) = refl
with_reference v (Neg a) = refl
with_reference v (Add a b) = refl
with_reference v (Sub a b) = refl
with_reference v (Mul a b) = refl
with_reference v (Div a b) = refl
with_reference v (Pow a b) = refl
with_reference v (Call f es) = refl

reference_letter : (r : ReferenceForm) → begins_with_letter (reference_form_text r) ≡ true
reference_letter (scalar [] is) = absurd cc
reference_letter (scalar (c ∷ cs) is) = grind arith
reference_letter (element [] is other a) = absurd cc
reference_letter (element (c ∷ cs) is other a) = grind arith

tree_is_reference : (r : ReferenceForm) → is_reference (reference_form_tree r) ≡ true
tree_is_reference (scalar x is) = refl
tree_is_reference (element x is other a) = refl

found_reference : (text : List ℕ) (e : ExprTree) → whole_expr_of saturated text ≡ Some e → begins_with_letter text ≡ true → is_reference e ≡ true → (r : ReferenceForm) × (reference_form_text r ≡ text) × (with_literals saturated (reference_form_tree r) ≡ e)
found_reference text e h letter is =
    let f = whole_found saturated text e h in
    let r = form_is_reference f.0 (ap begins_with_letter f.1 ∙ letter) (sym (with_reference saturated (expr_form_tree f.0)) ∙ ap is_reference f.2 ∙ is) in
    (r.0, r.1 ∙ f.1, ap (with_literals saturated) r.2 ∙ f.2)

pub reference_said : (text : List ℕ) (e : ExprTree) → whole_expr_of saturated text ≡ Some e → begins_with_letter text ≡ true → is_reference e ≡ true → has_large_literal e ≡ false → ReadsReference text e × IsFalse (has_large_literal e)
reference_said text e h letter is small =
    let r = found_reference text e h letter is in
    let k : has_large_literal (reference_form_tree r.0) ≡ false = sym (large_saturated (reference_form_tree r.0)) ∙ ap has_large_literal r.2 ∙ small in
    ((r.0, r.1, sym (small_saturated (reference_form_tree r.0) k) ∙ r.2), small)

pub reference_large : (text : List ℕ) (e : ExprTree) → whole_expr_of saturated text ≡ Some e → begins_with_letter text ≡ true → is_reference e ≡ true → has_large_literal e ≡ true → (t : ExprTree) × ReadsReference text t × IsTrue (has_large_literal t)
reference_large text e h letter is large =
    let r = found_reference text e h letter is in
    (reference_form_tree r.0, (r.0, r.1, refl), sym (large_saturated (reference_form_tree r.0)) ∙ ap has_large_literal r.2 ∙ large)

pub reference_none : (text : List ℕ) → whole_expr_of saturated text ≡ None → (t : ExprTree) → ReadsReference text t → ⊥
reference_none text h t r = expr_none text h t (reference_is_expr text t r)

pub reference_no_letter : (text : List ℕ) → begins_with_letter text ≡ false → (t : ExprTree) → ReadsReference text t → ⊥
reference_no_letter text h t r = let k = sym (reference_letter r.0) ∙ ap begins_with_letter r.1 ∙ h in absurd cc

pub reference_no_reference : (text : List ℕ) (e : ExprTree) → whole_expr_of saturated text ≡ Some e → is_reference e ≡ false → (t : ExprTree) → ReadsReference text t → ⊥
reference_no_reference text e h not t r =
    let same : with_literals saturated t ≡ e = some_is _ _ (sym (whole_again saturated text t (reference_is_expr text t r)) ∙ h) in
    let k = sym (tree_is_reference r.0) ∙ ap is_reference r.2 ∙ sym (with_reference saturated t) ∙ ap is_reference same ∙ not in
    absurd cc
