-- Texts without =: expressions and declared names are such texts.
use Rattle.std.proofs.Common.{◌≡◌, ℕ, Bool, true, false, List, [], ◌∷◌, ◌++◌, refl, ◌∙◌, arith, eqb}
use Rattle.std.specs.Prelude.{codes, IsTrue, ◌&&◌, not}
use Rattle.std.specs.List.{list_all, flat_map, join_by}
use Rattle.std.proofs.lemmas.Bool.{eqb-true}
use Rattle.std.proofs.lemmas.List.Folds.{list_all-append}
use Rattle.ped_base.specs.Letters.{is_digit, is_alphanumeric}
use Rattle.ped_tree.specs.Grammar.Words.{is_name}
use Rattle.ped_tree.specs.Grammar.ExpressionForms.{Sign, unsigned, positive, negative, Adding, add, subtract, Scaling, multiply, divide, ExprForm, TermForm, FactorForm, PrimaryForm, ReferenceForm, ExprsForm, first, sum, single, product, plain, power, literal, reference, remainder, absolute, greatest, least, parentheses, scalar, element, one, more, sign_text, adding_text, scaling_text, expr_form_text, term_form_text, factor_form_text, primary_form_text, reference_form_text, exprs_form_text}
use Rattle.ped_tree.specs.Grammar.StatementForms.{are_names, BoundForm, upper_bound, both_bounds, ArrayForm, an_array, DeclaratorForm, a_scalar, of_array, bound_form_text, array_form_text, declarator_form_text}
use Rattle.ped_expressions.proofs.Again.{intrinsic_name}
use Rattle.ped_statements.proofs.Several.{first_good, others_good}
use Rattle.ped_statements.proofs.Pieces.{name_alphanumeric, numeral_digits}
use Rattle.ped_statements.proofs.Declared.{all_true}

-- any character but =
abbrev is_other : ℕ → Bool
is_other c = not (eqb c 61)

-- = doesn't occur
abbrev pub lacks_equals : List ℕ → Bool
lacks_equals text = list_all is_other text

and_false : (a : Bool) → (a && false) ≡ false
and_false true = refl
and_false false = refl

pub equals_inside : (a q : List ℕ) → lacks_equals (a ++ (codes "=" ++ q)) ≡ false
equals_inside [] q = refl
equals_inside (c ∷ cs) q = let r = equals_inside cs q in rw r (and_false (is_other c))

pub both_lack : (a b : List ℕ) → lacks_equals a ≡ true → lacks_equals b ≡ true → lacks_equals (a ++ b) ≡ true
both_lack a b p q = list_all-append is_other a b ∙ rw (p, q) refl

-- words and numerals

pub word_lacks : (x : List ℕ) → list_all is_alphanumeric x ≡ true → lacks_equals x ≡ true
word_lacks [] h = refl
word_lacks (c ∷ cs) h =
    let k : is_alphanumeric c ≡ true = grind arith in
    let m : list_all is_alphanumeric cs ≡ true = grind arith in
    let o : is_other c ≡ true = grind (arith, eqb-true) in
    rw (o, word_lacks cs m) refl

digits_lack : (ds : List ℕ) → list_all is_digit ds ≡ true → lacks_equals ds ≡ true
digits_lack [] h = refl
digits_lack (c ∷ cs) h =
    let k : is_digit c ≡ true = grind arith in
    let m : list_all is_digit cs ≡ true = grind arith in
    let o : is_other c ≡ true = grind (arith, eqb-true) in
    rw (o, digits_lack cs m) refl

pub name_lacks : (x : List ℕ) → is_name x ≡ true → lacks_equals x ≡ true
name_lacks x is = word_lacks x (name_alphanumeric x is)

-- expressions

three_lack : (a b c : List ℕ) → lacks_equals a ≡ true → lacks_equals b ≡ true → lacks_equals c ≡ true → lacks_equals (a ++ b ++ c) ≡ true
three_lack a b c p q r = both_lack (a ++ b) c (both_lack a b p q) r

-- a name, and what stands in parentheses behind it
applied_lacks : (x a : List ℕ) → lacks_equals x ≡ true → lacks_equals a ≡ true → lacks_equals (x ++ codes "(" ++ a ++ codes ")") ≡ true
applied_lacks x a p q = both_lack (x ++ codes "(" ++ a) (codes ")") (three_lack x (codes "(") a p refl q) refl

-- two of them, with a comma between
two_lack : (x a b : List ℕ) → lacks_equals x ≡ true → lacks_equals a ≡ true → lacks_equals b ≡ true → lacks_equals (x ++ codes "(" ++ a ++ codes "," ++ b ++ codes ")") ≡ true
two_lack x a b p q r = both_lack (x ++ codes "(" ++ a ++ codes "," ++ b) (codes ")") (three_lack (x ++ codes "(" ++ a) (codes ",") b (three_lack x (codes "(") a p refl q) refl r) refl

sign_lacks : (s : Sign) → lacks_equals (sign_text s) ≡ true
sign_lacks unsigned = refl
sign_lacks positive = refl
sign_lacks negative = refl

adding_lacks : (op : Adding) → lacks_equals (adding_text op) ≡ true
adding_lacks add = refl
adding_lacks subtract = refl

scaling_lacks : (op : Scaling) → lacks_equals (scaling_text op) ≡ true
scaling_lacks multiply = refl
scaling_lacks divide = refl

mutual
  pub expr_lacks : (e : ExprForm) → lacks_equals (expr_form_text e) ≡ true
  expr_lacks (first s t) = both_lack (sign_text s) (term_form_text t) (sign_lacks s) (term_lacks t)
  expr_lacks (sum e op t) = three_lack (expr_form_text e) (adding_text op) (term_form_text t) (expr_lacks e) (adding_lacks op) (term_lacks t)

  term_lacks : (t : TermForm) → lacks_equals (term_form_text t) ≡ true
  term_lacks (single f) = factor_lacks f
  term_lacks (product t op f) = three_lack (term_form_text t) (scaling_text op) (factor_form_text f) (term_lacks t) (scaling_lacks op) (factor_lacks f)

  factor_lacks : (f : FactorForm) → lacks_equals (factor_form_text f) ≡ true
  factor_lacks (plain p) = primary_lacks p
  factor_lacks (power p f) = three_lack (primary_form_text p) (codes "**") (factor_form_text f) (primary_lacks p) refl (factor_lacks f)

  primary_lacks : (p : PrimaryForm) → lacks_equals (primary_form_text p) ≡ true
  primary_lacks (literal digits is) = digits_lack digits (numeral_digits digits is)
  primary_lacks (reference r) = reference_lacks r
  primary_lacks (remainder x is a b) = two_lack x (expr_form_text a) (expr_form_text b) (name_lacks x (intrinsic_name x _ is)) (expr_lacks a) (expr_lacks b)
  primary_lacks (absolute x is a) = applied_lacks x (expr_form_text a) (name_lacks x (intrinsic_name x _ is)) (expr_lacks a)
  primary_lacks (greatest x is a rest) = two_lack x (expr_form_text a) (exprs_form_text rest) (name_lacks x (intrinsic_name x _ is)) (expr_lacks a) (exprs_lack rest)
  primary_lacks (least x is a rest) = two_lack x (expr_form_text a) (exprs_form_text rest) (name_lacks x (intrinsic_name x _ is)) (expr_lacks a) (exprs_lack rest)
  primary_lacks (parentheses e) = applied_lacks [] (expr_form_text e) refl (expr_lacks e)

  reference_lacks : (r : ReferenceForm) → lacks_equals (reference_form_text r) ≡ true
  reference_lacks (scalar x is) = name_lacks x is
  reference_lacks (element x is other a) = applied_lacks x (exprs_form_text a) (name_lacks x is) (exprs_lack a)

  exprs_lack : (es : ExprsForm) → lacks_equals (exprs_form_text es) ≡ true
  exprs_lack (one e) = expr_lacks e
  exprs_lack (more e rest) = three_lack (expr_form_text e) (codes ",") (exprs_form_text rest) (expr_lacks e) refl (exprs_lack rest)

-- what stands with a comma between two

behind_lacks : {F : Type 0} (text : F → List ℕ) (good : F → Bool) → ((f : F) → good f ≡ true → lacks_equals (text f) ≡ true) → (fs : List F) → list_all good fs ≡ true → lacks_equals (flat_map (λ f. codes "," ++ text f) fs) ≡ true
behind_lacks text good h [] g = refl
behind_lacks text good h (f ∷ fs) g =
    both_lack (codes "," ++ text f) (flat_map (λ f. codes "," ++ text f) fs) (both_lack (codes ",") (text f) refl (h f (first_good (good f) (list_all good fs) g))) (behind_lacks text good h fs (others_good (good f) (list_all good fs) g))

pub list_lacks : {F : Type 0} (text : F → List ℕ) (good : F → Bool) → ((f : F) → good f ≡ true → lacks_equals (text f) ≡ true) → (f : F) (fs : List F) → list_all good (f ∷ fs) ≡ true → lacks_equals (join_by text (codes ",") (f ∷ fs)) ≡ true
list_lacks text good h f fs g =
    both_lack (text f) (flat_map (λ f. codes "," ++ text f) fs) (h f (first_good (good f) (list_all good fs) g)) (behind_lacks text good h fs (others_good (good f) (list_all good fs) g))

pub names_lack : (names : List (List ℕ)) → IsTrue (are_names names) → lacks_equals (join_by (λ x. x) (codes ",") names) ≡ true
names_lack [] are = absurd cc
names_lack (x ∷ xs) are = list_lacks (λ x. x) is_name name_lacks x xs are

-- declared names

bound_lacks : (b : BoundForm) → lacks_equals (bound_form_text b) ≡ true
bound_lacks (upper_bound e) = expr_lacks e
bound_lacks (both_bounds e k) = three_lack (expr_form_text e) (codes ":") (expr_form_text k) (expr_lacks e) refl (expr_lacks k)

array_lacks : (a : ArrayForm) → lacks_equals (array_form_text a) ≡ true
array_lacks (an_array x is b bs) =
    applied_lacks x (join_by bound_form_text (codes ",") (b ∷ bs)) (name_lacks x is) (list_lacks bound_form_text (λ b. true) (λ b g. bound_lacks b) b bs (all_true (b ∷ bs)))

declarator_lacks : (d : DeclaratorForm) → lacks_equals (declarator_form_text d) ≡ true
declarator_lacks (a_scalar x is) = name_lacks x is
declarator_lacks (of_array a) = array_lacks a

pub declarators_lack : (d : DeclaratorForm) (ds : List DeclaratorForm) → lacks_equals (join_by declarator_form_text (codes ",") (d ∷ ds)) ≡ true
declarators_lack d ds = list_lacks declarator_form_text (λ d. true) (λ d g. declarator_lacks d) d ds (all_true (d ∷ ds))
