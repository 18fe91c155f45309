-- What is written so is read.
use Rattle.std.proofs.Common.{◌≡◌, ℕ, suc, ◌≤◌, Bool, true, false, cond, List, [], ◌∷◌, ◌++◌, Option, Some, None, refl, sym, ap, subst, ◌∙◌, append_assoc, arith, eqb, inl, inr}
use Rattle.std.specs.Prelude.{codes, ◌||◌, ◌&&◌, not, nat_le}
use Rattle.std.specs.List.{list_all}
use Rattle.std.specs.Cmp.Lexicographic.{same_text}
use Rattle.std.proofs.lemmas.Bool.{eqb-true, le-leb}
use Rattle.ped_base.specs.Letters.{is_digit, is_alphanumeric}
use Rattle.ped_tree.specs.declared.expressions.Intrinsic.{Intrinsic}
use Rattle.ped_tree.specs.declared.expressions.Intrinsic.TheVariants.{Mod, Abs, Max, Min}
use Rattle.ped_tree.specs.Tree.{ExprTree, ExprTrees, Int, no_exprs, more_exprs}
use Rattle.ped_tree.specs.Grammar.Words.{is_name, is_numeral, numeral_value, intrinsic_of}
use Rattle.ped_base.specs.Lists.{is_same_text}
use Rattle.ped_tree.specs.Grammar.ExpressionForms.{unsigned, positive, negative, Adding, add, subtract, Scaling, multiply, divide, ExprForm, TermForm, FactorForm, PrimaryForm, ReferenceForm, ExprsForm, first, sum, single, product, plain, power, literal, reference, remainder, absolute, greatest, least, parentheses, scalar, element, one, more, adding_text, scaling_text, expr_form_text, term_form_text, factor_form_text, primary_form_text, reference_form_text, exprs_form_text, expr_form_tree, term_form_tree, factor_form_tree, primary_form_tree, reference_form_tree, exprs_form_trees}
use Rattle.ped_expressions.specs.Scanning.{front, behind, after, sign_at, adding_at, scaling_at}
use Rattle.ped_expressions.specs.ExpressionReading.{with_literals, all_with_literals, expr_count, applied, expr_of, sums_of, term_of, products_of, factor_of, primary_of, named_of, exprs_of}
use Rattle.ped_expressions.proofs.Basics.{chosen}
use Rattle.ped_expressions.proofs.Sound.{with_added, with_scaled}
use Rattle.ped_expressions.proofs.Equations.{expr_step, sums_step, term_step, products_step, factor_step, primary_step, named_step, exprs_step}

-- no word and no call goes on here
abbrev pub ends_word : List ℕ → Bool
ends_word [] = true
ends_word (c ∷ ts) = not (is_alphanumeric c) && not (eqb c 40)

-- a primary may begin here
abbrev pub begins_primary : List ℕ → Bool
begins_primary [] = false
begins_primary (c ∷ ts) = eqb c 40 || is_alphanumeric c

abbrev pub stops : (ℕ → Bool) → List ℕ → Bool
stops p [] = true
stops p (c ∷ ts) = not (p c)

-- the texts of forms, with what is left

pub assoc_3 : (a b c r : List ℕ) → a ++ b ++ c ++ r ≡ a ++ (b ++ (c ++ r))
assoc_3 a b c r = simp append_assoc

pub assoc_4 : (a b c d r : List ℕ) → a ++ b ++ c ++ d ++ r ≡ a ++ (b ++ (c ++ (d ++ r)))
assoc_4 a b c d r = simp append_assoc

assoc_6 : (a b c d e f r : List ℕ) → a ++ b ++ c ++ d ++ e ++ f ++ r ≡ a ++ (b ++ (c ++ (d ++ (e ++ (f ++ r)))))
assoc_6 a b c d e f r = simp append_assoc

-- words

pub front_again : (p : ℕ → Bool) (ds rest : List ℕ) → list_all p ds ≡ true → stops p rest ≡ true → front p (ds ++ rest) ≡ ds
front_again p [] [] h s = refl
front_again p [] (c ∷ rest) h s = let k : p c ≡ false = grind arith in rw k refl
front_again p (d ∷ ds) rest h s =
    let k : p d ≡ true = grind arith in
    let i : list_all p ds ≡ true = grind arith in
    rw (k, front_again p ds rest i s) refl

pub behind_again : (p : ℕ → Bool) (ds rest : List ℕ) → list_all p ds ≡ true → stops p rest ≡ true → behind p (ds ++ rest) ≡ rest
behind_again p [] [] h s = refl
behind_again p [] (c ∷ rest) h s = let k : p c ≡ false = grind arith in rw k refl
behind_again p (d ∷ ds) rest h s =
    let k : p d ≡ true = grind arith in
    let i : list_all p ds ≡ true = grind arith in
    rw (k, behind_again p ds rest i s) refl

pub ends_alphanumeric : (rest : List ℕ) → ends_word rest ≡ true → stops is_alphanumeric rest ≡ true
ends_alphanumeric [] h = refl
ends_alphanumeric (c ∷ ts) h = grind arith

ends_digits : (rest : List ℕ) → ends_word rest ≡ true → stops is_digit rest ≡ true
ends_digits [] h = refl
ends_digits (c ∷ ts) h = grind arith

pub ends_call : (rest : List ℕ) → ends_word rest ≡ true → after (codes "(") rest ≡ None
ends_call [] h = refl
ends_call (c ∷ ts) h = grind (arith, eqb-true)

-- what a primary begins with

no_star : (ts : List ℕ) → begins_primary ts ≡ true → after (codes "*") ts ≡ None
no_star [] h = absurd cc
no_star (c ∷ ts) h = grind (arith, eqb-true)

no_sign : (ts : List ℕ) → begins_primary ts ≡ true → sign_at ts ≡ (unsigned, ts)
no_sign [] h = absurd cc
no_sign (c ∷ ts) h = grind (arith, eqb-true)

numeral_begins : (ds rest : List ℕ) → is_numeral ds ≡ true → begins_primary (ds ++ rest) ≡ true
numeral_begins [] rest h = absurd cc
numeral_begins (c ∷ cs) rest h = grind arith

name_begins : (x rest : List ℕ) → is_name x ≡ true → begins_primary (x ++ rest) ≡ true
name_begins [] rest h = absurd cc
name_begins (c ∷ cs) rest h = grind arith

word_is_name : (x w : List ℕ) → is_same_text x w ≡ true → is_name w ≡ true → is_name x ≡ true
word_is_name x w s n = subst (λ (y : List ℕ). is_name y ≡ true) (sym (same_text x w (sym s))) n

one_of_words : (x u w : List ℕ) → (is_same_text x u || is_same_text x w) ≡ true → is_name u ≡ true → is_name w ≡ true → is_name x ≡ true
one_of_words x u w s n m =
    let go : (a : Bool) → is_same_text x u ≡ a → (a || is_same_text x w) ≡ true → is_name x ≡ true = λ a. elim a as (λ a. is_same_text x u ≡ a → (a || is_same_text x w) ≡ true → is_name x ≡ true) [
      | true ↦ λ h k. word_is_name x u h n
      | false ↦ λ h k. word_is_name x w k m
    ] in
    go (is_same_text x u) refl s

-- each intrinsic function's name is a name
pub intrinsic_name : (x : List ℕ) (f : Intrinsic) → intrinsic_of x ≡ Some f → is_name x ≡ true
unfolding intrinsic_of
intrinsic_name x f h =
    let least_or_none : Option Intrinsic = cond (is_same_text x (codes "MIN") || is_same_text x (codes "MIN0")) (Some Min) None in
    let greatest_or_less : Option Intrinsic = cond (is_same_text x (codes "MAX") || is_same_text x (codes "MAX0")) (Some Max) least_or_none in
    let absolute_or_less : Option Intrinsic = cond (is_same_text x (codes "ABS") || is_same_text x (codes "IABS")) (Some Abs) greatest_or_less in
    elim (chosen (is_same_text x (codes "MOD")) (Some Mod) absolute_or_less (Some f) h) [
      | inl a ↦ word_is_name x (codes "MOD") a.0 refl
      | inr a ↦ elim (chosen (is_same_text x (codes "ABS") || is_same_text x (codes "IABS")) (Some Abs) greatest_or_less (Some f) a.1) [
        | inl b ↦ one_of_words x (codes "ABS") (codes "IABS") b.0 refl refl
        | inr b ↦ elim (chosen (is_same_text x (codes "MAX") || is_same_text x (codes "MAX0")) (Some Max) least_or_none (Some f) b.1) [
          | inl d ↦ one_of_words x (codes "MAX") (codes "MAX0") d.0 refl refl
          | inr d ↦ elim (chosen (is_same_text x (codes "MIN") || is_same_text x (codes "MIN0")) (Some Min) None (Some f) d.1) [
            | inl e ↦ one_of_words x (codes "MIN") (codes "MIN0") e.0 refl refl
            | inr e ↦ absurd (let z = e.1 in cc)
          ]
        ]
      ]
    ]

reference_begins : (r : ReferenceForm) (rest : List ℕ) → begins_primary (reference_form_text r ++ rest) ≡ true
reference_begins (scalar x is) rest = name_begins x rest is
reference_begins (element x is other a) rest = rw (assoc_4 x (codes "(") (exprs_form_text a) (codes ")") rest) (name_begins x _ is)

primary_begins : (p : PrimaryForm) (rest : List ℕ) → begins_primary (primary_form_text p ++ rest) ≡ true
primary_begins (literal ds is) rest = numeral_begins ds rest is
primary_begins (reference r) rest = reference_begins r rest
primary_begins (remainder x is a b) rest = rw (assoc_6 x (codes "(") (expr_form_text a) (codes ",") (expr_form_text b) (codes ")") rest) (name_begins x _ (intrinsic_name x Mod is))
primary_begins (absolute x is a) rest = rw (assoc_4 x (codes "(") (expr_form_text a) (codes ")") rest) (name_begins x _ (intrinsic_name x Abs is))
primary_begins (greatest x is a b) rest = rw (assoc_6 x (codes "(") (expr_form_text a) (codes ",") (exprs_form_text b) (codes ")") rest) (name_begins x _ (intrinsic_name x Max is))
primary_begins (least x is a b) rest = rw (assoc_6 x (codes "(") (expr_form_text a) (codes ",") (exprs_form_text b) (codes ")") rest) (name_begins x _ (intrinsic_name x Min is))
primary_begins (parentheses e) rest = refl

factor_begins : (f : FactorForm) (rest : List ℕ) → begins_primary (factor_form_text f ++ rest) ≡ true
factor_begins (plain p) rest = primary_begins p rest
factor_begins (power p f) rest = rw (assoc_3 (primary_form_text p) (codes "**") (factor_form_text f) rest) (primary_begins p _)

pub term_begins : (t : TermForm) (rest : List ℕ) → begins_primary (term_form_text t ++ rest) ≡ true
term_begins (single f) rest = factor_begins f rest
term_begins (product t op f) rest = rw (assoc_3 (term_form_text t) (scaling_text op) (factor_form_text f) rest) (term_begins t _)

-- operators

scaling_again : (op : Scaling) (ts : List ℕ) → scaling_at (scaling_text op ++ ts) ≡ Some (op, ts)
scaling_again multiply ts = refl
scaling_again divide ts = refl

adding_again : (op : Adding) (ts : List ℕ) → adding_at (adding_text op ++ ts) ≡ Some (op, ts)
adding_again add ts = refl
adding_again subtract ts = refl

scaling_ends : (op : Scaling) (ts : List ℕ) → ends_word (scaling_text op ++ ts) ≡ true
scaling_ends multiply ts = refl
scaling_ends divide ts = refl

adding_ends : (op : Adding) (ts : List ℕ) → ends_word (adding_text op ++ ts) ≡ true
adding_ends add ts = refl
adding_ends subtract ts = refl

adding_no_scaling : (op : Adding) (ts : List ℕ) → scaling_at (adding_text op ++ ts) ≡ None
adding_no_scaling add ts = refl
adding_no_scaling subtract ts = refl

scaling_no_power : (op : Scaling) (ts : List ℕ) → begins_primary ts ≡ true → after (codes "**") (scaling_text op ++ ts) ≡ None
scaling_no_power multiply ts h = no_star ts h
scaling_no_power divide ts h = refl

no_scaling_no_power : (ts : List ℕ) → scaling_at ts ≡ None → after (codes "**") ts ≡ None
no_scaling_no_power [] h = refl
no_scaling_no_power (c ∷ ts) h = let k : eqb 42 c ≡ false = grind arith in rw k refl

products_stop : (v : ℕ → ℕ) (a : ExprTree) (rest : List ℕ) → scaling_at rest ≡ None → products_of v a rest ≡ Some (a, rest)
products_stop v a rest h = products_step v a rest ∙ rw h refl

pub sums_stop : (v : ℕ → ℕ) (a : ExprTree) (rest : List ℕ) → adding_at rest ≡ None → sums_of v a rest ≡ Some (a, rest)
sums_stop v a rest h = sums_step v a rest ∙ rw h refl

-- literals and names

literal_again : (v : ℕ → ℕ) (ds rest : List ℕ) → is_numeral ds ≡ true → ends_word rest ≡ true → primary_of v (ds ++ rest) ≡ Some (Int (v (numeral_value ds)), rest)
literal_again v [] rest n h = absurd cc
literal_again v (c ∷ cs) rest n h =
    let d : is_digit c ≡ true = grind arith in
    let o : after (codes "(") (c ∷ (cs ++ rest)) ≡ None = grind (arith, eqb-true) in
    let f = front_again is_digit (c ∷ cs) rest n (ends_digits rest h) in
    let b = behind_again is_digit (c ∷ cs) rest n (ends_digits rest h) in
    primary_step v (c ∷ (cs ++ rest))
    ∙ rw (o, d) refl
    ∙ ap (λ (w : List ℕ). Some (Int (v (numeral_value w)), behind is_digit (c ∷ (cs ++ rest)))) f
    ∙ ap (λ (r : List ℕ). Some (Int (v (numeral_value (c ∷ cs))), r)) b

name_again : (v : ℕ → ℕ) (x rest : List ℕ) → is_name x ≡ true → stops is_alphanumeric rest ≡ true → primary_of v (x ++ rest) ≡ named_of v x rest
name_again v [] rest n h = absurd cc
name_again v (c ∷ cs) rest n h =
    let e : list_all is_alphanumeric (c ∷ cs) ≡ true = grind arith in
    let o : after (codes "(") (c ∷ (cs ++ rest)) ≡ None = grind (arith, eqb-true) in
    let d : is_digit c ≡ false = grind arith in
    let f = front_again is_alphanumeric (c ∷ cs) rest e h in
    let b = behind_again is_alphanumeric (c ∷ cs) rest e h in
    primary_step v (c ∷ (cs ++ rest))
    ∙ rw (o, d) refl
    ∙ ap (λ (w : List ℕ). named_of v w (behind is_alphanumeric (c ∷ (cs ++ rest)))) f
    ∙ ap (named_of v (c ∷ cs)) b

-- a name before expressions in parentheses
called_again : (v : ℕ → ℕ) (x text rest : List ℕ) (es : ExprTrees) (e : ExprTree) → is_name x ≡ true → exprs_of v (text ++ (codes ")" ++ rest)) ≡ Some (es, codes ")" ++ rest) → applied x es ≡ Some e
    → primary_of v (x ++ (codes "(" ++ (text ++ (codes ")" ++ rest)))) ≡ Some (e, rest)
called_again v x text rest es e n h a =
    name_again v x (codes "(" ++ (text ++ (codes ")" ++ rest))) n refl
    ∙ named_step v x (codes "(" ++ (text ++ (codes ")" ++ rest)))
    ∙ rw (n, h, a) refl

last_again : (v : ℕ → ℕ) (ts r : List ℕ) (e : ExprTree) → expr_of v ts ≡ Some (e, r) → after (codes ",") r ≡ None → exprs_of v ts ≡ Some (more_exprs e no_exprs, r)
last_again v ts r e h k = exprs_step v ts ∙ rw (h, k) refl

more_again : (v : ℕ → ℕ) (ts r q : List ℕ) (e : ExprTree) (es : ExprTrees) → expr_of v ts ≡ Some (e, codes "," ++ r) → exprs_of v r ≡ Some (es, q) → exprs_of v ts ≡ Some (more_exprs e es, q)
more_again v ts r q e es h k = exprs_step v ts ∙ rw (h, k) refl

some_exprs : (v : ℕ → ℕ) (f : ExprsForm) → 1 ≤ expr_count (all_with_literals v (exprs_form_trees f))
some_exprs v (one e) = omega arith
some_exprs v (more e rest) = omega arith

two_or_more : (n : ℕ) → 1 ≤ n → nat_le 2 (suc n) ≡ true
two_or_more n h = le-leb 2 (suc n) (omega arith)

mutual
  pub primary_again : (v : ℕ → ℕ) (p : PrimaryForm) (rest : List ℕ) → ends_word rest ≡ true → primary_of v (primary_form_text p ++ rest) ≡ Some (with_literals v (primary_form_tree p), rest)
  primary_again v (literal ds is) rest h = literal_again v ds rest is h
  primary_again v (reference r) rest h = reference_again v r rest h
  primary_again v (remainder x is a b) rest h =
      ap (primary_of v) (assoc_6 x (codes "(") (expr_form_text a) (codes ",") (expr_form_text b) (codes ")") rest ∙ ap (λ (y : List ℕ). x ++ (codes "(" ++ y)) (sym (assoc_3 (expr_form_text a) (codes ",") (expr_form_text b) (codes ")" ++ rest))))
      ∙ called_again v x (expr_form_text a ++ codes "," ++ expr_form_text b) rest _ _ (intrinsic_name x Mod is)
      (ap (exprs_of v) (assoc_3 (expr_form_text a) (codes ",") (expr_form_text b) (codes ")" ++ rest))
      ∙ more_again v _ _ _ _ _ (expr_again v a (codes "," ++ (expr_form_text b ++ (codes ")" ++ rest))) refl refl ∙ sums_stop v _ _ refl)
      (last_again v _ _ _ (expr_again v b (codes ")" ++ rest) refl refl ∙ sums_stop v _ _ refl) refl))
      (rw is refl)
  primary_again v (absolute x is a) rest h =
      ap (primary_of v) (assoc_4 x (codes "(") (expr_form_text a) (codes ")") rest)
      ∙ called_again v x (expr_form_text a) rest _ _ (intrinsic_name x Abs is)
      (last_again v _ _ _ (expr_again v a (codes ")" ++ rest) refl refl ∙ sums_stop v _ _ refl) refl)
      (rw is refl)
  primary_again v (greatest x is a b) rest h =
      ap (primary_of v) (assoc_6 x (codes "(") (expr_form_text a) (codes ",") (exprs_form_text b) (codes ")") rest ∙ ap (λ (y : List ℕ). x ++ (codes "(" ++ y)) (sym (assoc_3 (expr_form_text a) (codes ",") (exprs_form_text b) (codes ")" ++ rest))))
      ∙ called_again v x (expr_form_text a ++ codes "," ++ exprs_form_text b) rest _ _ (intrinsic_name x Max is)
      (ap (exprs_of v) (assoc_3 (expr_form_text a) (codes ",") (exprs_form_text b) (codes ")" ++ rest))
      ∙ more_again v _ _ _ _ _ (expr_again v a (codes "," ++ (exprs_form_text b ++ (codes ")" ++ rest))) refl refl ∙ sums_stop v _ _ refl)
      (exprs_again v b rest))
      (rw (is, two_or_more _ (some_exprs v b)) refl)
  primary_again v (least x is a b) rest h =
      ap (primary_of v) (assoc_6 x (codes "(") (expr_form_text a) (codes ",") (exprs_form_text b) (codes ")") rest ∙ ap (λ (y : List ℕ). x ++ (codes "(" ++ y)) (sym (assoc_3 (expr_form_text a) (codes ",") (exprs_form_text b) (codes ")" ++ rest))))
      ∙ called_again v x (expr_form_text a ++ codes "," ++ exprs_form_text b) rest _ _ (intrinsic_name x Min is)
      (ap (exprs_of v) (assoc_3 (expr_form_text a) (codes ",") (exprs_form_text b) (codes ")" ++ rest))
      ∙ more_again v _ _ _ _ _ (expr_again v a (codes "," ++ (exprs_form_text b ++ (codes ")" ++ rest))) refl refl ∙ sums_stop v _ _ refl)
      (exprs_again v b rest))
      (rw (is, two_or_more _ (some_exprs v b)) refl)
  primary_again v (parentheses e) rest h =
      ap (primary_of v) (assoc_3 (codes "(") (expr_form_text e) (codes ")") rest)
      ∙ primary_step v (codes "(" ++ (expr_form_text e ++ (codes ")" ++ rest)))
      ∙ rw (expr_again v e (codes ")" ++ rest) refl refl, sums_stop v (with_literals v (expr_form_tree e)) (codes ")" ++ rest) refl) refl

  pub reference_again : (v : ℕ → ℕ) (r : ReferenceForm) (rest : List ℕ) → ends_word rest ≡ true → primary_of v (reference_form_text r ++ rest) ≡ Some (with_literals v (reference_form_tree r), rest)
  reference_again v (scalar x is) rest h = name_again v x rest is (ends_alphanumeric rest h) ∙ named_step v x rest ∙ rw (is, ends_call rest h) refl
  reference_again v (element x is other a) rest h =
      ap (primary_of v) (assoc_4 x (codes "(") (exprs_form_text a) (codes ")") rest)
      ∙ called_again v x (exprs_form_text a) rest _ _ is (exprs_again v a rest) (rw other refl)

  pub factor_again : (v : ℕ → ℕ) (f : FactorForm) (rest : List ℕ) → ends_word rest ≡ true → after (codes "**") rest ≡ None → factor_of v (factor_form_text f ++ rest) ≡ Some (with_literals v (factor_form_tree f), rest)
  factor_again v (plain p) rest h k = factor_step v (primary_form_text p ++ rest) ∙ rw (primary_again v p rest h, k) refl
  factor_again v (power p f) rest h k =
      ap (factor_of v) (assoc_3 (primary_form_text p) (codes "**") (factor_form_text f) rest)
      ∙ factor_step v (primary_form_text p ++ (codes "**" ++ (factor_form_text f ++ rest)))
      ∙ rw (primary_again v p (codes "**" ++ (factor_form_text f ++ rest)) refl, factor_again v f rest h k) refl

  pub term_again : (v : ℕ → ℕ) (t : TermForm) (rest : List ℕ) → ends_word rest ≡ true → after (codes "**") rest ≡ None → term_of v (term_form_text t ++ rest) ≡ products_of v (with_literals v (term_form_tree t)) rest
  term_again v (single f) rest h k = term_step v (factor_form_text f ++ rest) ∙ rw (factor_again v f rest h k) refl
  term_again v (product t op f) rest h k =
      let r = factor_form_text f ++ rest in
      ap (term_of v) (assoc_3 (term_form_text t) (scaling_text op) (factor_form_text f) rest)
      ∙ term_again v t (scaling_text op ++ r) (scaling_ends op r) (scaling_no_power op r (factor_begins f rest))
      ∙ products_step v (with_literals v (term_form_tree t)) (scaling_text op ++ r)
      ∙ rw (scaling_again op r, factor_again v f rest h k) refl
      ∙ ap (λ (u : ExprTree). products_of v u rest) (sym (with_scaled v op (term_form_tree t) (factor_form_tree f)))

  pub expr_again : (v : ℕ → ℕ) (e : ExprForm) (rest : List ℕ) → ends_word rest ≡ true → scaling_at rest ≡ None → expr_of v (expr_form_text e ++ rest) ≡ sums_of v (with_literals v (expr_form_tree e)) rest
  expr_again v (first unsigned t) rest h k =
      expr_step v (term_form_text t ++ rest)
      ∙ rw (no_sign (term_form_text t ++ rest) (term_begins t rest), term_again v t rest h (no_scaling_no_power rest k), products_stop v (with_literals v (term_form_tree t)) rest k) refl
  expr_again v (first positive t) rest h k =
      expr_step v (codes "+" ++ (term_form_text t ++ rest)) ∙ rw (term_again v t rest h (no_scaling_no_power rest k), products_stop v (with_literals v (term_form_tree t)) rest k) refl
  expr_again v (first negative t) rest h k =
      expr_step v (codes "-" ++ (term_form_text t ++ rest)) ∙ rw (term_again v t rest h (no_scaling_no_power rest k), products_stop v (with_literals v (term_form_tree t)) rest k) refl
  expr_again v (sum e op t) rest h k =
      let r = term_form_text t ++ rest in
      ap (expr_of v) (assoc_3 (expr_form_text e) (adding_text op) (term_form_text t) rest)
      ∙ expr_again v e (adding_text op ++ r) (adding_ends op r) (adding_no_scaling op r)
      ∙ sums_step v (with_literals v (expr_form_tree e)) (adding_text op ++ r)
      ∙ rw (adding_again op r, term_again v t rest h (no_scaling_no_power rest k), products_stop v (with_literals v (term_form_tree t)) rest k) refl
      ∙ ap (λ (u : ExprTree). sums_of v u rest) (sym (with_added v op (expr_form_tree e) (term_form_tree t)))

  pub exprs_again : (v : ℕ → ℕ) (f : ExprsForm) (rest : List ℕ) → exprs_of v (exprs_form_text f ++ (codes ")" ++ rest)) ≡ Some (all_with_literals v (exprs_form_trees f), codes ")" ++ rest)
  exprs_again v (one e) rest = last_again v _ _ _ (expr_again v e (codes ")" ++ rest) refl refl ∙ sums_stop v _ _ refl) refl
  exprs_again v (more e f) rest =
      ap (exprs_of v) (assoc_3 (expr_form_text e) (codes ",") (exprs_form_text f) (codes ")" ++ rest))
      ∙ more_again v _ _ _ _ _ (expr_again v e (codes "," ++ (exprs_form_text f ++ (codes ")" ++ rest))) refl refl ∙ sums_stop v _ _ refl) (exprs_again v f rest)
