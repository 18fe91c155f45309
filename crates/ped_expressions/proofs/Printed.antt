-- What is printed of an expression has a form in each place.
use Rattle.std.proofs.Common.{◌≡◌, ℕ, suc, ◌<◌, ◌^◌, true, false, List, [], ◌∷◌, ◌++◌, length, None, Some, refl, sym, ap, subst, ◌∙◌, append_assoc, arith, rules, ltb}
use Rattle.std.specs.Prelude.{codes, ◌||◌, nat_le}
use Rattle.std.specs.Fmt.{decimal}
use Rattle.std.specs.List.{list_all}
use Rattle.std.specs.Str.Parse.{digits_value}
use Rattle.std.proofs.lemmas.Bool.{ltb-false, le-leb}
use Rattle.std.proofs.lemmas.List.{append-nil}
use Rattle.std.proofs.lemmas.Str.Parse.{IsNumeralModel, numerals_by_value}
use Rattle.std.proofs.lemmas.Fmt.{decimal_is_IsNumeral, digits_decimal}
use Rattle.ped_base.specs.Letters.{is_digit}
use Rattle.ped_tree.specs.declared.expressions.Intrinsic.{Intrinsic}
use Rattle.ped_tree.specs.declared.expressions.Intrinsic.TheVariants.{Mod, Abs, Max, Min}
use Rattle.ped_tree.specs.Tree.{ExprTree, ExprTrees, Int, Var, Element, Neg, Add, Sub, Mul, Div, Pow, Call, no_exprs, more_exprs}
use Rattle.ped_tree.specs.Grammar.Words.{is_name, is_numeral, intrinsic_of}
use Rattle.ped_tree.specs.Grammar.Literals.{has_large_literal, have_large_literal}
use Rattle.ped_tree.specs.Printing.{alone, as_term, as_factor, as_base, intrinsic_text, expr_text, exprs_text, further_text}
use Rattle.ped_tree.specs.Grammar.ExpressionForms.{Sign, unsigned, positive, negative, Adding, add, subtract, Scaling, multiply, divide, ExprForm, TermForm, FactorForm, PrimaryForm, ReferenceForm, ExprsForm, first, sum, single, product, plain, power, literal, reference, remainder, absolute, greatest, least, parentheses, scalar, element, one, more, expr_form_text, term_form_text, factor_form_text, primary_form_text, exprs_form_text, signed, added, scaled, expr_form_tree, term_form_tree, factor_form_tree, primary_form_tree, reference_form_tree, exprs_form_trees, ReadsExpr, ReadsReference}
use Rattle.ped_expressions.specs.ExpressionReading.{expr_count, takes}
use Rattle.ped_expressions.proofs.Sound.{is_call}
use Rattle.ped_expressions.proofs.Large.{neither}

-- a tree of a form without a literal that is too large
abbrev mutual
  pub Stands : ExprTree → Type 0
  Stands (Int n) = ltb 2147483647 n ≡ false
  Stands (Var x) = is_name x ≡ true
  Stands (Element x es) = (is_name x ≡ true) × (intrinsic_of x ≡ None) × SomeStand es
  Stands (Neg a) = Stands a
  Stands (Add a b) = Stands a × Stands b
  Stands (Sub a b) = Stands a × Stands b
  Stands (Mul a b) = Stands a × Stands b
  Stands (Div a b) = Stands a × Stands b
  Stands (Pow a b) = Stands a × Stands b
  Stands (Call f es) = (takes f (expr_count es) ≡ true) × SomeStand es

  -- one or more
  pub SomeStand : ExprTrees → Type 0
  SomeStand no_exprs = ⊥
  SomeStand (more_exprs e es) = Stands e × AllStand es

  pub AllStand : ExprTrees → Type 0
  AllStand no_exprs = Unit {0}
  AllStand (more_exprs e es) = Stands e × AllStand es

-- the tree of a form stands

signed_stands : (s : Sign) (a : ExprTree) → Stands a → Stands (signed s a)
signed_stands unsigned a h = h
signed_stands positive a h = h
signed_stands negative a h = h

added_stands : (op : Adding) (a b : ExprTree) → Stands a → Stands b → Stands (added op a b)
added_stands add a b h k = (h, k)
added_stands subtract a b h k = (h, k)

scaled_stands : (op : Scaling) (a b : ExprTree) → Stands a → Stands b → Stands (scaled op a b)
scaled_stands multiply a b h k = (h, k)
scaled_stands divide a b h k = (h, k)

small_signed : (s : Sign) (a : ExprTree) → has_large_literal (signed s a) ≡ false → has_large_literal a ≡ false
small_signed unsigned a h = h
small_signed positive a h = h
small_signed negative a h = h

small_added : (op : Adding) (a b : ExprTree) → has_large_literal (added op a b) ≡ false → (has_large_literal a ≡ false) × (has_large_literal b ≡ false)
small_added add a b h = neither (has_large_literal a) (has_large_literal b) h
small_added subtract a b h = neither (has_large_literal a) (has_large_literal b) h

small_scaled : (op : Scaling) (a b : ExprTree) → has_large_literal (scaled op a b) ≡ false → (has_large_literal a ≡ false) × (has_large_literal b ≡ false)
small_scaled multiply a b h = neither (has_large_literal a) (has_large_literal b) h
small_scaled divide a b h = neither (has_large_literal a) (has_large_literal b) h

all_stand : (es : ExprTrees) → SomeStand es → AllStand es
all_stand no_exprs h = absurd h
all_stand (more_exprs e es) h = h

two_or_more : (f : ExprsForm) → nat_le 2 (suc (expr_count (exprs_form_trees f))) ≡ true
two_or_more (one e) = refl
two_or_more (more e rest) = le-leb _ _ (omega arith)

mutual
  pub expr_stands : (f : ExprForm) → has_large_literal (expr_form_tree f) ≡ false → Stands (expr_form_tree f)
  expr_stands (first s t) h = signed_stands s (term_form_tree t) (term_stands t (small_signed s (term_form_tree t) h))
  expr_stands (sum e op t) h = let k = small_added op (expr_form_tree e) (term_form_tree t) h in added_stands op (expr_form_tree e) (term_form_tree t) (expr_stands e k.0) (term_stands t k.1)

  term_stands : (f : TermForm) → has_large_literal (term_form_tree f) ≡ false → Stands (term_form_tree f)
  term_stands (single f) h = factor_stands f h
  term_stands (product t op f) h = let k = small_scaled op (term_form_tree t) (factor_form_tree f) h in scaled_stands op (term_form_tree t) (factor_form_tree f) (term_stands t k.0) (factor_stands f k.1)

  factor_stands : (f : FactorForm) → has_large_literal (factor_form_tree f) ≡ false → Stands (factor_form_tree f)
  factor_stands (plain p) h = primary_stands p h
  factor_stands (power p f) h = let k = neither (has_large_literal (primary_form_tree p)) (has_large_literal (factor_form_tree f)) h in (primary_stands p k.0, factor_stands f k.1)

  primary_stands : (p : PrimaryForm) → has_large_literal (primary_form_tree p) ≡ false → Stands (primary_form_tree p)
  primary_stands (literal ds is) h = h
  primary_stands (reference r) h = reference_stands r h
  primary_stands (remainder x is a b) h =
      let k = neither (has_large_literal (expr_form_tree a)) (has_large_literal (expr_form_tree b) || false) h in
      let l = neither (has_large_literal (expr_form_tree b)) false k.1 in
      (refl, (expr_stands a k.0, (expr_stands b l.0, tt)))
  primary_stands (absolute x is a) h =
      let k = neither (has_large_literal (expr_form_tree a)) false h in
      (refl, (expr_stands a k.0, tt))
  primary_stands (greatest x is a b) h =
      let k = neither (has_large_literal (expr_form_tree a)) (have_large_literal (exprs_form_trees b)) h in
      (two_or_more b, (expr_stands a k.0, all_stand (exprs_form_trees b) (exprs_stand b k.1)))
  primary_stands (least x is a b) h =
      let k = neither (has_large_literal (expr_form_tree a)) (have_large_literal (exprs_form_trees b)) h in
      (two_or_more b, (expr_stands a k.0, all_stand (exprs_form_trees b) (exprs_stand b k.1)))
  primary_stands (parentheses e) h = expr_stands e h

  pub reference_stands : (r : ReferenceForm) → has_large_literal (reference_form_tree r) ≡ false → Stands (reference_form_tree r)
  reference_stands (scalar x is) h = is
  reference_stands (element x is other a) h = (is, other, exprs_stand a h)

  exprs_stand : (f : ExprsForm) → have_large_literal (exprs_form_trees f) ≡ false → SomeStand (exprs_form_trees f)
  exprs_stand (one e) h = let k = neither (has_large_literal (expr_form_tree e)) false h in (expr_stands e k.0, tt)
  exprs_stand (more e f) h =
      let k = neither (has_large_literal (expr_form_tree e)) (have_large_literal (exprs_form_trees f)) h in
      (expr_stands e k.0, all_stand (exprs_form_trees f) (exprs_stand f k.1))

-- a form for each place where the tree may stand
pub record Printed (e : ExprTree) : Type 0 where
  pub expr_form : (f : ExprForm) × (expr_form_text f ≡ expr_text alone e) × (expr_form_tree f ≡ e)
  pub term_form : (f : TermForm) × (term_form_text f ≡ expr_text as_term e) × (term_form_tree f ≡ e)
  pub factor_form : (f : FactorForm) × (factor_form_text f ≡ expr_text as_factor e) × (factor_form_tree f ≡ e)
  pub base_form : (f : PrimaryForm) × (primary_form_text f ≡ expr_text as_base e) × (primary_form_tree f ≡ e)

enclose : (ts : List ℕ) (f : ExprForm) → expr_form_text f ≡ ts → primary_form_text (parentheses f) ≡ codes "(" ++ ts ++ codes ")"
enclose ts f t = ap (λ (x : List ℕ). codes "(" ++ x ++ codes ")") t

from_primary : (e : ExprTree) (ts : List ℕ) (f : PrimaryForm) → primary_form_text f ≡ ts → primary_form_tree f ≡ e → ts ≡ expr_text alone e → ts ≡ expr_text as_term e → ts ≡ expr_text as_factor e → ts ≡ expr_text as_base e → Printed e
from_primary e ts f t i a b c d = record {
  expr_form = (first unsigned (single (plain f)), t ∙ a, i);
  term_form = (single (plain f), t ∙ b, i);
  factor_form = (plain f, t ∙ c, i);
  base_form = (f, t ∙ d, i);
}

from_factor : (e : ExprTree) (ts : List ℕ) (f : FactorForm) → factor_form_text f ≡ ts → factor_form_tree f ≡ e → ts ≡ expr_text alone e → ts ≡ expr_text as_term e → ts ≡ expr_text as_factor e → codes "(" ++ ts ++ codes ")" ≡ expr_text as_base e → Printed e
from_factor e ts f t i a b c d = record {
  expr_form = (first unsigned (single f), t ∙ a, i);
  term_form = (single f, t ∙ b, i);
  factor_form = (f, t ∙ c, i);
  base_form = (parentheses (first unsigned (single f)), enclose ts (first unsigned (single f)) t ∙ d, i);
}

from_term : (e : ExprTree) (ts : List ℕ) (f : TermForm) → term_form_text f ≡ ts → term_form_tree f ≡ e → ts ≡ expr_text alone e → ts ≡ expr_text as_term e → codes "(" ++ ts ++ codes ")" ≡ expr_text as_factor e → codes "(" ++ ts ++ codes ")" ≡ expr_text as_base e → Printed e
from_term e ts f t i a b c d = record {
  expr_form = (first unsigned f, t ∙ a, i);
  term_form = (f, t ∙ b, i);
  factor_form = (plain (parentheses (first unsigned f)), enclose ts (first unsigned f) t ∙ c, i);
  base_form = (parentheses (first unsigned f), enclose ts (first unsigned f) t ∙ d, i);
}

from_sum : (e : ExprTree) (ts : List ℕ) (f : ExprForm) → expr_form_text f ≡ ts → expr_form_tree f ≡ e → ts ≡ expr_text alone e → codes "(" ++ ts ++ codes ")" ≡ expr_text as_term e → codes "(" ++ ts ++ codes ")" ≡ expr_text as_factor e → codes "(" ++ ts ++ codes ")" ≡ expr_text as_base e → Printed e
from_sum e ts f t i a b c d = record {
  expr_form = (f, t ∙ a, i);
  term_form = (single (plain (parentheses f)), enclose ts f t ∙ b, i);
  factor_form = (plain (parentheses f), enclose ts f t ∙ c, i);
  base_form = (parentheses f, enclose ts f t ∙ d, i);
}

-- literals and names of functions

numerals : IsNumeralModel (λ ds. list_all is_digit ds ≡ true) (digits_value 10)
numerals = numerals_by_value (λ ds. list_all is_digit ds ≡ true) (search rules)

numeral_from : (ds : List ℕ) → list_all is_digit ds ≡ true → 0 < length ds → is_numeral ds ≡ true
numeral_from [] e h = absurd (omega arith)
numeral_from (c ∷ cs) e h = e

intrinsic_again : (f : Intrinsic) → intrinsic_of (intrinsic_text f) ≡ Some f
unfolding intrinsic_of
intrinsic_again Mod = refl
intrinsic_again Abs = refl
intrinsic_again Max = refl
intrinsic_again Min = refl

joined : (a b c d op : List ℕ) → a ≡ c → b ≡ d → a ++ op ++ b ≡ c ++ op ++ d
joined a b c d op p q = cc

further : (e d f : List ℕ) → e ++ codes "," ++ (d ++ f) ≡ e ++ (codes "," ++ d ++ f)
further e d f = simp append_assoc

mutual
  pub printed : (e : ExprTree) → Stands e → Printed e
  printed (Int n) h =
      let k = ltb-false 2147483647 n h in
      let w : n < 2 ^ 64 = omega arith in
      let d = decimal_is_IsNumeral n w in
      from_primary (Int n) (decimal n) (literal (decimal n) (numeral_from (decimal n) (digits_decimal numerals n w) d.0.0)) refl (ap Int d.1) refl refl refl refl
  printed (Var x) h = from_primary (Var x) x (reference (scalar x h)) refl refl refl refl refl refl
  printed (Element x es) h =
      let a = printed_exprs es h.2 in
      from_primary (Element x es) (x ++ codes "(" ++ exprs_text es ++ codes ")") (reference (element x h.0 h.1 a.0)) (ap (λ (y : List ℕ). x ++ codes "(" ++ y ++ codes ")") a.1) (ap (Element x) a.2) refl refl refl refl
  printed (Call f es) h =
      let a = printed_exprs es h.1 in
      let p = is_call (intrinsic_text f) f a.0 (intrinsic_again f) (ap (λ (u : ExprTrees). takes f (expr_count u)) a.2 ∙ h.0) in
      from_primary (Call f es) (intrinsic_text f ++ codes "(" ++ exprs_text es ++ codes ")") p.0 (p.2 ∙ ap (λ (y : List ℕ). intrinsic_text f ++ codes "(" ++ y ++ codes ")") a.1) (p.1 ∙ ap (Call f) a.2) refl refl refl refl
  printed (Neg a) h =
      let p = (printed a h).term_form in
      from_sum (Neg a) (codes "-" ++ expr_text as_term a) (first negative p.0) (ap (λ (y : List ℕ). codes "-" ++ y) p.1) (ap Neg p.2) refl refl refl refl
  printed (Add a b) h =
      let p = (printed a h.0).expr_form in
      let q = (printed b h.1).term_form in
      from_sum (Add a b) (expr_text alone a ++ codes "+" ++ expr_text as_term b) (sum p.0 add q.0) (joined _ _ _ _ (codes "+") p.1 q.1) (ap (λ (u : ExprTree). Add u (term_form_tree q.0)) p.2 ∙ ap (Add a) q.2) refl refl refl refl
  printed (Sub a b) h =
      let p = (printed a h.0).expr_form in
      let q = (printed b h.1).term_form in
      from_sum (Sub a b) (expr_text alone a ++ codes "-" ++ expr_text as_term b) (sum p.0 subtract q.0) (joined _ _ _ _ (codes "-") p.1 q.1) (ap (λ (u : ExprTree). Sub u (term_form_tree q.0)) p.2 ∙ ap (Sub a) q.2) refl refl refl refl
  printed (Mul a b) h =
      let p = (printed a h.0).term_form in
      let q = (printed b h.1).factor_form in
      from_term (Mul a b) (expr_text as_term a ++ codes "*" ++ expr_text as_factor b) (product p.0 multiply q.0) (joined _ _ _ _ (codes "*") p.1 q.1) (ap (λ (u : ExprTree). Mul u (factor_form_tree q.0)) p.2 ∙ ap (Mul a) q.2) refl refl refl refl
  printed (Div a b) h =
      let p = (printed a h.0).term_form in
      let q = (printed b h.1).factor_form in
      from_term (Div a b) (expr_text as_term a ++ codes "/" ++ expr_text as_factor b) (product p.0 divide q.0) (joined _ _ _ _ (codes "/") p.1 q.1) (ap (λ (u : ExprTree). Div u (factor_form_tree q.0)) p.2 ∙ ap (Div a) q.2) refl refl refl refl
  printed (Pow a b) h =
      let p = (printed a h.0).base_form in
      let q = (printed b h.1).factor_form in
      from_factor (Pow a b) (expr_text as_base a ++ codes "**" ++ expr_text as_factor b) (power p.0 q.0) (joined _ _ _ _ (codes "**") p.1 q.1) (ap (λ (u : ExprTree). Pow u (factor_form_tree q.0)) p.2 ∙ ap (Pow a) q.2) refl refl refl refl

  pub printed_exprs : (es : ExprTrees) → SomeStand es → (f : ExprsForm) × (exprs_form_text f ≡ exprs_text es) × (exprs_form_trees f ≡ es)
  printed_exprs no_exprs h = absurd h
  printed_exprs (more_exprs e no_exprs) h =
      let p = (printed e h.0).expr_form in
      (one p.0, p.1 ∙ sym (append-nil (expr_text alone e)), ap (λ (u : ExprTree). more_exprs u no_exprs) p.2)
  printed_exprs (more_exprs e (more_exprs d es)) h =
      let p = (printed e h.0).expr_form in
      let q = printed_exprs (more_exprs d es) h.1 in
      (more p.0 q.0, joined _ _ _ _ (codes ",") p.1 q.1 ∙ further (expr_text alone e) (expr_text alone d) (further_text es), ap (λ (u : ExprTree). more_exprs u (exprs_form_trees q.0)) p.2 ∙ ap (more_exprs e) q.2)

-- the printed text of what some text reads as reads so

pub expr_prints : (text : List ℕ) (e : ExprTree) → ReadsExpr text e → has_large_literal e ≡ false → ReadsExpr (expr_text alone e) e
expr_prints text e r small =
    let p = (printed e (subst Stands r.2 (expr_stands r.0 (ap has_large_literal r.2 ∙ small)))).expr_form in
    (p.0, p.1, p.2)

reference_printed : (r : ReferenceForm) → Stands (reference_form_tree r) → ReadsReference (expr_text alone (reference_form_tree r)) (reference_form_tree r)
reference_printed (scalar x is) h = (scalar x is, refl, refl)
reference_printed (element x is other a) h =
    let b = printed_exprs (exprs_form_trees a) h.2 in
    (element x is other b.0, ap (λ (y : List ℕ). x ++ codes "(" ++ y ++ codes ")") b.1, ap (Element x) b.2)

pub reference_prints : (text : List ℕ) (e : ExprTree) → ReadsReference text e → has_large_literal e ≡ false → ReadsReference (expr_text alone e) e
reference_prints text e r small =
    subst (λ (u : ExprTree). ReadsReference (expr_text alone u) u) r.2 (reference_printed r.0 (reference_stands r.0 (ap has_large_literal r.2 ∙ small)))
