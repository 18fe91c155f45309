-- Printed expressions, references and conditions have no blanks, and forms with the same tree.
use Rattle.std.proofs.Common.{◌≡◌, ℕ, ◌<◌, ◌^◌, Bool, true, false, List, [], ◌∷◌, ◌++◌, length, refl, sym, subst, arith, rules}
use Rattle.std.specs.Prelude.{codes}
use Rattle.std.specs.Fmt.{decimal}
use Rattle.std.specs.List.{list_all}
use Rattle.std.specs.Str.Parse.{digits_value}
use Rattle.std.proofs.lemmas.Bool.{or_parts, ltb-false}
use Rattle.std.proofs.lemmas.Str.Parse.{IsNumeralModel, numerals_by_value}
use Rattle.std.proofs.lemmas.Fmt.{decimal_is_IsNumeral, digits_decimal}
use Rattle.ped_lines.specs.ped_base.specs.Letters.{is_digit}
use Rattle.ped_lines.specs.ped_tree.specs.declared.expressions.Intrinsic.{Intrinsic}
use Rattle.ped_lines.specs.ped_tree.specs.declared.expressions.Intrinsic.TheVariants.{Mod, Abs, Max, Min}
use Rattle.ped_lines.specs.ped_tree.specs.declared.conditions.Relation.{Relation}
use Rattle.ped_lines.specs.ped_tree.specs.declared.conditions.Relation.TheVariants as relations
use Rattle.ped_lines.specs.ped_tree.specs.Tree.{ExprTree, ExprTrees, Int, Var, Element, Neg, Add, Sub, Mul, Div, Pow, Call, no_exprs, more_exprs, CondTree}
use Rattle.ped_lines.specs.ped_tree.specs.Grammar.Words.{is_numeral}
use Rattle.ped_lines.specs.ped_tree.specs.Grammar.Literals.{has_large_literal, cond_has_large_literal}
use Rattle.ped_lines.specs.ped_tree.specs.Printing.{Place, alone, as_term, as_factor, as_base, encloses_sum, encloses_product, encloses_power, enclosed, intrinsic_text, expr_text, exprs_text, further_text, value_text, relation_text, Standing, whole, in_or, in_and, in_not, encloses_or, encloses_and, encloses_not, cond_text}
use Rattle.ped_lines.specs.ped_tree.specs.Grammar.ExpressionForms.{ExprForm, ReferenceForm, expr_form_text, expr_form_tree, reference_form_text, reference_form_tree}
use Rattle.ped_lines.specs.ped_tree.specs.Grammar.ConditionForms.{CondForm, LogicalTermForm, LogicalFactorForm, LogicalPrimaryForm, one_term, or, one_factor, and, affirmed, negated, relation, group, cond_form_text, cond_form_tree, logical_term_tree, logical_factor_tree, logical_primary_tree}
use Rattle.ped_statements.specs.ped_expressions.proofs.Printed.{Stands, SomeStand, AllStand, expr_stands, reference_stands, expr_prints, reference_prints}
use Rattle.ped_statements.specs.ped_expressions.proofs.CondPrinted.{cond_prints}
use Rattle.ped_printed.proofs.StatementLaws.Squeezing.{Reduces, joined, nothing, words, name_stays, numeral_stays}

-- parentheses

enclosed_stays : (b : Bool) (t : List ℕ) → Reduces t t → Reduces (enclosed b t) (enclosed b t)
enclosed_stays true t r = joined (joined (words (codes "(") refl) r) (words (codes ")") refl)
enclosed_stays false t r = r

in_parentheses : (x t : List ℕ) → Reduces x x → Reduces t t → Reduces (x ++ codes "(" ++ t ++ codes ")") (x ++ codes "(" ++ t ++ codes ")")
in_parentheses x t r s = joined (joined (joined r (words (codes "(") refl)) s) (words (codes ")") refl)

between : (a op b : List ℕ) → Reduces a a → Reduces op op → Reduces b b → Reduces (a ++ op ++ b) (a ++ op ++ b)
between a op b r o s = joined (joined r o) s

-- expressions

numerals : IsNumeralModel (λ ds. list_all is_digit ds ≡ true) (digits_value 10)
numerals = numerals_by_value (λ ds. list_all is_digit ds ≡ true) (search rules)

numeral_from : (ds : List ℕ) → list_all is_digit ds ≡ true → 0 < length ds → is_numeral ds ≡ true
numeral_from [] e h = absurd (omega arith)
numeral_from (c ∷ cs) e h = e

pub decimal_numeral : (n : ℕ) → n < 2 ^ 64 → (is_numeral (decimal n) ≡ true) × (digits_value 10 (decimal n) ≡ n)
decimal_numeral n w =
    let d = decimal_is_IsNumeral n w in
    (numeral_from (decimal n) (digits_decimal numerals n w) d.0.0, d.1)

intrinsic_stays : (f : Intrinsic) → Reduces (intrinsic_text f) (intrinsic_text f)
intrinsic_stays Mod = words (codes "MOD") refl
intrinsic_stays Abs = words (codes "ABS") refl
intrinsic_stays Max = words (codes "MAX") refl
intrinsic_stays Min = words (codes "MIN") refl

mutual
  pub expr_stays : (e : ExprTree) → Stands e → (p : Place) → Reduces (expr_text p e) (expr_text p e)
  expr_stays (Int n) h p = let k = ltb-false 2147483647 n h in numeral_stays (decimal n) (decimal_numeral n (omega arith)).0
  expr_stays (Var x) h p = name_stays x h
  expr_stays (Element x es) h p = in_parentheses x (exprs_text es) (name_stays x h.0) (some_stay es h.2)
  expr_stays (Neg a) h p = enclosed_stays (encloses_sum p) (codes "-" ++ expr_text as_term a) (joined (words (codes "-") refl) (expr_stays a h as_term))
  expr_stays (Add a b) h p = enclosed_stays (encloses_sum p) (expr_text alone a ++ codes "+" ++ expr_text as_term b) (between (expr_text alone a) (codes "+") (expr_text as_term b) (expr_stays a h.0 alone) (words (codes "+") refl) (expr_stays b h.1 as_term))
  expr_stays (Sub a b) h p = enclosed_stays (encloses_sum p) (expr_text alone a ++ codes "-" ++ expr_text as_term b) (between (expr_text alone a) (codes "-") (expr_text as_term b) (expr_stays a h.0 alone) (words (codes "-") refl) (expr_stays b h.1 as_term))
  expr_stays (Mul a b) h p = enclosed_stays (encloses_product p) (expr_text as_term a ++ codes "*" ++ expr_text as_factor b) (between (expr_text as_term a) (codes "*") (expr_text as_factor b) (expr_stays a h.0 as_term) (words (codes "*") refl) (expr_stays b h.1 as_factor))
  expr_stays (Div a b) h p = enclosed_stays (encloses_product p) (expr_text as_term a ++ codes "/" ++ expr_text as_factor b) (between (expr_text as_term a) (codes "/") (expr_text as_factor b) (expr_stays a h.0 as_term) (words (codes "/") refl) (expr_stays b h.1 as_factor))
  expr_stays (Pow a b) h p = enclosed_stays (encloses_power p) (expr_text as_base a ++ codes "**" ++ expr_text as_factor b) (between (expr_text as_base a) (codes "**") (expr_text as_factor b) (expr_stays a h.0 as_base) (words (codes "**") refl) (expr_stays b h.1 as_factor))
  expr_stays (Call f es) h p = in_parentheses (intrinsic_text f) (exprs_text es) (intrinsic_stays f) (some_stay es h.1)

  some_stay : (es : ExprTrees) → SomeStand es → Reduces (exprs_text es) (exprs_text es)
  some_stay no_exprs h = absurd h
  some_stay (more_exprs e rest) h = joined (expr_stays e h.0 alone) (further_stay rest h.1)

  further_stay : (es : ExprTrees) → AllStand es → Reduces (further_text es) (further_text es)
  further_stay no_exprs h = nothing
  further_stay (more_exprs e rest) h = joined (joined (words (codes ",") refl) (expr_stays e h.0 alone)) (further_stay rest h.1)

-- a form of the tree whose text is what is left of the printed text
abbrev pub Again : {F T : Type 0} → (F → List ℕ) → (F → T) → (T → List ℕ) → T → Type 0
Again {F} form_text form_tree text t = (f : F) × Reduces (text t) (form_text f) × (form_tree f ≡ t)

pub expr_again : (f : ExprForm) → has_large_literal (expr_form_tree f) ≡ false → Again expr_form_text expr_form_tree value_text (expr_form_tree f)
expr_again f small =
    let e = expr_form_tree f in
    let p = expr_prints (expr_form_text f) e (f, refl, refl) small in
    (p.0, subst (Reduces (value_text e)) (sym p.1) (expr_stays e (expr_stands f small) alone), p.2)

pub reference_again : (r : ReferenceForm) → has_large_literal (reference_form_tree r) ≡ false → Again reference_form_text reference_form_tree value_text (reference_form_tree r)
reference_again r small =
    let e = reference_form_tree r in
    let p = reference_prints (reference_form_text r) e (r, refl, refl) small in
    (p.0, subst (Reduces (value_text e)) (sym p.1) (expr_stays e (reference_stands r small) alone), p.2)

-- conditions

relation_stays : (r : Relation) → Reduces (relation_text r) (relation_text r)
relation_stays relations.Lt = words (codes ".LT.") refl
relation_stays relations.Le = words (codes ".LE.") refl
relation_stays relations.Eq = words (codes ".EQ.") refl
relation_stays relations.Ne = words (codes ".NE.") refl
relation_stays relations.Gt = words (codes ".GT.") refl
relation_stays relations.Ge = words (codes ".GE.") refl

-- wherever the condition stands
abbrev Stays : CondTree → Type 0
Stays c = (s : Standing) → Reduces (cond_text s c) (cond_text s c)

mutual
  cond_stays : (c : CondForm) → cond_has_large_literal (cond_form_tree c) ≡ false → Stays (cond_form_tree c)
  cond_stays (one_term t) h s = term_stays t h s
  cond_stays (or c t) h s =
      let k = or_parts (cond_has_large_literal (cond_form_tree c)) (cond_has_large_literal (logical_term_tree t)) h in
      enclosed_stays (encloses_or s) (cond_text whole (cond_form_tree c) ++ codes ".OR." ++ cond_text in_or (logical_term_tree t)) (between (cond_text whole (cond_form_tree c)) (codes ".OR.") (cond_text in_or (logical_term_tree t)) (cond_stays c k.0 whole) (words (codes ".OR.") refl) (term_stays t k.1 in_or))

  term_stays : (t : LogicalTermForm) → cond_has_large_literal (logical_term_tree t) ≡ false → Stays (logical_term_tree t)
  term_stays (one_factor f) h s = factor_stays f h s
  term_stays (and t f) h s =
      let k = or_parts (cond_has_large_literal (logical_term_tree t)) (cond_has_large_literal (logical_factor_tree f)) h in
      enclosed_stays (encloses_and s) (cond_text in_or (logical_term_tree t) ++ codes ".AND." ++ cond_text in_and (logical_factor_tree f)) (between (cond_text in_or (logical_term_tree t)) (codes ".AND.") (cond_text in_and (logical_factor_tree f)) (term_stays t k.0 in_or) (words (codes ".AND.") refl) (factor_stays f k.1 in_and))

  factor_stays : (f : LogicalFactorForm) → cond_has_large_literal (logical_factor_tree f) ≡ false → Stays (logical_factor_tree f)
  factor_stays (affirmed p) h s = primary_stays p h s
  factor_stays (negated p) h s = enclosed_stays (encloses_not s) (codes ".NOT." ++ cond_text in_not (logical_primary_tree p)) (joined (words (codes ".NOT.") refl) (primary_stays p h in_not))

  primary_stays : (p : LogicalPrimaryForm) → cond_has_large_literal (logical_primary_tree p) ≡ false → Stays (logical_primary_tree p)
  primary_stays (relation a r b) h s =
      let k = or_parts (has_large_literal (expr_form_tree a)) (has_large_literal (expr_form_tree b)) h in
      between (value_text (expr_form_tree a)) (relation_text r) (value_text (expr_form_tree b)) (expr_stays (expr_form_tree a) (expr_stands a k.0) alone) (relation_stays r) (expr_stays (expr_form_tree b) (expr_stands b k.1) alone)
  primary_stays (group c) h s = cond_stays c h s

pub cond_again : (c : CondForm) → cond_has_large_literal (cond_form_tree c) ≡ false → Again cond_form_text cond_form_tree (cond_text whole) (cond_form_tree c)
cond_again f small =
    let c = cond_form_tree f in
    let p = cond_prints (cond_form_text f) c (f, refl, refl) small in
    (p.0, subst (Reduces (cond_text whole c)) (sym p.1) (cond_stays f small whole), p.2)
