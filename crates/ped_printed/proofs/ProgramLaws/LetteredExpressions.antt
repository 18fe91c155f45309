-- Printed expressions and conditions that fit have characters that may stand outside constants.
use Rattle.std.proofs.Common.{◌≡◌, ℕ, Bool, true, false, List, ◌++◌, refl}
use Rattle.std.specs.Prelude.{codes}
use Rattle.std.proofs.lemmas.Bool.{and_parts}
use Rattle.ped_lines.specs.ped_tree.specs.declared.expressions.Intrinsic.{Intrinsic}
use Rattle.ped_lines.specs.ped_tree.specs.declared.expressions.Intrinsic.TheVariants.{Mod, Abs, Max, Min}
use Rattle.ped_lines.specs.ped_tree.specs.declared.conditions.Relation.{Relation}
use Rattle.ped_lines.specs.ped_tree.specs.declared.conditions.Relation.TheVariants as relations
use Rattle.ped_lines.specs.ped_tree.specs.Tree.{ExprTree, ExprTrees, Int, Var, Element, Neg, Add, Sub, Mul, Div, Pow, Call, no_exprs, more_exprs, CondTree, Rel, Not, And, Or}
use Rattle.ped_lines.specs.ped_tree.specs.Printing.{Place, alone, as_term, as_factor, as_base, encloses_sum, encloses_product, encloses_power, enclosed, intrinsic_text, expr_text, exprs_text, further_text, value_text, relation_text, Standing, whole, in_or, in_and, in_not, encloses_or, encloses_and, encloses_not, cond_text}
use Rattle.ped_lines.specs.ped_tree.specs.Grammar.Words.{is_name, intrinsic_of}
use Rattle.ped_lines.specs.ped_tree.specs.Grammar.Fits.{is_no_intrinsic, takes_arguments, has_expr, expr_fits, exprs_fit, target_fits, cond_fits}
use Rattle.ped_printed.proofs.ProgramLaws.Lettered.{Lettered, joined, nothing, words, name_passes, decimal_passes, Written, followed, name_begins}

-- parentheses

enclosed_passes : (b : Bool) (t : List ℕ) → Lettered t → Lettered (enclosed b t)
enclosed_passes true t h = joined (joined (words (codes "(") refl) h) (words (codes ")") refl)
enclosed_passes false t h = h

in_parentheses : (x t : List ℕ) → Lettered x → Lettered t → Lettered (x ++ codes "(" ++ t ++ codes ")")
in_parentheses x t h k = joined (joined (joined h (words (codes "(") refl)) k) (words (codes ")") refl)

between : (a op b : List ℕ) → Lettered a → Lettered op → Lettered b → Lettered (a ++ op ++ b)
between a op b h o k = joined (joined h o) k

intrinsic_passes : (f : Intrinsic) → Lettered (intrinsic_text f)
intrinsic_passes Mod = words (codes "MOD") refl
intrinsic_passes Abs = words (codes "ABS") refl
intrinsic_passes Max = words (codes "MAX") refl
intrinsic_passes Min = words (codes "MIN") refl

-- expressions, wherever they stand
mutual
  expr_passes : (e : ExprTree) → expr_fits e ≡ true → (p : Place) → Lettered (expr_text p e)
  expr_passes (Int n) h p = decimal_passes n
  expr_passes (Var x) h p = name_passes x h
  expr_passes (Element x es) h p =
      let a = and_parts _ (exprs_fit es) h in
      let b = and_parts _ (has_expr es) a.0 in
      let c = and_parts (is_name x) (is_no_intrinsic (intrinsic_of x)) b.0 in
      in_parentheses x (exprs_text es) (name_passes x c.0) (exprs_pass es a.1).0
  expr_passes (Neg a) h p = enclosed_passes (encloses_sum p) (codes "-" ++ expr_text as_term a) (joined (words (codes "-") refl) (expr_passes a h as_term))
  expr_passes (Add a b) h p =
      let k = and_parts (expr_fits a) (expr_fits b) h in
      enclosed_passes (encloses_sum p) _ (between (expr_text alone a) (codes "+") (expr_text as_term b) (expr_passes a k.0 alone) (words (codes "+") refl) (expr_passes b k.1 as_term))
  expr_passes (Sub a b) h p =
      let k = and_parts (expr_fits a) (expr_fits b) h in
      enclosed_passes (encloses_sum p) _ (between (expr_text alone a) (codes "-") (expr_text as_term b) (expr_passes a k.0 alone) (words (codes "-") refl) (expr_passes b k.1 as_term))
  expr_passes (Mul a b) h p =
      let k = and_parts (expr_fits a) (expr_fits b) h in
      enclosed_passes (encloses_product p) _ (between (expr_text as_term a) (codes "*") (expr_text as_factor b) (expr_passes a k.0 as_term) (words (codes "*") refl) (expr_passes b k.1 as_factor))
  expr_passes (Div a b) h p =
      let k = and_parts (expr_fits a) (expr_fits b) h in
      enclosed_passes (encloses_product p) _ (between (expr_text as_term a) (codes "/") (expr_text as_factor b) (expr_passes a k.0 as_term) (words (codes "/") refl) (expr_passes b k.1 as_factor))
  expr_passes (Pow a b) h p =
      let k = and_parts (expr_fits a) (expr_fits b) h in
      enclosed_passes (encloses_power p) _ (between (expr_text as_base a) (codes "**") (expr_text as_factor b) (expr_passes a k.0 as_base) (words (codes "**") refl) (expr_passes b k.1 as_factor))
  expr_passes (Call f es) h p =
      let k = and_parts (takes_arguments f es) (exprs_fit es) h in
      in_parentheses (intrinsic_text f) (exprs_text es) (intrinsic_passes f) (exprs_pass es k.1).0

  -- one behind the other with commas, and the same behind another
  exprs_pass : (es : ExprTrees) → exprs_fit es ≡ true → Lettered (exprs_text es) × Lettered (further_text es)
  exprs_pass no_exprs h = (nothing false, nothing false)
  exprs_pass (more_exprs e es) h =
      let k = and_parts (expr_fits e) (exprs_fit es) h in
      let first = expr_passes e k.0 alone in
      let rest = (exprs_pass es k.1).1 in
      (joined first rest, joined (joined (words (codes ",") refl) first) rest)

pub value_passes : (e : ExprTree) → expr_fits e ≡ true → Lettered (value_text e)
value_passes e h = expr_passes e h alone

-- a scalar or an element
pub target_written : (e : ExprTree) → target_fits e ≡ true → Written (value_text e)
target_written (Int n) h = absurd cc
target_written (Var x) h = record { begins = name_begins x h; letters = name_passes x h }
target_written (Element x es) h =
    let a = and_parts _ (exprs_fit es) h in
    let b = and_parts _ (has_expr es) a.0 in
    let c = and_parts (is_name x) (is_no_intrinsic (intrinsic_of x)) b.0 in
    let name : Written x = record { begins = name_begins x c.0; letters = name_passes x c.0 } in
    followed (followed (followed name (words (codes "(") refl)) (exprs_pass es a.1).0) (words (codes ")") refl)
target_written (Neg a) h = absurd cc
target_written (Add a b) h = absurd cc
target_written (Sub a b) h = absurd cc
target_written (Mul a b) h = absurd cc
target_written (Div a b) h = absurd cc
target_written (Pow a b) h = absurd cc
target_written (Call f es) h = absurd cc

-- conditions

relation_passes : (r : Relation) → Lettered (relation_text r)
relation_passes relations.Lt = words (codes ".LT.") refl
relation_passes relations.Le = words (codes ".LE.") refl
relation_passes relations.Eq = words (codes ".EQ.") refl
relation_passes relations.Ne = words (codes ".NE.") refl
relation_passes relations.Gt = words (codes ".GT.") refl
relation_passes relations.Ge = words (codes ".GE.") refl

-- wherever the condition stands
cond_anywhere : (c : CondTree) → cond_fits c ≡ true → (s : Standing) → Lettered (cond_text s c)
cond_anywhere (Rel r a b) h s =
    let k = and_parts (expr_fits a) (expr_fits b) h in
    between (value_text a) (relation_text r) (value_text b) (value_passes a k.0) (relation_passes r) (value_passes b k.1)
cond_anywhere (Not a) h s = enclosed_passes (encloses_not s) (codes ".NOT." ++ cond_text in_not a) (joined (words (codes ".NOT.") refl) (cond_anywhere a h in_not))
cond_anywhere (And a b) h s =
    let k = and_parts (cond_fits a) (cond_fits b) h in
    enclosed_passes (encloses_and s) _ (between (cond_text in_or a) (codes ".AND.") (cond_text in_and b) (cond_anywhere a k.0 in_or) (words (codes ".AND.") refl) (cond_anywhere b k.1 in_and))
cond_anywhere (Or a b) h s =
    let k = and_parts (cond_fits a) (cond_fits b) h in
    enclosed_passes (encloses_or s) _ (between (cond_text whole a) (codes ".OR.") (cond_text in_or b) (cond_anywhere a k.0 whole) (words (codes ".OR.") refl) (cond_anywhere b k.1 in_or))

pub cond_passes : (c : CondTree) → cond_fits c ≡ true → Lettered (cond_text whole c)
cond_passes c h = cond_anywhere c h whole
