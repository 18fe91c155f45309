-- Expressions one after the other, as a loop reads them.
use Rattle.std.proofs.Common.{◌≡◌, ℕ, suc, cond, true, false, length, map, List, [], ◌∷◌, ◌++◌, Option, Some, None, refl, sym, ap, ◌∙◌}
use Rattle.std.specs.Prelude.{codes}
use Rattle.ped_tree.specs.declared.expressions.Expr.{Expr}
use Rattle.ped_tree.specs.declared.expressions.Intrinsic.{Intrinsic}
use Rattle.ped_tree.specs.Tree.{ExprTree, ExprTrees, Call, no_exprs, more_exprs}
use Rattle.ped_tree.specs.Views.{expr_tree, pack_exprs}
use Rattle.ped_tree.specs.Grammar.Words.{is_name, intrinsic_of}
use Rattle.ped_expressions.specs.Scanning.{◌>>=◌, after}
use Rattle.ped_expressions.specs.ExpressionReading.{expr_of, exprs_of, named_of, expr_count, takes, applied}
use Rattle.ped_expressions.proofs.Equations.{named_step, exprs_step}
use Rattle.ped_expressions.proofs.Basics.{some_is, guarded}

abbrev pub glue : List ExprTree → ExprTrees → ExprTrees
glue [] us = us
glue (e ∷ es) us = more_exprs e (glue es us)

-- what was read before, and what is still read
abbrev pub ahead : List ExprTree → Option (ExprTrees × List ℕ) → Option (ExprTrees × List ℕ)
ahead es read = read >>= λ x. Some (glue es x.0, x.1)

glue_one : (es : List ExprTree) (e : ExprTree) (us : ExprTrees) → glue (es ++ e ∷ []) us ≡ glue es (more_exprs e us)
glue_one [] e us = refl
glue_one (d ∷ es) e us = ap (more_exprs d) (glue_one es e us)

pack_one : (es : List ExprTree) (e : ExprTree) → pack_exprs (es ++ e ∷ []) ≡ glue es (more_exprs e no_exprs)
pack_one [] e = refl
pack_one (d ∷ es) e = ap (more_exprs d) (pack_one es e)

ahead_one : (es : List ExprTree) (e : ExprTree) (read : Option (ExprTrees × List ℕ)) → ahead es (read >>= λ y. Some (more_exprs e y.0, y.1)) ≡ ahead (es ++ e ∷ []) read
ahead_one es e None = refl
ahead_one es e (Some y) = ap (λ (us : ExprTrees). Some (us, y.1)) (sym (glue_one es e y.0))

pub exprs_more : (v : ℕ → ℕ) (es new : List ExprTree) (e : ExprTree) (left r q : List ℕ) (all : Option (ExprTrees × List ℕ)) → ahead es (exprs_of v left) ≡ all → expr_of v left ≡ Some (e, r) → after (codes ",") r ≡ Some q → new ≡ es ++ e ∷ [] → ahead new (exprs_of v q) ≡ all
exprs_more v es new e left r q all h x a n =
    let one : exprs_of v left ≡ (exprs_of v q >>= λ y. Some (more_exprs e y.0, y.1)) = exprs_step v left ∙ rw (x, a) refl in
    ap (λ (l : List ExprTree). ahead l (exprs_of v q)) n ∙ sym (ahead_one es e (exprs_of v q)) ∙ ap (ahead es) (sym one) ∙ h

pub exprs_last : (v : ℕ → ℕ) (es new : List ExprTree) (e : ExprTree) (left r : List ℕ) (all : Option (ExprTrees × List ℕ)) → ahead es (exprs_of v left) ≡ all → expr_of v left ≡ Some (e, r) → after (codes ",") r ≡ None → new ≡ es ++ e ∷ [] → all ≡ Some (pack_exprs new, r)
exprs_last v es new e left r all h x a n =
    let one : exprs_of v left ≡ Some (more_exprs e no_exprs, r) = exprs_step v left ∙ rw (x, a) refl in
    sym h ∙ ap (ahead es) one ∙ ap (λ (us : ExprTrees). Some (us, r)) (sym (pack_one es e) ∙ ap pack_exprs (sym n))

-- so many expressions as the code counts
counted : (es : List Expr) → expr_count (pack_exprs (map expr_tree es)) ≡ length es
counted [] = refl
counted (e ∷ es) = ap suc (counted es)

pub applied_call : (x : List ℕ) (es : List Expr) (f : Intrinsic) (n : ℕ) → intrinsic_of x ≡ Some f → n ≡ length es → takes f n ≡ true → applied x (pack_exprs (map expr_tree es)) ≡ Some (Call f (pack_exprs (map expr_tree es)))
applied_call x es f n is count h = let k : takes f (expr_count (pack_exprs (map expr_tree es))) ≡ true = ap (takes f) (counted es ∙ sym count) ∙ h in rw (is, k) refl

pub applied_none : (x : List ℕ) (es : List Expr) (f : Intrinsic) (n : ℕ) → intrinsic_of x ≡ Some f → n ≡ length es → takes f n ≡ false → applied x (pack_exprs (map expr_tree es)) ≡ None
applied_none x es f n is count h = let k : takes f (expr_count (pack_exprs (map expr_tree es))) ≡ false = ap (takes f) (counted es ∙ sym count) ∙ h in rw (is, k) refl

-- a name before expressions in parentheses
pub named_applied : (v : ℕ → ℕ) (word name text q r t : List ℕ) (es : ExprTrees) (e : ExprTree) → Some name ≡ cond (is_name word) (Some word) None → Some q ≡ after (codes "(") text → exprs_of v q ≡ Some (es, r) → Some t ≡ after (codes ")") r → Some e ≡ applied name es → named_of v word text ≡ Some (e, t)
named_applied v word name text q r t es e h a x b u =
    let k = guarded (is_name word) (Some word) name (sym h) in
    let f : applied word es ≡ Some e = ap (λ (y : List ℕ). applied y es) (some_is word name k.1) ∙ sym u in
    named_step v word text ∙ rw (k.0, sym a, x, sym b, f) refl
