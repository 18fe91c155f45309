-- A CALL is too long, or has a literal that is too large, where the assignment as which it stands in trees nearly is.
use Rattle.std.proofs.Common.{◌≡◌, ℕ, suc, ◌+◌, List, [], ◌++◌, Bool, true, false, leb, length, append_assoc, refl, sym, ap, ◌∙◌, length-append, arith}
use Rattle.std.specs.Fmt.{digits}
use Rattle.std.specs.Prelude.{◌||◌, nat_lt, codes, Some}
use Rattle.ped_tree.specs.Tree.{ExprTrees, Int, StmtTree, Assign, no_exprs, more_exprs}
use Rattle.ped_tree.specs.Printing.{printed_length, exprs_text}
use Rattle.ped_tree.specs.Grammar.Literals.{have_large_literal, stmt_has_large_literal}
use Rattle.ped_tree.specs.Grammar.LimitNumbers.{most_characters}
use Rattle.ped_print.specs.Lengths.{limited}
use Rattle.ped_units.specs.Forms.{Called}
use Rattle.ped_units.specs.Units.{reference_of, call_statement, arguments_text}
use Rattle.ped_units.specs.Refusals.{call_text, call_passes_limit}

large_reference : (x : List ℕ) (es : ExprTrees) → stmt_has_large_literal (Assign (Int 0) (reference_of x es)) ≡ have_large_literal es
large_reference x no_exprs = refl
large_reference x (more_exprs a rest) = refl

more_in_parentheses : (x t : List ℕ) → length (x ++ codes "(" ++ t ++ codes ")") ≡ length (x ++ (codes "(" ++ t ++ codes ")"))
more_in_parentheses x t = ap length (append_assoc (x ++ codes "(") t (codes ")") ∙ append_assoc x (codes "(") (t ++ codes ")"))

long_reference : (x : List ℕ) (es : ExprTrees) → printed_length (Assign (Int 0) (reference_of x es)) + 1 ≡ suc (suc (suc (suc (suc (length (x ++ arguments_text es))))))
unfolding digits
long_reference x no_exprs =
    let none = length-append x [] in
    let short : printed_length (Assign (Int 0) (reference_of x no_exprs)) ≡ suc (suc (suc (suc (length x)))) = refl in
    omega (arith, none, short)
long_reference x (more_exprs a rest) =
    let t = exprs_text (more_exprs a rest) in
    let both = more_in_parentheses x t in
    let short : printed_length (Assign (Int 0) (reference_of x (more_exprs a rest))) ≡ suc (suc (suc (suc (length (x ++ codes "(" ++ t ++ codes ")"))))) = refl in
    omega (arith, both, short)

-- its literals, by those of the assignment
pub large_call : (c : Called) (t : StmtTree) (b r : Bool) → b ≡ stmt_has_large_literal t → t ≡ call_statement c → b ≡ true → r ≡ b → r ≡ call_passes_limit (Some c)
large_call c t b r h is large same = same ∙ large ∙ sym (ap (λ (x : Bool). x || nat_lt most_characters (length (call_text c))) (sym (h ∙ ap stmt_has_large_literal is ∙ large_reference c.name c.arguments) ∙ large))

by_length : (n m k : ℕ) → n ≡ limited m → m + 1 ≡ k → leb most_characters n ≡ nat_lt most_characters k
by_length n m k h l = grind arith

-- its length, by that of the assignment
pub long_call : (c : Called) (t : StmtTree) (b r : Bool) (n : ℕ) → b ≡ stmt_has_large_literal t → t ≡ call_statement c → b ≡ false → n ≡ limited (printed_length t) → r ≡ leb most_characters n → r ≡ call_passes_limit (Some c)
long_call c t b r n h is small long same =
    same
    ∙ by_length n (printed_length (call_statement c)) (length (call_text c)) (long ∙ ap (λ (s : StmtTree). limited (printed_length s)) is) (long_reference c.name c.arguments)
    ∙ sym (ap (λ (x : Bool). x || nat_lt most_characters (length (call_text c))) (sym (h ∙ ap stmt_has_large_literal is ∙ large_reference c.name c.arguments) ∙ small))
