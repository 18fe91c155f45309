-- Printed declarations have forms with the same tree.
use Rattle.std.proofs.Common.{◌≡◌, ℕ, true, false, List, ◌∷◌, ◌++◌, map, refl, sym, ap, subst, append_assoc}
use Rattle.std.specs.Prelude.{codes, ◌||◌}
use Rattle.std.specs.List.{list_all, join_by}
use Rattle.std.proofs.lemmas.Bool.{or_parts, and_parts, eqb-true, cond_both}
use Rattle.std.proofs.lemmas.List.{append-nil}
use Rattle.ped_lines.specs.ped_tree.specs.Tree.{ExprTree, Int, Var, Element, Neg, Add, Sub, Mul, Div, Pow, Call, BoundTree, DeclaratorTree, Program, Implicit, Integer, Dimension, Parameter, Save}
use Rattle.ped_lines.specs.ped_base.specs.Lists.{has_some}
use Rattle.ped_lines.specs.ped_tree.specs.Grammar.Words.{is_name}
use Rattle.ped_lines.specs.ped_tree.specs.Grammar.Literals.{has_large_literal, declarator_has_large_literal, decl_has_large_literal}
use Rattle.ped_lines.specs.ped_tree.specs.Printing.{value_text, is_one, bound_text, declarator_text, parameter_text, decl_text}
use Rattle.ped_lines.specs.ped_tree.specs.Grammar.ExpressionForms.{expr_form_tree}
use Rattle.ped_lines.specs.ped_tree.specs.Grammar.Items.{Item, declares}
use Rattle.ped_lines.specs.ped_tree.specs.Grammar.StatementForms.{BoundForm, upper_bound, both_bounds, an_array, a_scalar, of_array, a_constant, bound_form_text, array_form_text, declarator_form_text, constant_form_text, bound_form_tree, array_form_tree, declarator_form_tree, constant_form_tree, are_names, StatementForm, program, implicit, integer, dimension, parameter, save, save_all, simple, if_simple, if_then, else_if_then, else_alone, end_of_if, do_loop, end_of_do, private, end, SimpleForm, assignment, print, read, stop, continue, statement_item}
use Rattle.ped_printed.specs.Statements.Printed.{ReadsOnly, DeclarationPrints, SavePrints}
use Rattle.ped_printed.proofs.StatementLaws.Squeezing.{Reduces, joined, words, comma_blank, name_stays}
use Rattle.ped_printed.proofs.StatementLaws.Expressions.{expr_again}
use Rattle.ped_printed.proofs.StatementLaws.Listing.{EachAgain, listed_again, names_again}
use Rattle.ped_printed.proofs.StatementLaws.Only.{reads_only}

-- the literal 1 is the only tree that counts as one
pub one_is : (e : ExprTree) → is_one e ≡ true → e ≡ Int 1
one_is (Int n) h = ap Int (eqb-true n 1 h)
one_is (Var x) h = absurd cc
one_is (Element x es) h = absurd cc
one_is (Neg a) h = absurd cc
one_is (Add a b) h = absurd cc
one_is (Sub a b) h = absurd cc
one_is (Mul a b) h = absurd cc
one_is (Div a b) h = absurd cc
one_is (Pow a b) h = absurd cc
one_is (Call f es) h = absurd cc

-- dimensions

bound_again : EachAgain bound_form_text bound_form_tree bound_text (λ b. has_large_literal b.lower || has_large_literal b.upper)
bound_again (upper_bound e) h =
    let p = expr_again e h in
    (upper_bound p.0, p.1, ap (λ (t : ExprTree). record { lower = Int 1; upper = t }) p.2)
bound_again (both_bounds l u) h =
    let k = or_parts (has_large_literal (expr_form_tree l)) (has_large_literal (expr_form_tree u)) h in
    let p = expr_again l k.0 in
    let q = expr_again u k.1 in
    let again : List ℕ → Type 0 = λ c. (g : BoundForm) × Reduces c (bound_form_text g) × (bound_form_tree g ≡ bound_form_tree (both_bounds l u)) in
    cond_both (is_one (expr_form_tree l)) (value_text (expr_form_tree u)) (value_text (expr_form_tree l) ++ codes ":" ++ value_text (expr_form_tree u)) again
    (λ e. (upper_bound q.0, q.1, λ i. record { lower = sym (one_is (expr_form_tree l) e) i; upper = q.2 i }))
    (λ e. (both_bounds p.0 q.0, joined (joined p.1 (words (codes ":") refl)) q.1, λ i. record { lower = p.2 i; upper = q.2 i }))

in_parentheses : (x dimensions : List ℕ) → x ++ codes "(" ++ dimensions ++ codes ")" ≡ x ++ (codes "(" ++ dimensions ++ codes ")")
in_parentheses x dimensions = simp append_assoc

array_again : EachAgain array_form_text array_form_tree declarator_text declarator_has_large_literal
array_again (an_array x is b bs) h =
    let p = listed_again bound_form_text bound_form_tree bound_text (λ b. has_large_literal b.lower || has_large_literal b.upper) (codes ",") (codes ",") (words (codes ",") refl) bound_again b bs h in
    let t = join_by bound_text (codes ",") (map bound_form_tree (b ∷ bs)) in
    (an_array x is p.0 p.1, subst (λ (c : List ℕ). Reduces c (array_form_text (an_array x is p.0 p.1))) (in_parentheses x t) (joined (joined (joined (name_stays x is) (words (codes "(") refl)) p.2) (words (codes ")") refl)), ap (λ (ts : List BoundTree). record { name = x; bounds = ts }) p.3)

declarator_again : EachAgain declarator_form_text declarator_form_tree declarator_text declarator_has_large_literal
declarator_again (a_scalar x is) h = (a_scalar x is, subst (λ (t : List ℕ). Reduces t x) (sym (append-nil x)) (name_stays x is), refl)
declarator_again (of_array a) h = let p = array_again a h in (of_array p.0, p.1, p.2)

constant_again : EachAgain constant_form_text constant_form_tree parameter_text (λ v. has_large_literal v.1)
constant_again (a_constant x is e) h =
    let p = expr_again e h in
    (a_constant x is p.0, joined (joined (name_stays x is) (words (codes "=") refl)) p.1, ap (λ (t : ExprTree). (x, t)) p.2)

-- the item is printed again, where it is a declaration
abbrev DeclaresAgain : Item → Type 0
DeclaresAgain (declares d) = decl_has_large_literal d ≡ false → ReadsOnly (decl_text d) (declares d)
DeclaresAgain i = Unit {0}

save_again : (names : List (List ℕ)) → are_names names ≡ true → ReadsOnly (decl_text (Save names)) (declares (Save names))
save_again names are =
    let k = and_parts (has_some names) (list_all is_name names) are in
    reads_only (decl_text (Save names)) (declares (Save names)) (save names are) (joined (words (codes "SAVE ") refl) (names_again names k.1)) refl

simple_declares_nothing : (s : SimpleForm) → DeclaresAgain (statement_item (simple s))
simple_declares_nothing (assignment r e) = tt
simple_declares_nothing (print items) = tt
simple_declares_nothing (read items) = tt
simple_declares_nothing stop = tt
simple_declares_nothing continue = tt

declares_again : (f : StatementForm) → DeclaresAgain (statement_item f)
declares_again (program x is) = λ small. reads_only (decl_text (Program x)) (declares (Program x)) (program x is) (joined (words (codes "PROGRAM ") refl) (name_stays x is)) refl
declares_again implicit = λ small. reads_only (decl_text Implicit) (declares Implicit) implicit (words (codes "IMPLICIT INTEGER (A-Z)") refl) refl
declares_again (integer d rest) = λ small.
    let ds = map declarator_form_tree (d ∷ rest) in
    let p = listed_again declarator_form_text declarator_form_tree declarator_text declarator_has_large_literal (codes ", ") (codes ",") comma_blank declarator_again d rest small in
    reads_only (decl_text (Integer ds)) (declares (Integer ds)) (integer p.0 p.1) (joined (words (codes "INTEGER ") refl) p.2) (ap (λ (ts : List DeclaratorTree). declares (Integer ts)) p.3)
declares_again (dimension a rest) = λ small.
    let ds = map array_form_tree (a ∷ rest) in
    let p = listed_again array_form_text array_form_tree declarator_text declarator_has_large_literal (codes ", ") (codes ",") comma_blank array_again a rest small in
    reads_only (decl_text (Dimension ds)) (declares (Dimension ds)) (dimension p.0 p.1) (joined (words (codes "DIMENSION ") refl) p.2) (ap (λ (ts : List DeclaratorTree). declares (Dimension ts)) p.3)
declares_again (parameter c rest) = λ small.
    let vs = map constant_form_tree (c ∷ rest) in
    let p = listed_again constant_form_text constant_form_tree parameter_text (λ v. has_large_literal v.1) (codes ", ") (codes ",") comma_blank constant_again c rest small in
    reads_only (decl_text (Parameter vs)) (declares (Parameter vs)) (parameter p.0 p.1) (joined (joined (words (codes "PARAMETER (") refl) p.2) (words (codes ")") refl)) (ap (λ (ts : List (List ℕ × ExprTree)). declares (Parameter ts)) p.3)
declares_again (save names are) = λ small. save_again names are
declares_again save_all = tt
declares_again (simple s) = simple_declares_nothing s
declares_again (if_simple c s) = tt
declares_again (if_then c) = tt
declares_again (else_if_then c) = tt
declares_again else_alone = tt
declares_again end_of_if = tt
declares_again (do_loop parallel l c) = tt
declares_again end_of_do = tt
declares_again (private names are) = tt
declares_again end = tt

pub declaration_prints : DeclarationPrints
declaration_prints text d r small = subst DeclaresAgain r.2 (declares_again r.0) small

pub save_prints : SavePrints
save_prints names are = save_again names are
