-- Printed declarations and PRIVATE statements that fit can be cut into lines and read back.
use Rattle.std.proofs.Common.{◌≡◌, ℕ, true, false, List, [], ◌∷◌, ◌++◌, length, refl}
use Rattle.std.specs.Prelude.{codes, nat_lt, nat_le}
use Rattle.std.specs.List.{list_all}
use Rattle.std.proofs.lemmas.Bool.{cond_both, and_parts}
use Rattle.ped_lines.specs.ped_base.specs.Lists.{has_some}
use Rattle.ped_lines.specs.ped_tree.specs.Tree.{ExprTree, BoundTree, DeclaratorTree, DeclTree, Program, Implicit, Integer, Dimension, Parameter, Save, Remark}
use Rattle.ped_lines.specs.ped_tree.specs.Printing.{value_text, is_one, names_text, private_text, bound_text, dimensions_text, declarator_text, parameter_text, decl_text, is_remark}
use Rattle.ped_lines.specs.ped_tree.specs.Grammar.Words.{is_name}
use Rattle.ped_lines.specs.ped_tree.specs.Grammar.StatementForms.{are_names}
use Rattle.ped_lines.specs.ped_tree.specs.Grammar.Fits.{expr_fits, bound_fits, declarator_fits, array_fits, constant_fits, decl_fits}
use Rattle.ped_lines.specs.Printed.Fitting.{TextFits}
use Rattle.ped_printed.proofs.ProgramLaws.Lettered.{Lettered, joined, nothing, words, name_passes, listed, Written, written, followed, fits}
use Rattle.ped_printed.proofs.ProgramLaws.LetteredExpressions.{value_passes}

comma : Lettered (codes ",")
comma = words (codes ",") refl

pub comma_blank : Lettered (codes ", ")
comma_blank = words (codes ", ") refl

names_pass : (names : List (List ℕ)) → are_names names ≡ true → Lettered (names_text names)
names_pass names h = listed is_name (λ x. x) (codes ", ") comma_blank name_passes names (and_parts (has_some names) (list_all is_name names) h).1

-- dimensions

bound_passes : (b : BoundTree) → bound_fits b ≡ true → Lettered (bound_text b)
bound_passes b h =
    let k = and_parts (expr_fits b.lower) (expr_fits b.upper) h in
    cond_both (is_one b.lower) (value_text b.upper) (value_text b.lower ++ codes ":" ++ value_text b.upper) Lettered
    (λ e. value_passes b.upper k.1)
    (λ e. joined (joined (value_passes b.lower k.0) (words (codes ":") refl)) (value_passes b.upper k.1))

dimensions_pass : (bs : List BoundTree) → list_all bound_fits bs ≡ true → Lettered (dimensions_text bs)
dimensions_pass [] h = nothing false
dimensions_pass (b ∷ bs) h = joined (joined (words (codes "(") refl) (listed bound_fits bound_text (codes ",") comma bound_passes (b ∷ bs) h)) (words (codes ")") refl)

declarator_passes : (d : DeclaratorTree) → declarator_fits d ≡ true → Lettered (declarator_text d)
declarator_passes d h =
    let a = and_parts _ (list_all bound_fits d.bounds) h in
    let b = and_parts (is_name d.name) (nat_le (length d.bounds) 7) a.0 in
    joined (name_passes d.name b.0) (dimensions_pass d.bounds a.1)

array_passes : (d : DeclaratorTree) → array_fits d ≡ true → Lettered (declarator_text d)
array_passes d h = declarator_passes d (and_parts (declarator_fits d) (has_some d.bounds) h).0

constant_passes : (v : List ℕ × ExprTree) → constant_fits v ≡ true → Lettered (parameter_text v)
constant_passes v h =
    let k = and_parts (is_name v.0) (expr_fits v.1) h in
    joined (joined (name_passes v.0 k.0) (words (codes "=") refl)) (value_passes v.1 k.1)

declaration_written : (d : DeclTree) → is_remark d ≡ false → decl_fits d ≡ true → Written (decl_text d)
declaration_written (Program x) other h = followed (written (codes "PROGRAM ") refl refl) (name_passes x h)
declaration_written Implicit other h = written (codes "IMPLICIT INTEGER (A-Z)") refl refl
declaration_written (Integer ds) other h =
    let k = and_parts (has_some ds) (list_all declarator_fits ds) h in
    followed (written (codes "INTEGER ") refl refl) (listed declarator_fits declarator_text (codes ", ") comma_blank declarator_passes ds k.1)
declaration_written (Dimension ds) other h =
    let k = and_parts (has_some ds) (list_all array_fits ds) h in
    followed (written (codes "DIMENSION ") refl refl) (listed array_fits declarator_text (codes ", ") comma_blank array_passes ds k.1)
declaration_written (Parameter values) other h =
    let k = and_parts (has_some values) (list_all constant_fits values) h in
    followed (followed (written (codes "PARAMETER (") refl refl) (listed constant_fits parameter_text (codes ", ") comma_blank constant_passes values k.1)) (words (codes ")") refl)
declaration_written (Save names) other h = followed (written (codes "SAVE ") refl refl) (names_pass names h)
declaration_written (Remark text) other h = absurd cc

-- a declaration that fits is cut so that it can be read back
pub decl_text_fits : (d : DeclTree) → is_remark d ≡ false → decl_fits d ≡ true → nat_lt 1300 (length (decl_text d)) ≡ false → TextFits 0 (decl_text d)
decl_text_fits d other h short = fits 0 (decl_text d) (declaration_written d other h) short

-- and so is a PRIVATE statement
pub private_text_fits : (depth : ℕ) (names : List (List ℕ)) → are_names names ≡ true → nat_lt 1300 (length (private_text names)) ≡ false → TextFits depth (private_text names)
private_text_fits depth names h short = fits depth (private_text names) (followed (written (codes "PRIVATE ") refl refl) (names_pass names h)) short
