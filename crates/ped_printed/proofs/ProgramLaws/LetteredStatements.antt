-- The first printed lines of statements that fit can be cut into lines and read back.
use Rattle.std.proofs.Common.{◌≡◌, ℕ, Bool, true, false, [], ◌++◌, length, refl}
use Rattle.std.specs.Prelude.{codes, nat_lt}
use Rattle.std.proofs.lemmas.Bool.{cond_both, and_parts}
use Rattle.ped_lines.specs.ped_tree.specs.Tree.{ExprTree, ItemTree, Value, Text, Head, StmtTree, Assign, If, Do, Print, Read, Stop, Comment}
use Rattle.ped_lines.specs.ped_tree.specs.Printing.{value_text, is_one, item_text, step_text, do_word, do_text, own_text}
use Rattle.ped_lines.specs.ped_tree.specs.Grammar.Words.{is_name}
use Rattle.ped_lines.specs.ped_tree.specs.Grammar.Fits.{expr_fits, target_fits, item_fits}
use Rattle.ped_lines.specs.Printed.Fitting.{TextFits}
use Rattle.ped_printed.proofs.ProgramLaws.Fits.{head_fits, own_fits}
use Rattle.ped_printed.proofs.ProgramLaws.Lettered.{Lettered, joined, nothing, words, name_passes, constant_passes, further, Written, written, followed, fits}
use Rattle.ped_printed.proofs.ProgramLaws.LetteredExpressions.{value_passes, target_written, cond_passes}
use Rattle.ped_printed.proofs.ProgramLaws.LetteredDeclarations.{comma_blank}

item_passes : (i : ItemTree) → item_fits i ≡ true → Lettered (item_text i)
item_passes (Value e) h = value_passes e h
item_passes (Text text) h = constant_passes text h

word_written : (parallel : Bool) → Written (do_word parallel)
word_written true = written (codes "PARALLEL DO ") refl refl
word_written false = written (codes "DO ") refl refl

step_passes : (e : ExprTree) → expr_fits e ≡ true → Lettered (step_text e)
step_passes e h =
    cond_both (is_one e) [] (codes ", " ++ value_text e) Lettered
    (λ i. nothing false)
    (λ i. joined comma_blank (value_passes e h))

do_written : (h : Head) → head_fits h ≡ true → Written (do_text h)
do_written h fits =
    let a = and_parts _ (expr_fits h.step) fits in
    let b = and_parts _ (expr_fits h.last) a.0 in
    let c = and_parts (is_name h.variable) (expr_fits h.first) b.0 in
    let variable = followed (word_written h.parallel) (name_passes h.variable c.0) in
    let initial = followed (followed variable (words (codes " = ") refl)) (value_passes h.first c.1) in
    followed (followed (followed initial comma_blank) (value_passes h.last b.1)) (step_passes h.step a.1)

own_written : (s : StmtTree) → own_fits s ≡ true → Written (own_text s)
own_written (Assign l r) h =
    let k = and_parts (target_fits l) (expr_fits r) h in
    followed (followed (target_written l k.0) (words (codes " = ") refl)) (value_passes r k.1)
own_written (If c a b) h = followed (followed (written (codes "IF (") refl refl) (cond_passes c h)) (words (codes ") THEN") refl)
own_written (Do k body) h = do_written k h
own_written (Print items) h = followed (written (codes "PRINT *") refl refl) (further item_fits item_text (codes ", ") comma_blank item_passes items h)
own_written (Read items) h = followed (written (codes "READ *") refl refl) (further target_fits value_text (codes ", ") comma_blank (λ e k. (target_written e k).letters) items h)
own_written Stop h = written (codes "STOP") refl refl
own_written (Comment text) h = absurd cc

-- a statement that fits is cut so that it can be read back
pub own_text_fits : (depth : ℕ) (s : StmtTree) → own_fits s ≡ true → nat_lt 1300 (length (own_text s)) ≡ false → TextFits depth (own_text s)
own_text_fits depth s h short = fits depth (own_text s) (own_written s h) short

-- lines that are printed alike wherever they stand

pub else_fits : (depth : ℕ) → TextFits depth (codes "ELSE")
else_fits depth = fits depth (codes "ELSE") (written (codes "ELSE") refl refl) refl

pub end_if_fits : (depth : ℕ) → TextFits depth (codes "END IF")
end_if_fits depth = fits depth (codes "END IF") (written (codes "END IF") refl refl) refl

pub end_do_fits : (depth : ℕ) → TextFits depth (codes "END DO")
end_do_fits depth = fits depth (codes "END DO") (written (codes "END DO") refl refl) refl

pub end_fits : (depth : ℕ) → TextFits depth (codes "END")
end_fits depth = fits depth (codes "END") (written (codes "END") refl refl) refl
