-- A text reads as one item alone where it has a form.
use Rattle.std.proofs.Common.{◌≡◌, ℕ, List, sym, subst}
use Rattle.ped_lines.specs.ped_tree.specs.Grammar.Characters.{text_of}
use Rattle.ped_lines.specs.ped_tree.specs.Grammar.Items.{Item}
use Rattle.ped_lines.specs.ped_tree.specs.Grammar.StatementForms.{StatementForm, statement_form_text, statement_item, ReadsItem}
use Rattle.ped_statements.proofs.OneStatement.{one_item}
use Rattle.ped_printed.specs.Statements.Printed.{ReadsOnly}
use Rattle.ped_printed.proofs.StatementLaws.Squeezing.{Reduces, reduced, among_blanks}

pub reads_only : (characters : List ℕ) (i : Item) (f : StatementForm) → Reduces characters (statement_form_text f) → statement_item f ≡ i → ReadsOnly characters i
reads_only characters i f r same =
    let back : ReadsItem (text_of characters) i = (f, sym (reduced characters (statement_form_text f) r), same) in
    record {
      only = λ j. (λ h. one_item (text_of characters) j i h back, λ e. subst (ReadsItem (text_of characters)) (sym e) back);
      among_blanks = λ before behind. among_blanks before behind characters (statement_form_text f) r;
    }
