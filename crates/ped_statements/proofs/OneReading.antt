-- What is read of a text is what it is.
use Rattle.std.proofs.Common.{◌≡◌, ℕ, Bool, true, false, cond, List, Option, Some, None, refl, sym, ap, ◌∙◌}
use Rattle.ped_tree.specs.Grammar.Items.{Item, says, outside_profile, no_form}
use Rattle.ped_tree.specs.Grammar.StatementForms.{statement_item}
use Rattle.ped_tree.specs.Grammar.Reading.{HasNoForm}
use Rattle.ped_expressions.specs.Scanning.{go_on}
use Rattle.ped_statements.specs.Saturated.{says_with_literals, IsReadAs}
use Rattle.ped_statements.specs.StatementReading.{statement_of}
use Rattle.ped_statements.specs.ProfileReading.{is_outside, reading_in}
use Rattle.ped_statements.proofs.EachStatement.{statement_found}
use Rattle.ped_statements.proofs.OneStatement.{item_again}
use Rattle.ped_statements.proofs.Outside.{outside_found, outside_again}

no_some : {A : Type 0} (x : A) → ◌≡◌ {A = Option A} None (Some x) → ⊥
no_some x e = absurd cc

no_item : (v : ℕ → ℕ) (text : List ℕ) → statement_of v text ≡ None → HasNoForm text
no_item v text h = λ i r. no_some (says_with_literals v i) (sym h ∙ item_again v text i r)

false_true : false ≡ true → ⊥
false_true e = absurd cc

without_form : (v : ℕ → ℕ) (text : List ℕ) (outside : Bool) → statement_of v text ≡ None → is_outside text ≡ outside → IsReadAs v text (cond outside outside_profile no_form)
without_form v text true h o = (outside_profile, (no_item v text h, outside_found text o), refl)
without_form v text false h o = (no_form, (no_item v text h, λ i. false_true (sym o ∙ outside_again text i)), refl)

by_statement : (v : ℕ → ℕ) (text : List ℕ) (o : Option Item) → statement_of v text ≡ o → IsReadAs v text (go_on o (cond (is_outside text) outside_profile no_form) (λ i. says i))
by_statement v text None h = without_form v text (is_outside text) h refl
by_statement v text (Some i) h = let f = statement_found v text i h in (says (statement_item f.0), (f.0, f.1, refl), ap says (sym f.2))

pub reading_is : (v : ℕ → ℕ) (text : List ℕ) → IsReadAs v text (reading_in v text)
unfolding reading_in
reading_is v text = by_statement v text (statement_of v text) refl
