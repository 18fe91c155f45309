use Rattle.std.proofs.Common.{◌≡◌, ℕ, List, Result, Ok, Err, IfOk, sym, subst}
use Rattle.ped_tree.specs.Grammar.Items.{Reading, outside_profile, no_form}
use Rattle.ped_tree.specs.Grammar.ItemViews.{reading_of}
use Rattle.ped_tree.specs.declared.grammar.items.StatementReading.{StatementReading}
use Rattle.ped_tree.specs.declared.grammar.items.StatementReading.TheVariants.{Says, OutsideProfile, NoForm}
use Rattle.ped_expressions.specs.ExpressionReading.{saturated}
use Rattle.ped_valid.specs.ped_parse.specs.ped_statements.specs.Saturated.{IsReadAs}
use Rattle.ped_units.specs.UnitReading.{or_unit_item, IsItemReadAs}
use Rattle.ped_units.specs.Views.{unit_item_of}
use Rattle.ped_units.specs.declared.items.UnitItem.{UnitItem}
use Rattle.ped_units.proofs.UnitForms.{item_is_read}
use Rattle.ped_units.proofs.forms.read_unit_item.Goals as goal

-- what the text is in the profile
read_as : (text : List ℕ) (x y : StatementReading) → x ≡ y → IsReadAs saturated text (reading_of x) → IsReadAs saturated text (reading_of y)
read_as text x y e h = subst (λ (r : StatementReading). IsReadAs saturated text (reading_of r)) e h

-- what it is where the profile has nothing
read_or : {E : Type 0} (text : List ℕ) (r : Reading) (result : Result UnitItem E) → IsReadAs saturated text r → IfOk result (λ i. unit_item_of i ≡ or_unit_item saturated text r) → IfOk result (λ i. IsItemReadAs saturated text (unit_item_of i))
read_or text r (Ok i) h e = subst (IsItemReadAs saturated text) (sym e) (item_is_read saturated text r h)
read_or text r (Err e) h is = tt

pub returns-in-Says : goal.returns-in-Says
returns-in-Says c = item_is_read saturated c.args.text.now (reading_of (Says c.in-Says.item)) (read_as c.args.text.now c.in_ok-item.field-0 (Says c.in-Says.item) c.in-Says.is c.in_ok-item.ensures)

pub returns-in-OutsideProfile : goal.returns-in-OutsideProfile
returns-in-OutsideProfile c = read_or c.args.text.now outside_profile c.unit_item_or.result (read_as c.args.text.now c.in_ok-item.field-0 OutsideProfile c.in-OutsideProfile.is c.in_ok-item.ensures) c.unit_item_or.ensures

pub returns-in-NoForm : goal.returns-in-NoForm
returns-in-NoForm c = read_or c.args.text.now no_form c.unit_item_or-in-NoForm.result (read_as c.args.text.now c.in_ok-item.field-0 NoForm c.in-NoForm.is c.in_ok-item.ensures) c.unit_item_or-in-NoForm.ensures
