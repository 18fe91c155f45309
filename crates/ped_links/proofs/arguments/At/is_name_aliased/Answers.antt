use Rattle.std.proofs.Common.{◌≡◌, false, sym, ap, ◌∙◌}
use Rattle.std.proofs.lemmas.Bool.{false≢true}
use Rattle.ped_units.specs.Linking.{is_constant, kind_there}
use Rattle.ped_links.specs.Scenes.{unit_at}
use Rattle.ped_links.proofs.ArgumentSteps.{kind_by_table}
use Rattle.ped_links.proofs.arguments.At.is_name_aliased.Goals as goal

pub returns-then-is_constant : goal.returns-then-is_constant
returns-then-is_constant c us i at =
    let kind = kind_by_table (unit_at us i) c.args.self.now.caller_table.now c.args.name.now at.caller in
    let test = sym c.if-is_constant.true ∙ c.is_constant.ensures ∙ ap is_constant kind in
    (λ t. absurd (false≢true t), λ h. absurd (false≢true (sym (test ∙ h.0))))

pub returns : goal.returns
returns c us i at =
    let kind = kind_by_table (unit_at us i) c.args.self.now.caller_table.now c.args.name.now at.caller in
    let variable : is_constant (kind_there (unit_at us i) c.args.name.now) ≡ false = sym (ap is_constant kind) ∙ sym c.is_constant.ensures ∙ c.if-is_constant.false in
    let behind = c.is_aliased_behind.ensures us i at in
    (λ t. (variable, behind.0 t), λ h. behind.1 h.1)
