use Rattle.std.proofs.Common.{◌∙◌}
use Rattle.std.proofs.lemmas.Result.{on_ok_weaker}
use Rattle.ped_symbols.specs.Declarations.{names_with, is_typing, is_dimensioning, is_naming, is_saving}
use Rattle.ped_symbols.proofs.Repeats.{same_role}
use Rattle.ped_symbols.proofs.repeating.Seen.see.Goals as goal

pub returns : goal.returns
returns c =
    let u = c.args.u.now in
    on_ok_weaker c.insert_where-4.result
    (λ e before h. record {
      typed = λ x. c.in_ok-insert_where.ensures (names_with is_typing before) h.typed x ∙ same_role is_typing before u c.is_typing.result c.is_typing.ensures x;
      dimensioned = λ x. c.in_ok-insert_where-2.ensures (names_with is_dimensioning before) h.dimensioned x ∙ same_role is_dimensioning before u c.is_dimensioning.result c.is_dimensioning.ensures x;
      named = λ x. c.in_ok-insert_where-3.ensures (names_with is_naming before) h.named x ∙ same_role is_naming before u c.is_naming.result c.is_naming.ensures x;
      saved = λ x. e (names_with is_saving before) h.saved x ∙ same_role is_saving before u c.is_saving.result c.is_saving.ensures x;
    })
    c.insert_where-4.ensures
