use Rattle.std.proofs.Common.{sym, ap, ◌∙◌}
use Rattle.std.proofs.lemmas.Result.{on_ok_weaker}
use Rattle.ped_symbols.specs.Entries.{entry_of}
use Rattle.ped_symbols.specs.Declarations.{names_with, is_typing, is_naming, ranks_in}
use Rattle.ped_symbols.proofs.Repeats.{same_role, ranks_more}
use Rattle.ped_symbols.proofs.declared.Declared.note.Goals as goal

pub returns-clause-uses : goal.returns-clause-uses
returns-clause-uses c =
    let u = c.args.u.now in
    on_ok_weaker c.keep_rank.result
    (λ e before h. record {
      typed = λ x. c.in_ok-insert_where.ensures (names_with is_typing before) h.typed x ∙ same_role is_typing before u c.is_typing.result c.is_typing.ensures x;
      constants = λ x. c.in_ok-insert_where-2.ensures (names_with is_naming before) h.constants x ∙ same_role is_naming before u c.is_naming.result c.is_naming.ensures x;
      ranks = λ x. e (ranks_in before) h.ranks x ∙ ap (λ es. entry_of es x) (sym (ranks_more before u));
    })
    c.keep_rank.ensures
