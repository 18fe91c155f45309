use Rattle.std.proofs.Common.{ap, ◌∙◌}
use Rattle.ped_symbols.specs.Entries.{entry_of}
use Rattle.ped_symbols.specs.Kinds.{Table}
use Rattle.ped_symbols.specs.RightUses.RightUses.{is_scalar_kind}
use Rattle.ped_symbols.proofs.RightUseLaws.Found.{found_in_program}
use Rattle.ped_symbols.proofs.symbols.Symbols.is_scalar.Goals as goal

pub returns : goal.returns
returns c = λ t h.
    c.is_scalar_kind.ensures
    ∙ ap is_scalar_kind (c.kind.ensures ∙ ap (λ (table : Table). entry_of table.kinds c.args.name.now) h ∙ found_in_program t c.args.name.now)
