use Rattle.std.proofs.Common.{◌∙◌, ap}
use Rattle.ped_symbols.specs.Kinds.{Table}
use Rattle.ped_symbols.specs.Entries.{entry_of}
use Rattle.ped_symbols.proofs.Lookups.{looked_up}
use Rattle.ped_symbols.proofs.symbols.Symbols.kind.Goals as goal

pub returns : goal.returns
returns c =
    c.copied.ensures ∙ c.get.ensures.value ∙ looked_up c.args.name.now c.self.inside.kinds.entries
    ∙ ap (λ (t : Table). entry_of t.kinds c.args.name.now) c.self.view_is
