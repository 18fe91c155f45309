use Rattle.std.proofs.Common.{◌∙◌}
use Rattle.ped_symbols.proofs.Lookups.{looked_up}
use Rattle.ped_symbols.proofs.tables.NameTable.get.Goals as goal

pub returns : goal.returns
returns g c = c.copied.ensures ∙ c.get.ensures.value ∙ looked_up c.args.name.now c.args.self.now.entries.entries
