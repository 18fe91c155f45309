use Rattle.std.proofs.Common.{is_some, ap, ◌∙◌}
use Rattle.ped_symbols.proofs.Lookups.{looked_up}
use Rattle.ped_symbols.proofs.tables.NameTable.has.Goals as goal

pub returns : goal.returns
returns g c = c.contains_key.ensures ∙ ap is_some (looked_up c.args.name.now c.args.self.now.entries.entries)
