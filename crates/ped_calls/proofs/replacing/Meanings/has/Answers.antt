use Rattle.std.proofs.Common.{is_some, ap, sym, ◌∙◌}
use Rattle.ped_links.proofs.Meant.{table_finds, there_meant}
use Rattle.ped_calls.proofs.replacing.Meanings.has.Goals as goal

pub returns : goal.returns
returns c = c.contains_key.ensures ∙ ap is_some (table_finds c.args.name.now c.args.self.now.exprs.entries) ∙ sym (there_meant c.args.self.now.exprs.entries c.args.name.now)
