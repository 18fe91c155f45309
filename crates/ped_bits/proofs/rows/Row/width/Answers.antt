use Rattle.std.proofs.Common.{length, sym, ap, ◌∙◌}
use Rattle.ped_bits.specs.Words.{is_set}
use Rattle.ped_bits.proofs.Values.{length-values}
use Rattle.ped_bits.proofs.rows.Row.width.Goals as goal

pub returns : goal.returns
returns c = sym (length-values (is_set c.self.inside.words.items) c.self.inside.width) ∙ ap length c.self.view_is
