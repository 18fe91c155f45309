use Rattle.std.proofs.Common.{◌∙◌}
use Rattle.ped_links.proofs.Meant.{table_finds}
use Rattle.ped_links.proofs.numbering.place_of.Goals as goal

pub returns : goal.returns
returns c names known = c.copied.ensures ∙ c.get.ensures.value ∙ table_finds c.args.name.now c.args.places.now.entries ∙ known c.args.name.now
