use Rattle.ped_inline.proofs.InlineLawful.{lawful_inline}
use Rattle.ped_inline.proofs.laws.inline_is_lawful.Goals as goal

pub returns : goal.returns
returns c = lawful_inline
