use Rattle.std.proofs.Common.{refl, subst}
use Rattle.ped_tree.specs.Grammar.RefusalViews.{finding_of}
use Rattle.ped_valid.specs.ped_parse.specs.ped_lines.specs.Errors.{IsErrorOf}
use Rattle.ped_valid.specs.ped_parse.specs.ped_lines.specs.declared.errors.LinesError.{LinesError}
use Rattle.ped_units.specs.Verdicts.{in_lines}
use Rattle.ped_units.proofs.reading.of_lines.Goals as goal

pub returns-in-Refused : goal.returns-in-Refused
returns-in-Refused c text h = c.at.ensures.refuses text (in_lines (finding_of c.in-Refused.refusal) refl (subst (λ (e : LinesError). IsErrorOf text e) c.in-Refused.is h))
