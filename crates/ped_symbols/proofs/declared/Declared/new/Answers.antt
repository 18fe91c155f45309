use Rattle.std.proofs.Common.{ap, subst, ◌∙◌}
use Rattle.ped_base.specs.Lists.{is_among}
use Rattle.ped_symbols.specs.Passes.{KnowsUses}
use Rattle.ped_symbols.proofs.declared.Declared.new.Goals as goal

pub returns : goal.returns
returns c = record {
  implicit = c.in_ok-note_all.ensures.implicit ∙ c.in_ok-declared.ensures.0;
  program = λ x. ap (is_among x) c.in_ok-note_all.ensures.program ∙ c.in_ok-declared.ensures.1 x;
  uses = subst (KnowsUses c.note_all.new.self) c.requires (c.in_ok-note_all.ensures.uses c.in_ok-declared.ensures.2);
}
