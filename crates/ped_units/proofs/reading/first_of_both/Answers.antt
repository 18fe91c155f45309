use Rattle.std.proofs.Common.{Option, sym, ap, ◌∙◌}
use Rattle.ped_tree.specs.Grammar.Refusal.{refused_if}
use Rattle.ped_tree.specs.Grammar.RefusalViews.{found_of}
use Rattle.ped_tree.specs.declared.grammar.refusals.Refusal.{Refusal}
use Rattle.ped_units.specs.Seeing.{combined}
use Rattle.ped_units.proofs.reading.first_of_both.Goals as goal

pub returns-in-Some : goal.returns-in-Some
unfolding refused_if
returns-in-Some c = c.standing.ensures ∙ ap (λ (o : Option Refusal). combined (found_of c.args.found) (found_of o)) (sym c.in-Some.is)
