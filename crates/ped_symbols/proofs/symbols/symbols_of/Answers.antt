use Rattle.std.proofs.Common.{ap, sym, ◌∙◌}
use Rattle.ped_tree.specs.Grammar.RefusalViews.{found_of}
use Rattle.ped_tree.proofs.GrammarLaws.First.{none_stands}
use Rattle.ped_symbols.proofs.symbols.symbols_of.Goals as goal

pub returns-in-None-clause-right : goal.returns-in-None-clause-right
returns-in-None-clause-right c = none_stands _ (sym c.in_ok-passed.ensures.first ∙ ap found_of c.in-None.is)
