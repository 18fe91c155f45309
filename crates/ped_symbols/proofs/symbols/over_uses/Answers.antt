use Rattle.std.proofs.Common.{map, subst}
use Rattle.ped_tree.specs.Views.{decl_tree}
use Rattle.ped_symbols.specs.Declarations.{declared_in}
use Rattle.ped_symbols.specs.Passes.{Knows}
use Rattle.ped_symbols.proofs.symbols.over_uses.Goals as goal

pub over_declared-requires-clause-declared : goal.over_declared-requires-clause-declared
over_declared-requires-clause-declared c = subst (λ ds. Knows c.in_ok-declared.declared (declared_in (map decl_tree ds))) c.deref.ensures.value c.in_ok-declared.ensures
