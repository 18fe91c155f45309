use Rattle.std.proofs.Common.{◌∙◌, ap}
use Rattle.ped_tree.specs.Views.{stmt_tree}
use Rattle.ped_tree.proofs.Levels.{stmt_tree-If}
use Rattle.ped_tree.proofs.Numbers.{search-else}
use Rattle.ped_tree.proofs.numbering.+find.Goals as goal

pub find-returns-in-None : goal.find-returns-in-None
find-returns-in-None t c =
    let is = ap stmt_tree c.in-If.is ∙ stmt_tree-If c.in-If.condition c.in-If.then_part c.in-If.else_part in
    let passed = rw c.deref.ensures.value at c.in-None.ensures in
    search-else _ _ _ _ _ c.args.place.now _ _ is c.if-place-eq0.false passed (rw c.deref-in-None.ensures.value at c.find_among-in-None.ensures)
