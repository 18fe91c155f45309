use Rattle.std.proofs.Common.{refl, subst}
use Rattle.ped_views.specs.Views.{Row}
use Rattle.ped_graph.specs.Sides.{IsOwnRow}
use Rattle.ped_graph.proofs.told.position_over_two.Goals as goal

pub returns-clause-told : goal.returns-clause-told
returns-clause-told c = λ a b at_first at_second first second. record {
  first = first;
  second = second;
  usable = refl;
  source = subst (λ (r : Row). IsOwnRow 2 r c.row_over_two.result) (c.own_row.ensures.row a at_first) c.row_over_two.ensures;
  sink = subst (λ (r : Row). IsOwnRow 2 r c.row_over_two-2.result) (c.own_row-2.ensures.row b at_second) c.row_over_two-2.ensures;
}
