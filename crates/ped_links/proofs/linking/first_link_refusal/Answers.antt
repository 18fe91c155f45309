use Rattle.std.proofs.Common.{List, sym, subst}
use Rattle.std.proofs.lemmas.Result.{IfOk-weaker}
use Rattle.ped_units.specs.Units.{ProgramUnit, all_units}
use Rattle.ped_links.specs.Numbers.{AreNumbers}
use Rattle.ped_links.specs.Scenes.{AreWalked}
use Rattle.ped_links.proofs.linking.first_link_refusal.Goals as goal

pub returns : goal.returns
returns c = IfOk-weaker c.first_in.result _ _ (λ found h us known. h us (record {
  units = known.units;
  tables = known.tables;
  numbers = subst (λ (all : List ProgramUnit). AreNumbers all c.in_ok-numbers.numbers.entries) known.units c.in_ok-numbers.ensures;
  walked = subst (AreWalked (all_units us)) (sym c.deref.ensures.value) (subst (λ (all : List ProgramUnit). AreWalked all c.in_ok-walks.walks.items) known.units c.in_ok-walks.ensures.walked);
}) known.named) c.first_in.ensures
