use Rattle.std.proofs.Common.{◌↔◌, IsTrue, List, subst}
use Rattle.ped_views.specs.declared.directions.Direction.{Direction}
use Rattle.ped_verdict.specs.Sights.{SomeBeyond}
use Rattle.ped_verdict.proofs.sights.excludes_some_by.Goals as goal

pub returns : goal.returns
returns c = subst (λ (ds : List Direction). IsTrue c.any_excluded.result ↔ SomeBeyond c.args.view.now c.args.pair.now ds) c.directions.ensures.value c.any_excluded.ensures
