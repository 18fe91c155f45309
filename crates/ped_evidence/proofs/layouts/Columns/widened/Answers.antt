use Rattle.std.proofs.lemmas.Result.{IfOk-weaker}
use Rattle.ped_evidence.specs.Kept.{columns_of}
use Rattle.ped_evidence.proofs.AffineSteps.{widened_fits}
use Rattle.ped_evidence.proofs.layouts.Columns.widened.Goals as goal

pub returns-clause-fits : goal.returns-clause-fits
returns-clause-fits c =
    IfOk-weaker c.spread.result _ _ (λ r h. widened_fits (columns_of c.args.self.now) c.args.before c.args.loops c.args.f.now r c.requires.within c.requires.form h) c.spread.ensures
