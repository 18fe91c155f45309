use Rattle.std.proofs.Common.{◌^◌, ◌∙◌, sym, arith}
use Rattle.std.proofs.lemmas.Result.{IfOk-weaker}
use Rattle.ped_evidence.specs.Kept.{columns_of, form_of}
use Rattle.ped_evidence.specs.Layouts.{width}
use Rattle.ped_evidence.proofs.AffineSteps.{less_is, difference_fits}
use Rattle.ped_evidence.proofs.layouts.Columns.less.Goals as goal

pub returns-clause-form : goal.returns-clause-form
returns-clause-form c =
    IfOk-weaker c.difference_of.result _ _ (λ f h. h ∙ less_is (form_of c.args.a.now) (form_of c.args.b.now) (c.requires.first.as_many ∙ sym c.requires.second.as_many)) c.difference_of.ensures

pub returns-clause-fits : goal.returns-clause-fits
returns-clause-fits c =
    IfOk-weaker c.difference_of.result _ _ (λ f h. difference_fits (2 ^ 62) (2 ^ 62) (2 ^ 63) (omega arith) (width (columns_of c.args.self.now)) c.args.a.now c.args.b.now f c.requires.first c.requires.second h) c.difference_of.ensures
