use Rattle.std.proofs.Common.{◌+◌, ◌∙◌, sym, ap, ℕ, length}
use Rattle.std.proofs.lemmas.Result.{IfOk-weaker}
use Rattle.ped_tree.specs.Nests.{indices_of}
use Rattle.ped_refs.specs.Loops.{nest_of}
use Rattle.std.proofs.Common.{◌++◌}
use Rattle.ped_evidence.proofs.AffineSteps.{names_long, as_many}
use Rattle.ped_evidence.proofs.layouts.Layout.form_at.Goals as goal

pub returns-clause-fits : goal.returns-clause-fits
returns-clause-fits c =
    let y = c.args.self.now in
    let around = c.args.around.now in
    IfOk-weaker c.affine.result _ _ (λ f h. as_many (length (indices_of (nest_of around) ++ y.symbols.now)) (length around + y.columns.symbols) f (names_long around y.symbols.now ∙ ap (λ (k : ℕ). length around + k) (sym c.requires.symbols)) h) c.affine.ensures.fits
