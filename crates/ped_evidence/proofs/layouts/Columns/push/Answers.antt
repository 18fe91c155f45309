use Rattle.std.proofs.Common.{◌^◌, All, subst, sym}
use Rattle.std.proofs.lemmas.List.Elements.{All-push}
use Rattle.std.proofs.lemmas.Result.{on_ok_weaker}
use Rattle.ped_certificates.specs.Limits.{IsRow}
use Rattle.ped_evidence.specs.Kept.{columns_of}
use Rattle.ped_evidence.specs.Layouts.{width}
use Rattle.ped_evidence.proofs.layouts.Columns.push.Goals as goal

pub returns-clause-fits : goal.returns-clause-fits
returns-clause-fits c =
    let P = IsRow (width (columns_of c.args.self.now)) (2 ^ 64) in
    on_ok_weaker c.push.result (λ h. subst (All P) (sym h) (All-push P c.args.rows.now c.args.row c.requires.rows c.requires.row)) c.push.ensures.ok
