use Rattle.std.proofs.Common.{refl, codes}
use Rattle.std.proofs.lemmas.Result.{on_ok_weaker}
use Rattle.ped_answer.specs.Generated.{alike, unlike}
use Rattle.ped_answer.proofs.reporting.push_runs.Goals as goal

pub returns-then-end_alike : goal.returns-then-end_alike
returns-then-end_alike c =
    on_ok_weaker c.extend_from_slice.result (λ is. (codes "equal", alike (c.end_alike.ensures.0 c.if-end_alike.true) refl, is)) c.extend_from_slice.ensures.ok

pub returns-else-end_alike : goal.returns-else-end_alike
returns-else-end_alike c =
    on_ok_weaker c.extend_from_slice-else-end_alike.result
    (λ is. (codes "differ", unlike (λ h. absurd (let t = c.end_alike.ensures.1 h in let f = c.if-end_alike.false in cc)) refl, is)) c.extend_from_slice-else-end_alike.ensures.ok
