use Rattle.std.proofs.Common.{sym, ap, ◌∙◌}
use Rattle.ped_base.proofs.NameEquality.{name_same}
use Rattle.ped_refs.specs.Occurrences.{name_text}
use Rattle.ped_loops.specs.Rejecting.{is_variable}
use Rattle.ped_loops.proofs.RejectAnswers.{variable_by}
use Rattle.ped_loops.proofs.rejecting.is_variable.Goals as goal

pub returns-in-Named : goal.returns-in-Named
returns-in-Named c =
    let x = c.args.name.now in
    let y = c.in-Named.other in
    let bytes = c.as_bytes-bytes.ensures in
    c.eq.ensures ∙ name_same x y ∙ variable_by x y c.as_bytes-bytes.result.now bytes.bytes bytes.name bytes.short ∙ ap (λ found. is_variable x (name_text found)) (sym c.in-Named.is)
