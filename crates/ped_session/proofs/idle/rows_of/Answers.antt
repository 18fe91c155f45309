use Rattle.std.proofs.Common.{◌+◌, ◌++◌, List, ℕ, Bool, false, get_or, ap, sym, ◌∙◌}
use Rattle.std.proofs.lemmas.List.{get_or-map}
use Rattle.ped_tree.specs.Tree.{ProgramTree}
use Rattle.ped_script.specs.ped_certificates.specs.declared.claims.EvidenceLine.{EvidenceLine}
use Rattle.ped_transformations.specs.ped_evidence.specs.Lines.{line_holds}
use Rattle.ped_session.specs.Idle.{idle_row, idle_rows}
use Rattle.ped_session.proofs.Idling.{rows_more}
use Rattle.ped_session.proofs.idle.rows_of.Goals as goal

pub loop-place-preserved : goal.loop-place-preserved
loop-place-preserved c t held =
    let lines = c.args.evidence.now in
    let i = c.loop-place.place in
    let line = c.index-evidence-place.result in
    c.in_ok-push_line.ensures t (ap (λ (all : List Bool). get_or all i false) held ∙ get_or-map (line_holds t) lines i line false c.loop-place-test.true ∙ ap (line_holds t) (sym c.index-evidence-place.is))
    ∙ ap (λ (rows : List ℕ). rows ++ idle_row t (c.args.line + 1 + i) line) (c.loop-place.invariant t held)
    ∙ sym (rows_more t (c.args.line + 1) lines i line c.loop-place-test.true c.index-evidence-place.is)
