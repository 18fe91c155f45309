use Rattle.std.proofs.Common.{◌+◌, ◌≤◌, ℕ, List, length, take, get_or, sym, subst, arith, take_all}
use Rattle.std.proofs.lemmas.List.{take_more}
use Rattle.ped_links.specs.FirstLinks.{IsFirstOf}
use Rattle.ped_links.specs.LinkPlaces.{StandsAtLines}
use Rattle.ped_links.proofs.CallSteps.{line_more}
use Rattle.ped_links.proofs.linking.at_private.Goals as goal

pub loop-line-init : goal.loop-line-init
loop-line-init c r line h = h.1

pub loop-line-preserved : goal.loop-line-preserved
loop-line-preserved c =
    let lines = c.args.lines.now in
    let i = c.loop-line.line-index in
    subst (IsFirstOf (StandsAtLines (take (i + 1) lines))) (sym c.standing-found.ensures)
    (line_more (take i lines) (take (i + 1) lines) (get_or lines i 0) c.loop-line.found (take_more lines i 0 (omega arith)) c.loop-line.invariant)

pub returns : goal.returns
returns c =
    let ended : length c.args.lines.now ≤ c.loop-line.line-index = omega arith in
    subst (λ (lines : List ℕ). IsFirstOf (StandsAtLines lines) c.loop-line.found) (take_all c.loop-line.line-index c.args.lines.now ended) c.loop-line.invariant
