use Rattle.std.proofs.Common.{◌≡◌, ◌+◌, ◌∷◌, map, drop, true, ap, arith}
use Rattle.std.proofs.lemmas.Grind.{common_steps}
use Rattle.ped_tree.specs.Grammar.Refusal.{refused_if, Syntax}
use Rattle.ped_tree.specs.Grammar.RefusalViews.{found_of}
use Rattle.ped_tree.specs.Grammar.StatementViews.{note_of}
use Rattle.ped_units.proofs.Earliest.{earliest_step}
use Rattle.ped_units.proofs.unit_refusals.at_notes.Goals as goal

pub loop-directive-preserved : goal.loop-directive-preserved
loop-directive-preserved c =
    let all = c.args.directives.now in
    let i = c.loop-directive.directive-index in
    let first : drop i all ≡ c.directive-item.result ∷ drop (i + 1) all = grind (arith, common_steps) in
    earliest_step (λ d. refused_if true Syntax d.line) _ (found_of c.loop-directive.found) (found_of c.standing-found.result) (map note_of (drop i all)) (map note_of (drop (i + 1) all)) (note_of c.directive-item.result) c.loop-directive.invariant (ap (map note_of) first) c.standing-found.ensures
