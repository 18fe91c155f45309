use Rattle.std.proofs.Common.{◌≡◌, ◌+◌, ◌∷◌, ◌∙◌, Bool, map, drop, ap, arith}
use Rattle.std.proofs.lemmas.Grind.{common_steps}
use Rattle.ped_tree.specs.Grammar.Refusal.{earliest, refused_if, Limit}
use Rattle.ped_tree.specs.Grammar.RefusalViews.{found_of}
use Rattle.ped_units.specs.Refusals.{at_call}
use Rattle.ped_units.specs.Views.{unit_entry_of}
use Rattle.ped_units.proofs.Earliest.{earliest_step}
use Rattle.ped_units.proofs.unit_refusals.at_calls.Goals as goal

pub loop-entry-preserved : goal.loop-entry-preserved
loop-entry-preserved c =
    let all = c.args.entries.now in
    let i = c.loop-entry.entry-index in
    let first : drop i all ≡ c.entry-item.result ∷ drop (i + 1) all = grind (arith, common_steps) in
    let next : found_of c.standing-found.result ≡ earliest (found_of c.loop-entry.found) (at_call (unit_entry_of c.entry-item.result)) = c.standing-found.ensures ∙ ap (λ (b : Bool). earliest (found_of c.loop-entry.found) (refused_if b Limit c.entry-item.result.statement.line)) c.in_ok-passes.ensures in
    earliest_step at_call _ (found_of c.loop-entry.found) (found_of c.standing-found.result) (map unit_entry_of (drop i all)) (map unit_entry_of (drop (i + 1) all)) (unit_entry_of c.entry-item.result) c.loop-entry.invariant (ap (map unit_entry_of) first) next
