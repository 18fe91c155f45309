use Rattle.std.proofs.Common.{◌≡◌, ◌+◌, ◌∷◌, map, drop, ap, arith}
use Rattle.std.proofs.lemmas.Grind.{common_steps}
use Rattle.ped_tree.specs.Grammar.RefusalViews.{found_of}
use Rattle.ped_units.specs.Refusals.{at_subroutine_entry}
use Rattle.ped_units.specs.Views.{unit_entry_of}
use Rattle.ped_units.proofs.Earliest.{earliest_step}
use Rattle.ped_units.proofs.unit_refusals.at_subroutine_entries.Goals as goal

pub loop-entry-preserved : goal.loop-entry-preserved
loop-entry-preserved c =
    let all = c.args.entries.now in
    let i = c.loop-entry.entry-index in
    let first : drop i all ≡ c.entry-item.result ∷ drop (i + 1) all = grind (arith, common_steps) in
    earliest_step at_subroutine_entry _ (found_of c.loop-entry.found) (found_of c.at_subroutine_entry-found.result) (map unit_entry_of (drop i all)) (map unit_entry_of (drop (i + 1) all)) (unit_entry_of c.entry-item.result) c.loop-entry.invariant (ap (map unit_entry_of) first) c.at_subroutine_entry-found.ensures
