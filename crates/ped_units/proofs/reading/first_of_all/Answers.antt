use Rattle.std.proofs.Common.{◌≡◌, ◌≤◌, ◌+◌, List, ◌∷◌, drop, length, Option, sym, subst, arith}
use Rattle.std.proofs.lemmas.Grind.{common_steps}
use Rattle.std.proofs.lemmas.List.{drop_all}
use Rattle.ped_tree.specs.Grammar.Refusal.{Finding}
use Rattle.ped_tree.specs.Grammar.RefusalViews.{found_of}
use Rattle.ped_units.specs.Seeing.{AreReadUnits}
use Rattle.ped_units.specs.declared.reading.ReadUnit.{ReadUnit}
use Rattle.ped_units.proofs.FirstOfAll.{Left, next_left, none_left}
use Rattle.ped_units.proofs.reading.first_of_all.Goals as goal

pub loop-unit-preserved : goal.loop-unit-preserved
loop-unit-preserved c all ss read =
    let units = c.args.units.now in
    let i = c.loop-unit.unit-index in
    let left = c.loop-unit.invariant all ss read in
    let first : drop i units ≡ c.unit-item.result ∷ drop (i + 1) units = grind (arith, common_steps) in
    subst (λ (o : Option Finding). Left all ss o (drop (i + 1) units)) (sym c.first_of_both-found.ensures)
    (next_left all ss left.rest (found_of c.loop-unit.found) c.unit-item.result (drop (i + 1) units) (subst (λ (us : List ReadUnit). AreReadUnits all left.rest us) first left.read) left.first)

pub returns : goal.returns
returns c all ss read =
    let units = c.args.units.now in
    let i = c.loop-unit.unit-index in
    let left = c.loop-unit.invariant all ss read in
    let ended : length units ≤ i = omega (arith, c.loop-unit-test.false, c.loop-unit.auto.unit-index-end) in
    none_left all ss left.rest (found_of c.loop-unit.found) (subst (λ (us : List ReadUnit). AreReadUnits all left.rest us) (drop_all i units ended) left.read) left.first
