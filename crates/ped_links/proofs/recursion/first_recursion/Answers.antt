use Rattle.std.proofs.Common.{◌≡◌, ◌+◌, ◌<◌, ℕ, Bool, List, [], ◌∷◌, ap, sym, subst, length, arith}
use Rattle.std.proofs.lemmas.List.{length-map}
use Rattle.ped_links.specs.ArrowViews.{ends_of}
use Rattle.ped_units.specs.Units.{all_units}
use Rattle.ped_links.specs.FirstLinks.{IsFirstOf}
use Rattle.ped_links.specs.Reaching.{Leads, IsReached, IsMarked}
use Rattle.ped_links.specs.Scenes.{AtRecursions}
use Rattle.ped_units.specs.Views.{program_unit_of}
use Rattle.ped_links.proofs.FirstFound.{first_as}
use Rattle.ped_links.proofs.Recursive.{LeadingBelow, none_below, unit_more, leading_recurs, recursive_leads}
use Rattle.ped_links.proofs.recursion.first_recursion.Goals as goal

pub loop-unit-init : goal.loop-unit-init
loop-unit-init c us scene = none_below us (ends_of c.in_ok-callers.callers)

pub loop-unit-preserved : goal.loop-unit-preserved
loop-unit-preserved c us scene =
    let ends = ends_of c.in_ok-callers.callers in
    let long = ap length scene.units in
    let as_long = length-map c.args.scene.now.units.now program_unit_of in
    let below : c.loop-unit.unit < length (all_units us) = omega (arith, long, as_long) in
    let marked : (k j : ℕ) → Leads ends k j → IsReached ends (j ∷ []) k → IsMarked c.deref.result.now k = λ k j l r. subst (λ (ms : List Bool). IsMarked ms k) (sym c.deref.ensures.value) (c.in_ok-marks.ensures.marked k j l r) in
    subst (IsFirstOf (LeadingBelow us ends (c.loop-unit.unit + 1))) (sym c.first_of_two-found.ensures)
    (unit_more us ends c.deref.result.now c.loop-unit.found c.in_ok-more.more c.loop-unit.unit (c.in_ok-callers.ensures.arrows us scene) below marked (c.in_ok-more.ensures us scene) (c.loop-unit.invariant us scene))

pub returns : goal.returns
returns c us scene =
    let ends = ends_of c.in_ok-callers.callers in
    let long = ap length scene.units in
    let as_long = length-map c.args.scene.now.units.now program_unit_of in
    let wide : c.loop-unit.unit ≡ length (all_units us) = omega (arith, long, as_long) in
    let arrows = c.in_ok-callers.ensures.arrows us scene in
    first_as (LeadingBelow us ends c.loop-unit.unit) (AtRecursions us) c.loop-unit.found (leading_recurs us ends c.loop-unit.unit arrows wide) (recursive_leads us ends c.loop-unit.unit arrows wide) (c.loop-unit.invariant us scene)
