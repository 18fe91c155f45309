use Rattle.std.proofs.Common.{◌∷◌, [], ◌++◌, List, refl, sym, subst, map}
use Rattle.std.proofs.lemmas.List.{map_push}
use Rattle.ped_units.specs.Reading.{Segment}
use Rattle.ped_units.specs.Refusals.{before_another}
use Rattle.ped_units.specs.Seeing.{AreReadEach}
use Rattle.ped_units.specs.Views.{segment_of}
use Rattle.ped_units.specs.declared.reading.ReadUnit.{ReadUnit}
use Rattle.ped_units.proofs.ReadUnits.{each_more}
use Rattle.ped_units.proofs.reading.read_earlier.Goals as goal

pub loop-segment-preserved : goal.loop-segment-preserved
loop-segment-preserved c all lines =
    let at = c.loop-segment in
    let u = c.in_ok-read_unit.field-0 in
    subst (λ (us : List ReadUnit). AreReadEach all (map segment_of (at.yielded ++ c.in-Some.segment ∷ [])) us) (sym c.in_ok-push.ensures.items)
    (subst (λ (ss : List Segment). AreReadEach all ss (at.units.items ++ u ∷ [])) (sym (map_push segment_of at.yielded c.in-Some.segment))
    (each_more all (map segment_of at.yielded) at.units.items (segment_of c.in-Some.segment) u (at.invariant all lines) (c.in_ok-read_unit.ensures (before_another all) lines refl)))
