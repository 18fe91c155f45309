use Rattle.std.proofs.Common.{◌∷◌, [], ◌++◌, List, sym, subst, map}
use Rattle.ped_units.specs.Seeing.{AreReadUnits}
use Rattle.ped_units.specs.Views.{segment_of}
use Rattle.ped_units.specs.declared.reading.ReadUnit.{ReadUnit}
use Rattle.ped_units.proofs.ReadUnits.{last_read}
use Rattle.ped_units.proofs.reading.read_last.Goals as goal

pub returns : goal.returns
returns c all lines directives =
    let u = c.in_ok-read_unit.field-0 in
    subst (λ (us : List ReadUnit). AreReadUnits all (map segment_of c.args.segments.items ++ segment_of c.args.last ∷ []) us) (sym c.in_ok-push.ensures.items)
    (last_read all (map segment_of c.args.segments.items) c.in-Ok.units.items (segment_of c.args.last) u (c.in-Ok.ensures all lines) (c.in_ok-read_unit.ensures all lines directives))
