use Rattle.ped_laws.proofs.CoveringLaws.FormValues.{value_tells}
use Rattle.ped_laws.proofs.covering.forms.values_by_forms.Goals as goal

pub returns : goal.returns
returns c = λ t values g u e f n have h k. (value_tells t values g u have e n f k h).1
