use Rattle.ped_transformations.proofs.LawfulTable.{lawful_step}
use Rattle.ped_transformations.proofs.laws.every_step_is_lawful.Goals as goal

pub returns : goal.returns
returns c = lawful_step (record { interchange = c.interchange_is_lawful.ensures; reversal = c.reversal_is_lawful.ensures; parallel = c.parallel_is_lawful.ensures; serial = c.serial_is_lawful.ensures; rejection = c.rejection_is_lawful.ensures; parallel_by = c.steps_by_evidence_are_lawful.ensures.parallel; reversal_by = c.steps_by_evidence_are_lawful.ensures.reversal; interchange_by = c.steps_by_evidence_are_lawful.ensures.interchange; skew = c.skewing_is_lawful.ensures; strip = c.stripping_is_lawful.ensures; peel = c.peeling_is_lawful.ensures; distribution = c.distribution_is_lawful.ensures; fusion = c.fusion_is_lawful.ensures; reduction = c.reduction_is_lawful.ensures; inlining = c.inline_is_lawful.ensures })
