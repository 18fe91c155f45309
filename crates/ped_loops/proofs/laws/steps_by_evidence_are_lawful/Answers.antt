use Rattle.ped_rules.proofs.HeadLaws.ParallelLawful.{lawful_by_test}
use Rattle.ped_loops.specs.ByEvidence.{carried_open}
use Rattle.ped_loops.proofs.OpenEdges.{open_forbids}
use Rattle.ped_loops.proofs.ReversalLawful.{lawful_reversal_by}
use Rattle.ped_loops.proofs.InterchangeLawful.{lawful_interchange_by}
use Rattle.ped_loops.proofs.laws.steps_by_evidence_are_lawful.Goals as goal

pub returns-clause-parallel : goal.returns-clause-parallel
returns-clause-parallel c = λ s evidence.
    lawful_by_test c.one_for_one.ensures.always c.stays_trusted.ensures c.private_names_cleared.ensures c.one_for_one.ensures.on_data c.indices_unwritten.ensures c.none_rejected.ensures.true_on s (λ t. carried_open t s evidence)
    (open_forbids c.disproved_never_meets.ensures c.disproved_are_of_elements.ensures c.none_rejected.ensures.edges s evidence)

pub returns-clause-reversal : goal.returns-clause-reversal
returns-clause-reversal c = λ s evidence.
    lawful_reversal_by c.one_for_one.ensures.always c.one_for_one.ensures.on_data c.stays_trusted.ensures c.private_names_cleared.ensures c.none_rejected.ensures.true_on s evidence
    (open_forbids c.disproved_never_meets.ensures c.disproved_are_of_elements.ensures c.none_rejected.ensures.edges s evidence)

pub returns-clause-interchange : goal.returns-clause-interchange
returns-clause-interchange c = λ s evidence.
    lawful_interchange_by c.accesses_are_made.ensures c.accesses_in_sequence.ensures c.stays_trusted.ensures c.private_names_cleared.ensures c.none_rejected.ensures.true_on s c.disproved_never_meets.ensures evidence
