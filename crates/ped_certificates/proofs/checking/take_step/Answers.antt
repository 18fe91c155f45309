use Rattle.ped_certificates.proofs.checking.take_step.Goals as goal

pub returns-in_ok-sum-in-Gcd-clause-unknown : goal.returns-in_ok-sum-in-Gcd-clause-unknown
returns-in_ok-sum-in-Gcd-clause-unknown c = c.closed_by.ensures.unknown c.args.system.now.unknowns
