use Rattle.ped_rules.specs.ped_steps.specs.Causes.{none_forbids}
use Rattle.ped_rules.specs.ped_steps.proofs.OneCause.{one_cause}
use Rattle.ped_scalar.specs.Privatising.{StandsAgainstPrivatising}
use Rattle.ped_scalar.proofs.PrivatiseRules.{chain}
use Rattle.ped_scalar.proofs.laws.one_cause_against_privatising.Goals as goal

pub returns : goal.returns
returns c t s x first second p q = one_cause t (StandsAgainstPrivatising s x t) none_forbids (chain s x t).one first second p q
