use Rattle.ped_laws.proofs.ActLaws.Stores.{fits_append, fits_first, fits_rest, after_append}
use Rattle.ped_laws.proofs.acts.exchanges.one_after_another.Goals as goal

pub returns-clause-fits : goal.returns-clause-fits
returns-clause-fits c = fits_append

pub returns-clause-first : goal.returns-clause-first
returns-clause-first c = fits_first

pub returns-clause-rest : goal.returns-clause-rest
returns-clause-rest c = fits_rest

pub returns-clause-leaves : goal.returns-clause-leaves
returns-clause-leaves c = after_append
