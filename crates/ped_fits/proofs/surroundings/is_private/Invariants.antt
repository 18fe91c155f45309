use Rattle.std.proofs.Common.{◌≡◌, drop}
use Rattle.ped_base.specs.Lists.{is_among}
use Rattle.ped_fits.specs.Surroundings.{all_names}
use Rattle.ped_fits.proofs.surroundings.is_private.Given as goal

abbrev pub invariant-loop-names : goal.invariant-loop-names
invariant-loop-names l = is_among l.name (all_names (drop l.names-index l.private)) ≡ is_among l.name (all_names l.private)
