use Rattle.std.proofs.Common.{◌≡◌, ◌*◌, ◌^◌, ◌<◌, drop}
use Rattle.ped_symbols.specs.Passes.{capped}
use Rattle.ped_symbols.specs.StorageLimits.{sizes_product, elements}
use Rattle.ped_symbols.proofs.storage.elements_within.Given as goal

abbrev pub invariant-loop-i : goal.invariant-loop-i
invariant-loop-i l = record {
  small : l.product < 2 ^ 64;
  product : capped (l.product * sizes_product (drop l.i l.bounds.lower) (drop l.i l.bounds.upper)) ≡ capped (elements l.bounds);
}
