use Rattle.std.proofs.Common.{false, arith}
use Rattle.ped_edges.proofs.SignsFound.{all_found}
use Rattle.ped_edges.proofs.signs.place_signs.Goals as goal

pub returns : goal.returns
returns c =
    all_found c.args.places c.args.vectors.now c.loop-place.signs (record { before = false; same = false; after = false }) (omega arith) c.loop-place.invariant.0
    (λ k h. c.loop-place.invariant.1 k (omega arith))
