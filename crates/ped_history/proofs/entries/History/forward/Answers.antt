use Rattle.std.proofs.Common.{◌<◌, inl, arith, length}
use Rattle.ped_history.proofs.Moves.{forward_from, next_from}
use Rattle.ped_history.proofs.entries.History.forward.Goals as goal

pub returns : goal.returns
returns g c =
    let xs = c.self.inside.entries.items in
    let at = c.self.inside.at in
    let within : at < length xs = omega (arith, c.self.inside.entries.ok, c.self.invariant) in
    rw (← c.self.view_is) (
      λ i. inl (c.index_mut.result.ghost_name, λ w. forward_from xs at c.self.inside.entries.cap w within i),
      record {
        writes_back = tt;
        next = next_from xs at c.index_mut.result.now within c.index_mut.ensures.value;
        refused = tt;
      },
    )
