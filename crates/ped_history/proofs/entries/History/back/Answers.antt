use Rattle.std.proofs.Common.{◌≤◌, inl, arith}
use Rattle.ped_history.proofs.Moves.{back_from, newest_from}
use Rattle.ped_history.proofs.entries.History.back.Goals as goal

pub returns : goal.returns
returns g c =
    let xs = c.self.inside.entries.items in
    let at = c.self.inside.at in
    let fits : at ≤ c.self.inside.entries.cap = omega (arith, c.self.inside.entries.ok) in
    rw (← c.self.view_is) (
      λ i. inl (c.index_mut.result.ghost_name, λ w. back_from xs at c.self.inside.entries.cap w c.if-self-eq0.false c.self.invariant fits i),
      record {
        writes_back = tt;
        newest = newest_from xs at c.index_mut.result.now c.if-self-eq0.false c.self.invariant c.index_mut.ensures.value;
        refused = tt;
      },
    )
