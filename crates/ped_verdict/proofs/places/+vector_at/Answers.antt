use Rattle.std.proofs.Common.{◌≡◌, ◌<◌, ◌-◌, ◌^◌, suc, arith}
use Rattle.ped_verdict.proofs.Ordered.{without_last, pushed}
use Rattle.ped_verdict.proofs.places.+vector_at.Goals as goal

pub vector_at-requires : goal.vector_at-requires
vector_at-requires t c =
    let n = c.args.loops - 1 in
    let e : suc n ≡ c.args.loops = omega arith in
    let h : c.args.place < 3 ^ suc n = rw e c.requires.place in
    (omega arith, (omega arith, without_last n c.args.place h))

pub returns-else-loops-eq0-clause-place : goal.returns-else-loops-eq0-clause-place
returns-else-loops-eq0-clause-place t c = pushed c.vector_at.result c.with.result c.direction_at.result c.args.place c.with.ensures c.vector_at.ensures.place c.direction_at.ensures
