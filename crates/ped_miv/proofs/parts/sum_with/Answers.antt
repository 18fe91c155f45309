use Rattle.std.proofs.Common.{sym, subst, Option, ◌++◌, ◌∷◌, [], arith}
use Rattle.ped_views.specs.declared.intervals.Interval.{Interval}
use Rattle.ped_miv.specs.Parts.{MaySum}
use Rattle.ped_miv.proofs.Sums.{sum_stops, sum_grows, part_small, sum_small}
use Rattle.ped_miv.proofs.parts.sum_with.Goals as goal

pub returns-in_err-part : goal.returns-in_err-part
returns-in_err-part c =
    subst (λ (o : Option Interval). MaySum c.args._view.now c.args._position.now (c.args._front.now ++ c.args.direction ∷ []) o) (sym c.from_residual.ensures)
    (sum_stops c.args._view.now c.args._position.now c.requires.fits c.args._front.now c.args.sum c.requires.sum c.args.direction c.requires.place c.args.parts.now c.requires.parts (sym c.in_err-part.ensures))

pub add-requires-clause-first : goal.add-requires-clause-first
add-requires-clause-first c = sum_small c.args._view.now c.args._position.now c.args._front.now c.args.sum c.requires.sum (let f = c.requires.few in omega arith)

pub add-requires-clause-second : goal.add-requires-clause-second
add-requires-clause-second c = part_small c.args._view.now c.args._position.now c.requires.fits c.args._front.now c.args.sum c.requires.sum c.args.direction c.requires.place c.args.parts.now c.requires.parts c.in_ok-part.part (sym c.in_ok-part.ensures)

pub returns : goal.returns
returns c = sum_grows c.args._view.now c.args._position.now c.requires.fits c.args._front.now c.args.sum c.requires.sum c.args.direction c.requires.place c.args.parts.now c.requires.parts c.in_ok-part.part c.add.result (sym c.in_ok-part.ensures) c.add.ensures
