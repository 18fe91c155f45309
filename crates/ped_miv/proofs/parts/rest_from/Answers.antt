use Rattle.std.proofs.Common.{sym, subst, Option, ◌+◌}
use Rattle.ped_views.specs.declared.intervals.Interval.{Interval}
use Rattle.ped_miv.specs.Parts.{IsRest}
use Rattle.ped_miv.proofs.Sums.{rest_stops, rest_lacks, rest_grows, any_small}
use Rattle.ped_miv.proofs.parts.rest_from.Goals as goal

pub returns-in_err-behind : goal.returns-in_err-behind
returns-in_err-behind c =
    subst (λ (o : Option Interval). IsRest c.args._view.now c.args._position.now c.args._place o) (sym c.from_residual.ensures)
    (rest_stops c.args._view.now c.args._position.now c.requires.fits c.args._place c.requires.place c.args.parts.now c.requires.parts
    (subst (IsRest c.args._view.now c.args._position.now (c.args._place + 1)) c.in_err-behind.was c.requires.rest))

pub returns-in_err-here : goal.returns-in_err-here
returns-in_err-here c =
    subst (λ (o : Option Interval). IsRest c.args._view.now c.args._position.now c.args._place o) (sym c.from_residual-in_err-here.ensures)
    (rest_lacks c.args._view.now c.args._position.now c.requires.fits c.args._place c.requires.place c.args.parts.now c.requires.parts c.in_err-here.was)

pub add-requires-clause-second : goal.add-requires-clause-second
add-requires-clause-second c = any_small c.args._view.now c.args._position.now c.requires.fits c.args._place c.requires.place c.args.parts.now c.requires.parts c.in_ok-here.here c.in_ok-here.was

pub returns : goal.returns
returns c =
    rest_grows c.args._view.now c.args._position.now c.requires.fits c.args._place c.requires.place c.args.parts.now c.requires.parts c.in_ok-behind.behind c.in_ok-here.here c.add.result c.requires.few c.in_ok-here.was
    (subst (IsRest c.args._view.now c.args._position.now (c.args._place + 1)) c.in_ok-behind.was c.requires.rest) c.add.ensures
