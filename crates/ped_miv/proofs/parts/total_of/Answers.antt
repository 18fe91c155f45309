use Rattle.std.proofs.Common.{sym, subst, Option, length}
use Rattle.ped_views.specs.declared.intervals.Interval.{Interval}
use Rattle.ped_miv.specs.Values.{AreExtremes, DifferenceValue}
use Rattle.ped_miv.specs.Parts.{IsRest}
use Rattle.ped_miv.proofs.Sums.{total_none, total_some, sum_small}
use Rattle.ped_miv.proofs.parts.total_of.Goals as goal

pub returns-in_err-behind : goal.returns-in_err-behind
returns-in_err-behind c =
    subst (λ (o : Option Interval). AreExtremes (DifferenceValue c.args._view.now c.args._position.now c.args._front.now) o) (sym c.from_residual.ensures)
    (total_none c.args._view.now c.args._position.now c.args._front.now c.args.sum c.requires.sum (subst (IsRest c.args._view.now c.args._position.now (length c.args._front.now)) c.in_err-behind.was c.requires.rest))

pub add-requires-clause-first : goal.add-requires-clause-first
add-requires-clause-first c = sum_small c.args._view.now c.args._position.now c.args._front.now c.args.sum c.requires.sum c.requires.few

pub returns : goal.returns
returns c =
    total_some c.args._view.now c.args._position.now c.args._front.now c.args.sum c.requires.sum c.in_ok-behind.behind c.add.result
    (subst (IsRest c.args._view.now c.args._position.now (length c.args._front.now)) c.in_ok-behind.was c.requires.rest) c.add.ensures
