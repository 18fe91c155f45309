use Rattle.std.proofs.Common.{ap}
use Rattle.ped_views.specs.Views.{SubscriptPair}
use Rattle.ped_verdict.proofs.Answering.{is_there, fits, nothing_excluded}
use Rattle.ped_verdict.proofs.Asked.{unusable_sights}
use Rattle.ped_verdict.proofs.exclusion.exclude_by.Goals as goal

pub exclude_usable-requires-clause-there : goal.exclude_usable-requires-clause-there
exclude_usable-requires-clause-there c = is_there _ c.args.view.now c.view.view_is c.view.invariant c.args.position c.index-pair.result.now c.requires.place c.index-pair.ensures

pub exclude_usable-requires-clause-fits : goal.exclude_usable-requires-clause-fits
exclude_usable-requires-clause-fits c = fits _ c.args.view.now c.view.view_is c.view.invariant c.args.position c.index-pair.result.now c.requires.place c.index-pair.ensures

pub returns-clause-marks : goal.returns-clause-marks
returns-clause-marks c = nothing_excluded _ c.args.view.now c.view.view_is c.view.invariant c.args.position c.index-pair.result.now c.requires.place c.index-pair.ensures c.pair.inside.usable (ap (λ (p : SubscriptPair). p.usable) c.pair.view_is) c.if-pair.false c.args.excluded.now

pub returns-clause-sights : goal.returns-clause-sights
returns-clause-sights c = λ h.
    unusable_sights c.args.view.now c.args.position c.args.sights.now.items h c.index-pair.result.now
    (is_there _ c.args.view.now c.view.view_is c.view.invariant c.args.position c.index-pair.result.now c.requires.place c.index-pair.ensures)
    c.pair.inside.usable (ap (λ (p : SubscriptPair). p.usable) c.pair.view_is) c.if-pair.false
