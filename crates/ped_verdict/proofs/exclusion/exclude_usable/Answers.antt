use Rattle.ped_verdict.specs.CodeForms.{occurrence_shown}
use Rattle.ped_verdict.proofs.Asked.{single_added, single_none, single_sights, more_sights, other_ziv, other_strong, other_weak_zero, other_weak_crossing}
use Rattle.ped_verdict.proofs.exclusion.exclude_usable.Goals as goal

pub returns-in-Ziv-clause-marks : goal.returns-in-Ziv-clause-marks
returns-in-Ziv-clause-marks c = single_added c.args.view.now c.args.pair.now _ c.in-Ziv.ensures.form other_ziv c.args.excluded.now c.exclude_ziv.new.excluded c.exclude_ziv.ensures

pub returns-in-Ziv-clause-sights : goal.returns-in-Ziv-clause-sights
returns-in-Ziv-clause-sights c = λ h. single_sights c.args.view.now c.args.position c.args.sights.now.items h c.args.pair.now c.requires.there _ c.in-Ziv.ensures.form other_ziv

pub returns-in_ok-exclude_strong-in-Strong-clause-marks : goal.returns-in_ok-exclude_strong-in-Strong-clause-marks
returns-in_ok-exclude_strong-in-Strong-clause-marks c = single_added c.args.view.now c.args.pair.now _ c.in-Strong.ensures.form (other_strong (occurrence_shown c.in-Strong.one)) c.args.excluded.now c.exclude_strong.new.excluded c.in_ok-exclude_strong-in-Strong.ensures

pub returns-in_ok-exclude_strong-in-Strong-clause-sights : goal.returns-in_ok-exclude_strong-in-Strong-clause-sights
returns-in_ok-exclude_strong-in-Strong-clause-sights c = λ h. single_sights c.args.view.now c.args.position c.args.sights.now.items h c.args.pair.now c.requires.there _ c.in-Strong.ensures.form (other_strong (occurrence_shown c.in-Strong.one))

pub returns-in-WeakZero-clause-marks : goal.returns-in-WeakZero-clause-marks
returns-in-WeakZero-clause-marks c = single_added c.args.view.now c.args.pair.now _ c.in-WeakZero.ensures.form (other_weak_zero (occurrence_shown c.in-WeakZero.one)) c.args.excluded.now c.exclude_weak_zero.new.excluded c.exclude_weak_zero.ensures

pub returns-in-WeakZero-clause-sights : goal.returns-in-WeakZero-clause-sights
returns-in-WeakZero-clause-sights c = λ h. single_sights c.args.view.now c.args.position c.args.sights.now.items h c.args.pair.now c.requires.there _ c.in-WeakZero.ensures.form (other_weak_zero (occurrence_shown c.in-WeakZero.one))

pub returns-in-WeakCrossing-clause-marks : goal.returns-in-WeakCrossing-clause-marks
returns-in-WeakCrossing-clause-marks c = single_added c.args.view.now c.args.pair.now _ c.in-WeakCrossing.ensures.form (other_weak_crossing (occurrence_shown c.in-WeakCrossing.one)) c.args.excluded.now c.exclude_weak_crossing.new.excluded c.exclude_weak_crossing.ensures

pub returns-in-WeakCrossing-clause-sights : goal.returns-in-WeakCrossing-clause-sights
returns-in-WeakCrossing-clause-sights c = λ h. single_sights c.args.view.now c.args.position c.args.sights.now.items h c.args.pair.now c.requires.there _ c.in-WeakCrossing.ensures.form (other_weak_crossing (occurrence_shown c.in-WeakCrossing.one))

pub returns-in_ok-push-in-Other-clause-marks : goal.returns-in_ok-push-in-Other-clause-marks
returns-in_ok-push-in-Other-clause-marks c = single_none c.args.view.now c.args.pair.now c.args.excluded.now c.in-Other.ensures.form

pub returns-in_ok-push-in-Other-clause-sights : goal.returns-in_ok-push-in-Other-clause-sights
returns-in_ok-push-in-Other-clause-sights c = λ h.
    more_sights c.args.view.now c.args.position c.args.sights.now.items h c.args.pair.now c.requires.there c.push.new.self.items c.in_ok-sight-in-Other.sight c.in_ok-push-in-Other.ensures.items
    c.in_ok-sight-in-Other.ensures.position c.requires.fits (c.requires.usable, c.in-Other.ensures.form) c.in_ok-sight-in-Other.ensures.sight
