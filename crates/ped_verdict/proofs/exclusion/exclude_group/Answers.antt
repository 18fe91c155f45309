use Rattle.std.proofs.Common.{◌≡◌, All, pos, List, sym, subst, ap, length, arith}
use Rattle.std.proofs.lemmas.Grind.{common_steps}
use Rattle.ped_views.specs.declared.strong_rows.StrongRow.{StrongRow}
use Rattle.ped_views.specs.Views.{View}
use Rattle.ped_verdict.specs.CodeForms.{occurrence_shown}
use Rattle.ped_verdict.proofs.Answering.{group_there, strong_added}
use Rattle.ped_verdict.proofs.Grouping.{all_some}
use Rattle.ped_verdict.proofs.exclusion.exclude_group.Goals as goal

pub group_excludes-before-requires-clause-some : goal.group_excludes-before-requires-clause-some
group_excludes-before-requires-clause-some c = group_there c.args.view.now c.args._position c.args.pair.now c.requires.there (occurrence_shown c.args.one) c.requires.form c.requires.usable c.args.rows.now c.requires.group c.requires.inside

pub group_excludes-before-requires-clause-coefficients : goal.group_excludes-before-requires-clause-coefficients
group_excludes-before-requires-clause-coefficients c = subst (λ (rows : List StrongRow). All (λ s. ¬ (s.a ≡ pos 0)) rows) (sym c.requires.group) (all_some c.args.one.place c.args.view.now.positions)

pub group_excludes-same-requires-clause-some : goal.group_excludes-same-requires-clause-some
group_excludes-same-requires-clause-some c = group_there c.args.view.now c.args._position c.args.pair.now c.requires.there (occurrence_shown c.args.one) c.requires.form c.requires.usable c.args.rows.now c.requires.group c.requires.inside

pub group_excludes-same-requires-clause-coefficients : goal.group_excludes-same-requires-clause-coefficients
group_excludes-same-requires-clause-coefficients c = subst (λ (rows : List StrongRow). All (λ s. ¬ (s.a ≡ pos 0)) rows) (sym c.requires.group) (all_some c.args.one.place c.args.view.now.positions)

pub group_excludes-after-requires-clause-some : goal.group_excludes-after-requires-clause-some
group_excludes-after-requires-clause-some c = group_there c.args.view.now c.args._position c.args.pair.now c.requires.there (occurrence_shown c.args.one) c.requires.form c.requires.usable c.args.rows.now c.requires.group c.requires.inside

pub group_excludes-after-requires-clause-coefficients : goal.group_excludes-after-requires-clause-coefficients
group_excludes-after-requires-clause-coefficients c = subst (λ (rows : List StrongRow). All (λ s. ¬ (s.a ≡ pos 0)) rows) (sym c.requires.group) (all_some c.args.one.place c.args.view.now.positions)

pub returns : goal.returns
returns c =
    let loops = ap (λ (v : View). length v.loops) c.view.view_is in
    let n : c.len.result ≡ length c.args.view.now.loops = grind (arith, common_steps) in
    strong_added c.args.view.now c.args.pair.now c.requires.usable _ c.view.view_is (occurrence_shown c.args.one) c.requires.place c.index-range.result.now c.index-range.ensures c.len.result n
    c.group_excludes-before.result c.group_excludes-same.result c.group_excludes-after.result c.args.excluded.now c.mark_directions.new.row c.mark_directions.ensures
    c.requires.form c.args.rows.now c.requires.group c.group_excludes-before.ensures c.group_excludes-same.ensures c.group_excludes-after.ensures
