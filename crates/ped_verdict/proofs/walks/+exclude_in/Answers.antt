use Rattle.std.proofs.Common.{◌≡◌, ◌≤◌, ◌∙◌, length, ap, arith}
use Rattle.std.proofs.lemmas.Grind.{common_steps}
use Rattle.std.proofs.lemmas.List.{length_push}
use Rattle.ped_views.specs.declared.directions.Direction.TheVariants.{Before, Same, After}
use Rattle.ped_views.specs.Views.{View}
use Rattle.ped_verdict.specs.Sights.{OtherExcludes}
use Rattle.ped_verdict.proofs.Added.{added_three}
use Rattle.ped_verdict.proofs.Asked.{not_held_by, passed_on, longer_passed, open_within, shut_marked, closed_marked}
use Rattle.ped_verdict.proofs.walks.+exclude_in.Goals as goal

pub exclude_in-requires : goal.exclude_in-requires
exclude_in-requires t c =
    let within = open_within c.args.view.now c.args.sights.now c.requires.sights c.args.front (c.any_stays_open.ensures.0 c.if-any_stays_open.true) in
    let l = ap length c.with-longer.ensures ∙ length_push c.args.front Before in
    let short : length c.with-longer.result ≤ length c.args.view.now.loops = omega (arith, l, within) in
    let free = passed_on c.args.view.now c.args.sights.now c.requires.sights c.args.front (not_held_by _ _ c.any_shuts.ensures c.if-any_shuts.false) c.requires.passed in
    let passed = longer_passed c.args.view.now c.args.sights.now c.requires.sights c.args.front c.with-longer.result Before c.with-longer.ensures free in
    (omega (arith, l, within), (c.requires.few, (c.requires.sights, (short, (passed, c.requires.wide)))))

pub exclude_in-requires-then-any_stays_open : goal.exclude_in-requires-then-any_stays_open
exclude_in-requires-then-any_stays_open t c =
    let within = open_within c.args.view.now c.args.sights.now c.requires.sights c.args.front (c.any_stays_open.ensures.0 c.if-any_stays_open.true) in
    let l = ap length c.with-longer-then-any_stays_open.ensures ∙ length_push c.args.front Same in
    let short : length c.with-longer-then-any_stays_open.result ≤ length c.args.view.now.loops = omega (arith, l, within) in
    let free = passed_on c.args.view.now c.args.sights.now c.requires.sights c.args.front (not_held_by _ _ c.any_shuts.ensures c.if-any_shuts.false) c.requires.passed in
    let passed = longer_passed c.args.view.now c.args.sights.now c.requires.sights c.args.front c.with-longer-then-any_stays_open.result Same c.with-longer-then-any_stays_open.ensures free in
    (omega (arith, l, within), (c.requires.few, (c.requires.sights, (short, (passed, c.exclude_in.ensures.wide ∙ c.requires.wide)))))

pub exclude_in-requires-then-any_stays_open-2 : goal.exclude_in-requires-then-any_stays_open-2
exclude_in-requires-then-any_stays_open-2 t c =
    let within = open_within c.args.view.now c.args.sights.now c.requires.sights c.args.front (c.any_stays_open.ensures.0 c.if-any_stays_open.true) in
    let l = ap length c.with-longer-then-any_stays_open-2.ensures ∙ length_push c.args.front After in
    let short : length c.with-longer-then-any_stays_open-2.result ≤ length c.args.view.now.loops = omega (arith, l, within) in
    let free = passed_on c.args.view.now c.args.sights.now c.requires.sights c.args.front (not_held_by _ _ c.any_shuts.ensures c.if-any_shuts.false) c.requires.passed in
    let passed = longer_passed c.args.view.now c.args.sights.now c.requires.sights c.args.front c.with-longer-then-any_stays_open-2.result After c.with-longer-then-any_stays_open-2.ensures free in
    (omega (arith, l, within), (c.requires.few, (c.requires.sights, (short, (passed, c.exclude_in-then-any_stays_open.ensures.wide ∙ c.exclude_in.ensures.wide ∙ c.requires.wide)))))

pub returns-then-any_shuts : goal.returns-then-any_shuts
returns-then-any_shuts t c =
    let loops = ap (λ (v : View). length v.loops) c.view.view_is in
    let n : c.len.result ≡ length c.args.view.now.loops = grind (arith, common_steps) in
    shut_marked c.args.view.now c.args.sights.now c.requires.sights c.args.front c.len.result c.args.excluded.now c.mark_front.new.row n (c.any_shuts.ensures.0 c.if-any_shuts.true) c.mark_front.ensures

pub returns-then-any_stays_open : goal.returns-then-any_stays_open
returns-then-any_stays_open t c =
    let within = open_within c.args.view.now c.args.sights.now c.requires.sights c.args.front (c.any_stays_open.ensures.0 c.if-any_stays_open.true) in
    added_three (length c.args.view.now.loops) (OtherExcludes c.args.view.now) c.args.front c.with-longer.result c.with-longer-then-any_stays_open.result c.with-longer-then-any_stays_open-2.result
    c.args.excluded.now c.exclude_in.new.excluded c.exclude_in-then-any_stays_open.new.excluded c.exclude_in-then-any_stays_open-2.new.excluded
    (omega (arith, within)) c.with-longer.ensures c.with-longer-then-any_stays_open.ensures c.with-longer-then-any_stays_open-2.ensures c.exclude_in.ensures c.exclude_in-then-any_stays_open.ensures c.exclude_in-then-any_stays_open-2.ensures

pub returns-else-any_stays_open : goal.returns-else-any_stays_open
returns-else-any_stays_open t c =
    let free = passed_on c.args.view.now c.args.sights.now c.requires.sights c.args.front (not_held_by _ _ c.any_shuts.ensures c.if-any_shuts.false) c.requires.passed in
    closed_marked c.args.view.now c.args.sights.now c.requires.sights c.args.front c.requires.few (not_held_by _ _ c.any_stays_open.ensures c.if-any_stays_open.false) free c.args.excluded.now
