use Rattle.std.proofs.Common.{◌≡◌, ap, length, arith}
use Rattle.std.proofs.lemmas.Grind.{common_steps}
use Rattle.ped_views.specs.Views.{View}
use Rattle.ped_verdict.proofs.Answering.{ziv_added, ziv_none}
use Rattle.ped_verdict.proofs.exclusion.exclude_ziv.Goals as goal

pub returns-then-ziv : goal.returns-then-ziv
returns-then-ziv c =
    let loops = ap (λ (v : View). length v.loops) c.view.view_is in
    let n : c.len.result ≡ length c.args.view.now.loops = grind (arith, common_steps) in
    ziv_added c.args.view.now c.args.pair.now c.requires.usable c.requires.form c.len.result c.empty.result c.ziv.result c.args.excluded.now c.mark_front.new.row n c.empty.ensures c.ziv.ensures c.if-ziv.true c.mark_front.ensures

pub returns-else-ziv : goal.returns-else-ziv
returns-else-ziv c = ziv_none c.args.view.now c.args.pair.now c.requires.usable c.requires.form c.ziv.result c.args.excluded.now c.ziv.ensures c.if-ziv.false
