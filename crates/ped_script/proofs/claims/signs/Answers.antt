use Rattle.std.proofs.Common.{◌≡◌, true, eqb, ◌∙◌, arith}
use Rattle.ped_script.proofs.Signs.{before_signs, next_signs}
use Rattle.ped_script.proofs.claims.signs.Goals as goal

pub loop-sign-init : goal.loop-sign-init
loop-sign-init c = before_signs c.new-signs.result c.args.text.now c.new-signs.ensures

pub loop-sign-preserved : goal.loop-sign-preserved
loop-sign-preserved c =
    let comma : eqb c.in-Some.next 44 ≡ true = grind (arith, c.if-next-ne44.false) in
    next_signs c.loop-sign.signs c.push.new.self c.loop-sign.left.now c.in-Some.rest.now c.in-Some.sign c.in-Some.next c.in-Some.ensures.sign comma c.in_ok-push.ensures.ok ∙ c.loop-sign.invariant
