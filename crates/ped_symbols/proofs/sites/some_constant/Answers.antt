use Rattle.std.proofs.Common.{◌≡◌, ◌∷◌, ◌+◌, drop, arith, sym, ap, ◌∙◌}
use Rattle.std.specs.List.{list_any}
use Rattle.std.proofs.lemmas.Grind.{common_steps}
use Rattle.ped_symbols.specs.NameRefusals.{uses_constant}
use Rattle.ped_symbols.proofs.Anyone.{found_here, missed_here}
use Rattle.ped_symbols.proofs.sites.some_constant.Goals as goal

pub returns-then-uses_constant : goal.returns-then-uses_constant
returns-then-uses_constant c = λ d k.
    let i = c.loop-u.u-index in
    let all = c.args.uses.now in
    let first : drop i all ≡ c.u-item.result ∷ drop (i + 1) all = grind (arith, common_steps) in
    found_here (uses_constant d) c.u-item.result (drop (i + 1) all) (list_any (uses_constant d) all) (sym (c.uses_constant.ensures d k) ∙ c.if-uses_constant.true)
    (ap (list_any (uses_constant d)) (sym first) ∙ c.loop-u.invariant d k)

pub loop-u-preserved : goal.loop-u-preserved
loop-u-preserved c = λ d k.
    let i = c.loop-u.u-index in
    let all = c.args.uses.now in
    let first : drop i all ≡ c.u-item.result ∷ drop (i + 1) all = grind (arith, common_steps) in
    missed_here (uses_constant d) c.u-item.result (drop (i + 1) all) (list_any (uses_constant d) all) (sym (c.uses_constant.ensures d k) ∙ c.if-uses_constant.false)
    (ap (list_any (uses_constant d)) (sym first) ∙ c.loop-u.invariant d k)
