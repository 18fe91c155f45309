use Rattle.std.proofs.Common.{◌≡◌, ◌∷◌, ◌+◌, drop, arith, sym, ap, ◌∙◌}
use Rattle.std.specs.List.{list_any}
use Rattle.std.proofs.lemmas.Grind.{common_steps}
use Rattle.ped_symbols.specs.NameRefusals.{uses_program}
use Rattle.ped_symbols.proofs.Anyone.{found_here, missed_here}
use Rattle.ped_symbols.proofs.sites.some_program.Goals as goal

pub returns-then-uses_program : goal.returns-then-uses_program
returns-then-uses_program c = λ d k.
    let i = c.loop-u.u-index in
    let all = c.args.uses.now in
    let first : drop i all ≡ c.u-item.result ∷ drop (i + 1) all = grind (arith, common_steps) in
    found_here (uses_program d) c.u-item.result (drop (i + 1) all) (list_any (uses_program d) all) (sym (c.uses_program.ensures d k) ∙ c.if-uses_program.true)
    (ap (list_any (uses_program d)) (sym first) ∙ c.loop-u.invariant d k)

pub loop-u-preserved : goal.loop-u-preserved
loop-u-preserved c = λ d k.
    let i = c.loop-u.u-index in
    let all = c.args.uses.now in
    let first : drop i all ≡ c.u-item.result ∷ drop (i + 1) all = grind (arith, common_steps) in
    missed_here (uses_program d) c.u-item.result (drop (i + 1) all) (list_any (uses_program d) all) (sym (c.uses_program.ensures d k) ∙ c.if-uses_program.false)
    (ap (list_any (uses_program d)) (sym first) ∙ c.loop-u.invariant d k)
