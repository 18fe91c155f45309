use Rattle.std.proofs.Common.{◌≡◌, ◌∷◌, ◌+◌, drop, arith, sym, ap, ◌∙◌}
use Rattle.std.specs.List.{list_any}
use Rattle.std.proofs.lemmas.Grind.{common_steps}
use Rattle.ped_symbols.specs.NameRefusals.{uses_other_rank}
use Rattle.ped_symbols.proofs.Anyone.{found_here, missed_here}
use Rattle.ped_symbols.proofs.sites.some_other_rank.Goals as goal

pub returns-then-uses_other_rank : goal.returns-then-uses_other_rank
returns-then-uses_other_rank c = λ d k.
    let i = c.loop-u.u-index in
    let all = c.args.uses.now in
    let first : drop i all ≡ c.u-item.result ∷ drop (i + 1) all = grind (arith, common_steps) in
    found_here (uses_other_rank d) c.u-item.result (drop (i + 1) all) (list_any (uses_other_rank d) all) (sym (c.uses_other_rank.ensures d k) ∙ c.if-uses_other_rank.true)
    (ap (list_any (uses_other_rank d)) (sym first) ∙ c.loop-u.invariant d k)

pub loop-u-preserved : goal.loop-u-preserved
loop-u-preserved c = λ d k.
    let i = c.loop-u.u-index in
    let all = c.args.uses.now in
    let first : drop i all ≡ c.u-item.result ∷ drop (i + 1) all = grind (arith, common_steps) in
    missed_here (uses_other_rank d) c.u-item.result (drop (i + 1) all) (list_any (uses_other_rank d) all) (sym (c.uses_other_rank.ensures d k) ∙ c.if-uses_other_rank.false)
    (ap (list_any (uses_other_rank d)) (sym first) ∙ c.loop-u.invariant d k)
