use Rattle.std.proofs.Common.{◌≡◌, [], ◌∷◌, ◌++◌, ◌+◌, take, drop, arith, sym, subst, ap, ◌∙◌, append_assoc}
use Rattle.std.specs.Prelude.{◌||◌}
use Rattle.std.proofs.lemmas.Grind.{common_steps}
use Rattle.ped_symbols.specs.NameRefusals.{declares_again}
use Rattle.ped_symbols.specs.Passes.{HasSeen}
use Rattle.ped_symbols.proofs.Repeats.{again_more}
use Rattle.ped_symbols.proofs.repeating.Seen.see_all.Goals as goal

pub loop-u-preserved : goal.loop-u-preserved
loop-u-preserved c = λ before h.
    let i = c.loop-u.u-index in
    let all = c.args.uses.now in
    let u = c.u-item.result in
    let first : drop i all ≡ u ∷ drop (i + 1) all = grind (arith, common_steps) in
    let front : take (i + 1) all ≡ take i all ++ u ∷ [] = grind (arith, common_steps) in
    let on : before ++ take (i + 1) all ≡ (before ++ take i all) ++ u ∷ [] = ap (λ t. before ++ t) front ∙ sym (append_assoc before (take i all) (u ∷ [])) in
    let was = c.loop-u.invariant before h in (
      subst (HasSeen c.see.new.self) (sym on) (c.in_ok-see.ensures (before ++ take i all) was.0),
      ap (λ r. r || declares_again (before ++ take (i + 1) all) (drop (i + 1) all)) c.either-again.ensures
          ∙ again_more c.loop-u.again c.has.result (declares_again before all) (before ++ take i all) (before ++ take (i + 1) all) u (drop (i + 1) all)
          (ap (λ us. c.loop-u.again || declares_again (before ++ take i all) us) (sym first) ∙ was.1) on (c.has.ensures (before ++ take i all) was.0),
    )

pub returns-clause-seen : goal.returns-clause-seen
returns-clause-seen c = λ before h.
    let all = c.args.uses.now in
    let whole : take c.loop-u.u-index all ≡ all = grind (arith, common_steps) in
    subst (λ us. HasSeen c.loop-u.self (before ++ us)) whole (c.loop-u.invariant before h).0
