use Rattle.std.proofs.Common.{◌<◌, ◌≤◌, ◌∙◌, ℕ, sym, ap, subst, [], drop, length, false, Option}
use Rattle.std.specs.Option.{option_map_or, IfSome}
use Rattle.ped_certificates.specs.Certificates.{close}
use Rattle.ped_certificates.proofs.Stepping.{system_begins, ended_at}
use Rattle.ped_certificates.proofs.checking.refutes.Goals as goal

pub returns-in-Some : goal.returns-in-Some
returns-in-Some c =
    let n = c.args.system.now.unknowns in
    let steps = c.args.steps.now in
    let later = subst (λ (o : Option ℕ). IfSome o (λ k. (0 < k) × (k ≤ length steps))) c.in-Some.is c.in_ok-next.ensures.later in
    sym (ended_at n c.in-Some.next steps later.1)
    ∙ ap (λ (o : Option ℕ). option_map_or (λ k. close n [] (drop k steps)) o false) (sym c.in-Some.is)
    ∙ sym (c.in_ok-next.ensures.closes [])
    ∙ system_begins c.args.system.now c.new-added.result.items steps c.new-added.ensures.items

pub returns : goal.returns
returns c =
    let n = c.args.system.now.unknowns in
    let steps = c.args.steps.now in
    ap (λ (o : Option ℕ). option_map_or (λ k. close n [] (drop k steps)) o false) (sym c.in-None.is)
    ∙ sym (c.in_ok-next.ensures.closes [])
    ∙ system_begins c.args.system.now c.new-added.result.items steps c.new-added.ensures.items
