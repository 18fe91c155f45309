use Rattle.std.proofs.Common.{◌≡◌, ℕ, ◌+◌, ◌<◌, ◌∷◌, List, true, false, sym, ap, ◌∙◌, arith}
use Rattle.ped_tree.specs.Views.{program_tree}
use Rattle.ped_rules.specs.Fresh.{occurs, most_numbered}
use Rattle.ped_rules.proofs.FreshNames.{most_is}
use Rattle.ped_reduce.specs.CodeLowering.{fresh_from}
use Rattle.ped_reduce.proofs.FreshArrays.{numbered, taken, free, no_more}
use Rattle.ped_reduce.proofs.partials.fresh_array.Goals as goal

pub returns-then-not-occurs : goal.returns-then-not-occurs
returns-then-not-occurs c =
    let t = program_tree c.args.program.now in
    let n = c.loop-next.next in
    let m = most_is in
    let small : n < most_numbered + 1 = omega (arith, m, c.loop-next-test.true) in
    let unused : occurs t (numbered n) ≡ false = ap (occurs t) (sym c.in_ok-name.ensures) ∙ sym c.occurs.ensures ∙ c.if-not-occurs.true in
    sym c.loop-next.invariant ∙ free t n small unused ∙ ap (λ (x : List ℕ). x ∷ fresh_from t (n + 1)) (sym c.in_ok-name.ensures)

pub loop-next-preserved : goal.loop-next-preserved
loop-next-preserved c =
    let t = program_tree c.args.program.now in
    let n = c.loop-next.next in
    let m = most_is in
    let small : n < most_numbered + 1 = omega (arith, m, c.loop-next-test.true) in
    let used : occurs t (numbered n) ≡ true = ap (occurs t) (sym c.in_ok-name.ensures) ∙ sym c.occurs.ensures ∙ c.if-not-occurs.false in
    sym (taken t n small used) ∙ c.loop-next.invariant

pub returns : goal.returns
returns c =
    let t = program_tree c.args.program.now in
    let m = most_is in
    sym c.loop-next.invariant ∙ no_more t c.loop-next.next (omega (arith, m, c.loop-next-test.false))

pub loop-next-smaller : goal.loop-next-smaller
loop-next-smaller c =
    let m = most_is in
    omega (arith, m, c.loop-next-test.true)
