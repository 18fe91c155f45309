use Rattle.std.proofs.Common.{◌≤◌, ◌↔◌, IsTrue, List, length, subst, arith}
use Rattle.ped_views.specs.declared.directions.Direction.{Direction}
use Rattle.ped_views.specs.Excluded.{HasNoSolution, IsBeyondExtremes}
use Rattle.ped_verdict.proofs.Walked.{beyond_tells, gcd_tells, none_tells}
use Rattle.ped_verdict.proofs.sights.is_shut_by.Goals as goal

pub returns-then-sums_exclude : goal.returns-then-sums_exclude
returns-then-sums_exclude c =
    let sums = subst (λ (ds : List Direction). IsTrue c.sums_exclude.result ↔ IsBeyondExtremes c.args.view.now c.args.pair.now ds) c.directions.ensures.value c.sums_exclude.ensures in
    beyond_tells c.args.view.now c.args.pair.now c.args.sight.now.stage c.args.front.now (sums.0 c.if-sums_exclude.true)

pub returns-then-asks_gcd : goal.returns-then-asks_gcd
returns-then-asks_gcd c =
    gcd_tells c.args.view.now c.args.pair.now c.args.sight.now.stage c.args.front.now c.sums_exclude.result
    (subst (λ (ds : List Direction). IsTrue c.sums_exclude.result ↔ IsBeyondExtremes c.args.view.now c.args.pair.now ds) c.directions.ensures.value c.sums_exclude.ensures) c.if-sums_exclude.false c.gcd_excludes.result
    (subst (λ (ds : List Direction). IsTrue c.gcd_excludes.result ↔ HasNoSolution c.args.pair.now ds) c.directions-then-asks_gcd.ensures.value c.gcd_excludes.ensures) (c.asks_gcd.ensures.0 c.if-asks_gcd.true).0

pub returns : goal.returns
returns c =
    let few = c.requires.few in
    let deep = c.requires.sight.deep in
    let within = c.requires.front in
    let short : length c.args.front.now ≤ 6 = omega arith in
    none_tells c.args.view.now c.args.pair.now c.args.sight.now.stage c.args.front.now c.sums_exclude.result
    (subst (λ (ds : List Direction). IsTrue c.sums_exclude.result ↔ IsBeyondExtremes c.args.view.now c.args.pair.now ds) c.directions.ensures.value c.sums_exclude.ensures) c.if-sums_exclude.false
    c.asks_gcd.result c.args.sight.now.is_solved c.asks_gcd.ensures c.if-asks_gcd.false (λ solved. c.requires.sight.solved solved c.args.front.now short)
