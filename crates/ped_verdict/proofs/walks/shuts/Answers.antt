use Rattle.ped_verdict.proofs.Asked.{read_pair, asked_front, shuts_told, unasked}
use Rattle.ped_verdict.proofs.walks.shuts.Goals as goal

pub is_shut-requires-clause-front : goal.is_shut-requires-clause-front
is_shut-requires-clause-front c =
    let same = read_pair c.args.view.now c.args.front.now c.args.sight.now c.requires.sight _ c.view.view_is c.view.invariant c.index-pair.result.now c.index-pair.ensures in
    asked_front c.args.view.now c.args.front.now c.args.sight.now c.requires.sight c.index-pair.result.now same c.is_asked.result c.len.result c.len.ensures c.is_asked.ensures c.if-is_asked.true

pub returns-then-is_asked : goal.returns-then-is_asked
returns-then-is_asked c =
    let same = read_pair c.args.view.now c.args.front.now c.args.sight.now c.requires.sight _ c.view.view_is c.view.invariant c.index-pair.result.now c.index-pair.ensures in
    shuts_told c.args.view.now c.args.front.now c.args.sight.now c.requires.sight c.index-pair.result.now same c.is_asked.result c.len.result c.len.ensures c.is_asked.ensures c.if-is_asked.true c.is_shut.result c.is_shut.ensures

pub returns : goal.returns
returns c =
    let same = read_pair c.args.view.now c.args.front.now c.args.sight.now c.requires.sight _ c.view.view_is c.view.invariant c.index-pair.result.now c.index-pair.ensures in
    unasked c.args.view.now c.args.front.now c.args.sight.now c.requires.sight c.index-pair.result.now same c.is_asked.result c.len.result c.len.ensures c.is_asked.ensures c.if-is_asked.false
