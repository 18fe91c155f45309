use Rattle.ped_verdict.proofs.Asked.{read_pair, open_told, read_fits, read_sight}
use Rattle.ped_verdict.proofs.walks.stays_open.Goals as goal

pub returns : goal.returns
returns c =
    let same = read_pair c.args.view.now c.args.front.now c.args.sight.now c.requires _ c.view.view_is c.view.invariant c.index-pair.result.now c.index-pair.ensures in
    open_told c.args.view.now c.args.front.now c.args.sight.now c.requires c.index-pair.result.now same c.is_open.result c.is_open.ensures
