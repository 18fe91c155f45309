use Rattle.ped_links.proofs.ArrowsAdded.{on_err, same_end, one_end_more}
use Rattle.ped_links.proofs.reaching.add_end.Goals as goal

pub returns-in_err-push-clause-err : goal.returns-in_err-push-clause-err
returns-in_err-push-clause-err c = on_err c.from_residual.result _ (same_end c.args.ends.now c.args.from c.index-ends-from.result c.push.new.self c.requires c.in_err-push.ensures.items)

pub returns-clause-ok : goal.returns-clause-ok
returns-clause-ok c = one_end_more c.args.ends.now c.args.from c.args.to c.index-ends-from.result c.push.new.self c.requires c.in_ok-push.ensures.items
