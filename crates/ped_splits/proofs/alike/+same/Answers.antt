use Rattle.ped_splits.proofs.SameTrees.{other_lengths}
use Rattle.ped_splits.proofs.alike.+same.Goals as goal

pub are_same_exprs-returns-then-all-others : goal.are_same_exprs-returns-then-all-others
are_same_exprs-returns-then-all-others t c = other_lengths c.args.all.now c.args.others.now (λ e. c.if-all-others.true e)
