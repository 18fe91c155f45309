use Rattle.ped_weaves.proofs.WeaveLaws.KnotRows.{knotted_append, blocks_append, knotted_rows, blocks_rows, in_row}
use Rattle.ped_weaves.proofs.weaves.woven_rows.Goals as goal

pub returns-clause-acts : goal.returns-clause-acts
returns-clause-acts c = knotted_rows

pub returns-clause-blocks : goal.returns-clause-blocks
returns-clause-blocks c = blocks_rows

pub returns-clause-among : goal.returns-clause-among
returns-clause-among c = in_row

pub returns-clause-joined : goal.returns-clause-joined
returns-clause-joined c = λ acts ks ls. (knotted_append acts ks ls, blocks_append acts ks ls)
