use Rattle.std.proofs.Common.{rules}
use Rattle.std.proofs.lemmas.List.{take_min, take_rest}
use Rattle.ped_print.proofs.lines.piece.Goals as goal

pub returns : goal.returns
returns c = search (rules, take_min, take_rest)
