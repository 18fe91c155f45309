use Rattle.std.proofs.Common.{arith}
use Rattle.std.proofs.lemmas.Nat.{mul-le}
use Rattle.ped_verdict.proofs.fronts.first_place.Goals as goal

pub overflow_mul-result : goal.overflow_mul-result
overflow_mul-result c = let b = c.requires.behind in let f = c.requires.front in let m = mul-le c.args.front c.args.behind 729 729 (omega arith) (omega arith) in omega arith

pub returns-clause-small : goal.returns-clause-small
returns-clause-small c = let b = c.requires.behind in let f = c.requires.front in let m = mul-le c.args.front c.args.behind 729 729 (omega arith) (omega arith) in omega arith
