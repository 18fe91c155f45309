use Rattle.std.proofs.Common.{◌≡◌, ap, ◌∙◌, arith, rules, pos}
use Rattle.std.specs.Fmt.{signed_decimal}
use Rattle.std.proofs.lemmas.Fmt.{decimal_digit}
use Rattle.ped_edges.proofs.rows.digit.Goals as goal

pub returns-then-distance-eq0 : goal.returns-then-distance-eq0
returns-then-distance-eq0 c = let zero : c.args.distance ≡ pos 0 = search rules in ap signed_decimal zero ∙ decimal_digit 0 (omega arith)

pub returns-then-distance-eq1 : goal.returns-then-distance-eq1
returns-then-distance-eq1 c = let one : c.args.distance ≡ pos 1 = search rules in ap signed_decimal one ∙ decimal_digit 1 (omega arith)
