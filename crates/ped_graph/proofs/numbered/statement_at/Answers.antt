use Rattle.std.proofs.Common.{◌≡◌, false, arith}
use Rattle.std.specs.Prelude.{◌==◌}
use Rattle.std.proofs.lemmas.Bool.Decides.{nat_tests}
use Rattle.ped_graph.proofs.NumberedStatements.{found_there, none_found_there}
use Rattle.ped_graph.proofs.numbered.statement_at.Goals as goal

pub returns-then-place-statements : goal.returns-then-place-statements
returns-then-place-statements c =
    let away = c.if-number-eq0.false in
    let some : (c.args.number == 0) ≡ false = grind (arith, nat_tests) in
    none_found_there c.args.statements.now c.args.number some c.if-place-statements.true

pub returns : goal.returns
returns c =
    let away = c.if-number-eq0.false in
    let some : (c.args.number == 0) ≡ false = grind (arith, nat_tests) in
    found_there c.args.statements.now c.args.number c.statement_there.result some c.statement_there.ensures
