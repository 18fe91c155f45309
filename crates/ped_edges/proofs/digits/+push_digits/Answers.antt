use Rattle.std.proofs.Common.{◌≤◌, ◌<◌, ◌^◌, rules, arith}
use Rattle.std.proofs.lemmas.Result.{on_ok_weaker}
use Rattle.ped_edges.proofs.DigitByDigit.{one_digit, last_digit}
use Rattle.ped_edges.proofs.digits.+push_digits.Goals as goal

pub returns-then-number-lt10 : goal.returns-then-number-lt10
returns-then-number-lt10 t c = on_ok_weaker c.push_digit.result (λ e. one_digit c.args.number c.args.out.now c.push_digit.new.out (omega arith) e) c.push_digit.ensures

pub returns : goal.returns
returns t c =
    let many : 10 ≤ c.args.number = omega arith in
    let small : c.args.number < 2 ^ 64 = search rules in
    on_ok_weaker c.push_digit-2.result (λ e. last_digit c.args.number c.args.out.now c.push_digits.new.out c.push_digit-2.new.out many small c.in_ok-push_digits.ensures e) c.push_digit-2.ensures
