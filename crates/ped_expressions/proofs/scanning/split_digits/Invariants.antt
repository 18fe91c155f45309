use Rattle.std.proofs.Common.{◌≡◌, ◌++◌, take, drop}
use Rattle.ped_base.specs.Letters.{is_digit}
use Rattle.ped_expressions.specs.Scanning.{front, behind}
use Rattle.ped_expressions.proofs.scanning.split_digits.Given as goal

abbrev pub invariant-loop-i : goal.invariant-loop-i
invariant-loop-i l = record {
  front : take l.i l.text ++ front is_digit (drop l.i l.text) ≡ front is_digit l.text;
  behind : behind is_digit (drop l.i l.text) ≡ behind is_digit l.text;
}
