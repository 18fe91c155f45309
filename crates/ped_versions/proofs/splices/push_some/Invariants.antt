use Rattle.std.proofs.Common.{◌≡◌, ◌-◌, ◌++◌, take, drop}
use Rattle.ped_versions.specs.Splices.{text_of_lines}
use Rattle.ped_versions.proofs.splices.push_some.Given as goal

abbrev pub invariant-loop : goal.invariant-loop
invariant-loop l = record {
  added : l.all ++ text_of_lines (take (l.count - l.counter) l.lines.lines) ≡ l.fn.all ++ text_of_lines (take l.count l.fn.lines.lines);
  left : drop (l.count - l.counter) l.lines.lines ≡ drop l.count l.fn.lines.lines;
}
