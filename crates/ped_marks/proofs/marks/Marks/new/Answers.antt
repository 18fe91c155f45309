-- All places wait where there is no entry.
use Rattle.std.proofs.Common.{ap, None}
use Rattle.std.specs.Ordering.{nat_cmp}
use Rattle.std.specs.BTreeMap.{get, is_at}
use Rattle.std.specs.Map.{lookup}
use Rattle.ped_marks.specs.Stretches.{mark_at}
use Rattle.ped_marks.proofs.Covering.{by_last}
use Rattle.ped_marks.proofs.Values.{length-values, all_waiting}
use Rattle.ped_marks.proofs.marks.Marks.new.Goals as goal

pub returns-clause-count : goal.returns-clause-count
returns-clause-count c = length-values (mark_at (get nat_cmp c.new.result)) c.args.count

pub returns-clause-waits : goal.returns-clause-waits
returns-clause-waits c =
    all_waiting (mark_at (get nat_cmp c.new.result)) c.args.count
    (λ k. by_last (get nat_cmp c.new.result) k k None (λ other h. ap (lookup (is_at (nat_cmp other))) c.new.ensures.empty))
