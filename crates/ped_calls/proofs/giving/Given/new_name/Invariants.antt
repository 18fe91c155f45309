use Rattle.std.proofs.Common.{◌≡◌, ◌≤◌, ◌<◌, ◌+◌, ℕ, true, length}
use Rattle.ped_base.specs.Lists.{is_among}
use Rattle.ped_links.specs.ped_units.specs.Expanding.{numbered_name, free_from, free_name}
use Rattle.ped_calls.proofs.giving.Given.new_name.Given as goal

abbrev pub invariant-loop-left : goal.invariant-loop-left
invariant-loop-left l = record {
  named : l.name ≡ numbered_name l.self.next;
  taken : l.self.taken ≡ l.initial.self.taken;
  arrays : l.self.arrays ≡ l.initial.self.arrays;
  first : 1 ≤ l.self.next;
  few : l.self.next + l.left ≡ length l.initial.self.taken + 1;
  before : (n : ℕ) → 1 ≤ n → n < l.self.next → is_among (numbered_name n) l.initial.self.taken ≡ true;
  free : free_from l.left l.initial.self.taken l.self.next ≡ free_name l.initial.self.taken;
}

abbrev pub decreases-loop-left : goal.decreases-loop-left
decreases-loop-left l = l.left
