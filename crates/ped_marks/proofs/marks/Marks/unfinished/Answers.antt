-- The first place that isn't finished, by the last entry at or before the place.
use Rattle.std.proofs.Common.{◌≡◌, ℕ, ◌<◌, ◌≤◌, length, List, false, subst}
use Rattle.std.specs.Ordering.{nat_cmp}
use Rattle.std.specs.BTreeMap.{get}
use Rattle.ped_marks.specs.declared.marks.Mark.{Mark}
use Rattle.ped_marks.specs.declared.marks.Mark.TheVariants.{Done}
use Rattle.ped_marks.specs.Marks.{at, is_done}
use Rattle.ped_marks.proofs.Opening.{open_some, open_none}
use Rattle.ped_marks.proofs.marks.Marks.unfinished.Goals as goal

pub returns-then-first-self : goal.returns-then-first-self
returns-then-first-self c =
    let first = c.first_open-first.result in
    subst (λ (ms : List Mark). (c.args.place ≤ first) × (first < length ms) × (is_done (at ms first) ≡ false) × ((k : ℕ) → c.args.place ≤ k → k < first → at ms k ≡ Done)) c.self.view_is
    (open_some c.self.inside.count (get nat_cmp c.self.inside.map) c.self.invariant c.args.place first c.last_up_to.result c.last_up_to.ensures c.first_open-first.ensures c.if-first-self.true)

pub returns-else-first-self : goal.returns-else-first-self
returns-else-first-self c =
    subst (λ (ms : List Mark). (k : ℕ) → c.args.place ≤ k → k < length ms → at ms k ≡ Done) c.self.view_is
    (open_none c.self.inside.count (get nat_cmp c.self.inside.map) c.self.invariant c.args.place c.first_open-first.result c.last_up_to.result c.last_up_to.ensures c.first_open-first.ensures c.if-first-self.false)
