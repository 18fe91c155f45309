-- What the marks are with another entry.
use Rattle.std.proofs.Common.{◌≡◌, ◌<◌, ℕ, arith, Some, length, List, if◌then◌else◌, eqb, sym, ap, ◌∙◌}
use Rattle.std.proofs.lemmas.Grind.{common_steps}
use Rattle.std.specs.Ordering.{nat_cmp}
use Rattle.std.specs.BTreeMap.{get}
use Rattle.ped_marks.specs.declared.marks.Mark.{Mark}
use Rattle.ped_marks.specs.declared.marks.Mark.TheVariants as mark
use Rattle.ped_marks.specs.declared.stretches.Stretch.TheVariants.{Running}
use Rattle.ped_marks.specs.Marks.{at}
use Rattle.ped_marks.specs.Stretches.{mark_at, with_entry}
use Rattle.ped_marks.proofs.Starting.{started_laid_out, started}
use Rattle.ped_marks.proofs.Values as values
use Rattle.ped_marks.proofs.Values.{length-values, value_is, another_at}
use Rattle.ped_marks.proofs.marks.Marks.start.Goals as goal

inside : (c : goal.In_ok-insert) → c.args.place < c.self.inside.count
inside c = values.inside (mark_at (get nat_cmp c.self.inside.map)) c.self.inside.count c.args.place c.args.self.now c.self.view_is c.requires.place

waits : (c : goal.In_ok-insert) → mark_at (get nat_cmp c.self.inside.map) c.args.place ≡ mark.Waits
waits c = value_is (mark_at (get nat_cmp c.self.inside.map)) c.self.inside.count c.args.place c.args.self.now c.self.view_is c.requires.place ∙ c.requires.waits

put : (c : goal.In_ok-insert) (k : ℕ) → get nat_cmp c.insert.new.self k ≡ with_entry (get nat_cmp c.self.inside.map) c.args.place (Some (Running c.args.key)) k
put c k = grind (arith, common_steps, c.in_ok-insert.ensures.updates)

pub invariant_of-self-2 : goal.invariant_of-self-2
invariant_of-self-2 c = started_laid_out c.self.inside.count c.args.place c.args.key (get nat_cmp c.self.inside.map) (get nat_cmp c.insert.new.self) c.self.invariant (inside c) (waits c) (put c)

pub returns-clause-count : goal.returns-clause-count
returns-clause-count c =
    length-values (mark_at (get nat_cmp c.insert.new.self)) c.self.inside.count
    ∙ sym (length-values (mark_at (get nat_cmp c.self.inside.map)) c.self.inside.count)
    ∙ ap length c.self.view_is

pub returns-clause-ok : goal.returns-clause-ok
returns-clause-ok c k =
    another_at (mark_at (get nat_cmp c.insert.new.self)) (mark_at (get nat_cmp c.self.inside.map)) c.self.inside.count c.args.place (mark.Running c.args.key) (inside c)
    (started c.self.inside.count c.args.place c.args.key (get nat_cmp c.self.inside.map) (get nat_cmp c.insert.new.self) c.self.invariant (inside c) (waits c) (put c)) k
    ∙ ap (λ (ms : List Mark). if eqb k c.args.place then mark.Running c.args.key else at ms k) c.self.view_is
