-- What the marks are once the place's entry has become a stretch.
use Rattle.std.proofs.Common.{◌≡◌, ◌<◌, ◌+◌, ◌^◌, ℕ, arith, Option, Some, length, List, if◌then◌else◌, eqb, refl, sym, ap, ◌∙◌}
use Rattle.std.specs.Ordering.{nat_cmp}
use Rattle.std.specs.BTreeMap.{get}
use Rattle.ped_marks.specs.declared.marks.Mark.{Mark}
use Rattle.ped_marks.specs.declared.marks.Mark.TheVariants as mark
use Rattle.ped_marks.specs.declared.stretches.Stretch.{Stretch}
use Rattle.ped_marks.specs.declared.stretches.Stretch.TheVariants.{Running}
use Rattle.ped_marks.specs.Marks.{at, is_running}
use Rattle.ped_marks.specs.Stretches.{mark_at, values}
use Rattle.ped_marks.proofs.Finishing.{running_entry, IsEnd, ends_by, Joins, joins, stands, finished_laid_out, finished}
use Rattle.ped_marks.proofs.Values.{length-values, value_is, another_at, inside}
use Rattle.ped_marks.proofs.marks.Marks.finish.Goals as goal

-- a place of a loop isn't the last number
in_range : (count place : ℕ) (ms : List Mark) (f : ℕ → Mark) → values f count ≡ ms → place < length ms → count < 2 ^ 64 → place + 1 < 2 ^ 64
in_range count place ms f e h small = let below = inside f count place ms e h in omega arith

pub overflow_add-place : goal.overflow_add-place
overflow_add-place c = record { fits = in_range c.self.inside.count c.args.place c.args.self.now (mark_at (get nat_cmp c.self.inside.map)) c.self.view_is c.requires.place c.self.ranges.1.0.1 }

pub overflow_add-place-2 : goal.overflow_add-place-2
overflow_add-place-2 c = record { fits = in_range c.self.inside.count c.args.place c.args.self.now (mark_at (get nat_cmp c.self.inside.map)) c.self.view_is c.requires.place c.self.ranges.1.0.1 }

pub replace-requires : goal.replace-requires
replace-requires c =
    let g = get nat_cmp c.self.inside.map in
    let run = running_entry g c.args.place (ap is_running (value_is (mark_at g) c.self.inside.count c.args.place c.args.self.now c.self.view_is c.requires.place) ∙ c.requires.running) in
    stands c.self.inside.count c.args.place run.0 c.start_up_to-start.result c.end_from-end.result g c.self.invariant run.1 c.start_up_to-start.ensures
    (ends_by g (c.args.place + 1) c.end_from-end.result (g (c.args.place + 1)) refl c.end_from-end.ensures)
    (get nat_cmp c.take_out.new.map) (get nat_cmp c.take_out-2.new.map) c.take_out.ensures c.take_out-2.ensures

abbrev g_of : goal.After-replace → ℕ → Option Stretch
g_of c = get nat_cmp c.self.inside.map

abbrev h_of : goal.After-replace → ℕ → Option Stretch
h_of c = get nat_cmp c.replace.new.map

below : (c : goal.After-replace) → c.args.place < c.self.inside.count
below c = inside (mark_at (g_of c)) c.self.inside.count c.args.place c.args.self.now c.self.view_is c.requires.place

run : (c : goal.After-replace) → (key : ℕ) × (g_of c c.args.place ≡ Some (Running key))
run c = running_entry (g_of c) c.args.place (ap is_running (value_is (mark_at (g_of c)) c.self.inside.count c.args.place c.args.self.now c.self.view_is c.requires.place) ∙ c.requires.running)

ends : (c : goal.After-replace) → IsEnd (g_of c) (c.args.place + 1) c.end_from-end.result
ends c = ends_by (g_of c) (c.args.place + 1) c.end_from-end.result (g_of c (c.args.place + 1)) refl c.end_from-end.ensures

joined : (c : goal.After-replace) → Joins c.self.inside.count c.args.place (run c).0 c.start_up_to-start.result c.end_from-end.result (g_of c) c.self.invariant (run c).1 c.start_up_to-start.ensures (ends c) (h_of c)
joined c =
    joins c.self.inside.count c.args.place (run c).0 c.start_up_to-start.result c.end_from-end.result (g_of c) c.self.invariant (run c).1 c.start_up_to-start.ensures (ends c)
    (get nat_cmp c.take_out.new.map) (get nat_cmp c.take_out-2.new.map) c.take_out.ensures c.take_out-2.ensures (h_of c) c.replace.ensures

pub invariant_of-self : goal.invariant_of-self
invariant_of-self c =
    finished_laid_out c.self.inside.count c.args.place (run c).0 c.start_up_to-start.result c.end_from-end.result (g_of c) c.self.invariant (run c).1 c.start_up_to-start.ensures (ends c) (h_of c) (joined c)

pub returns-clause-count : goal.returns-clause-count
returns-clause-count c = length-values (mark_at (h_of c)) c.self.inside.count ∙ sym (length-values (mark_at (g_of c)) c.self.inside.count) ∙ ap length c.self.view_is

pub returns-clause-at : goal.returns-clause-at
returns-clause-at c k =
    another_at (mark_at (h_of c)) (mark_at (g_of c)) c.self.inside.count c.args.place mark.Done (below c)
    (finished c.self.inside.count c.args.place (run c).0 c.start_up_to-start.result c.end_from-end.result (g_of c) c.self.invariant (run c).1 c.start_up_to-start.ensures (ends c) (h_of c) (joined c)) k
    ∙ ap (λ (ms : List Mark). if eqb k c.args.place then mark.Done else at ms k) c.self.view_is
