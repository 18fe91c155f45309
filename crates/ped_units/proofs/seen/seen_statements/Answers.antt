use Rattle.std.proofs.Common.{rules, ◌≡◌, ◌+◌, ◌∷◌, ◌++◌, ◌<◌, [], List, Option, map, length, drop, ap, sym, ◌∙◌, arith}
use Rattle.std.proofs.lemmas.Grind.{common_steps}
use Rattle.std.proofs.lemmas.List.{nil_from_length}
use Rattle.std.specs.Vec.Iter.{into_iter_items}
use Rattle.ped_tree.specs.Grammar.ItemViews.{entry_of}
use Rattle.ped_tree.specs.declared.grammar.items.Entry.{Entry}
use Rattle.ped_units.specs.declared.items.Called.{Called}
use Rattle.ped_units.specs.Reading.{is_end_next, as_entries, stand_in}
use Rattle.ped_units.specs.Seeing.{ends_next, call_view, calls_in_entries}
use Rattle.ped_units.specs.Views.{unit_entry_of}
use Rattle.ped_units.specs.declared.items.UnitEntry as items
use Rattle.ped_units.proofs.SeenBefore.{left_below, ends_more, seen_more, calls_more, all_seen, all_calls}
use Rattle.ped_units.proofs.seen.seen_statements.Goals as goal

pub loop-entry-init : goal.loop-entry-init
loop-entry-init c =
    let all : into_iter_items c.into_iter-entry-iterator.result ≡ c.args.entries.items = search rules in
    record {
      entries = ap (λ (xs : List Entry). map entry_of xs ++ as_entries stand_in c.args.in_subroutine (map unit_entry_of (into_iter_items c.into_iter-entry-iterator.result))) c.new.ensures.items ∙ ap (λ (es : List items.UnitEntry). as_entries stand_in c.args.in_subroutine (map unit_entry_of es)) all;
      calls = ap (λ (xs : List (Option Called)). map call_view xs ++ calls_in_entries (map unit_entry_of (into_iter_items c.into_iter-entry-iterator.result))) c.new-2.ensures.items ∙ ap (λ (es : List items.UnitEntry). calls_in_entries (map unit_entry_of es)) all;
      ends = c.in_ok-before_end.ensures ∙ ap (λ (es : List items.UnitEntry). ends_next (map unit_entry_of es)) (c.deref.ensures.value ∙ sym all);
    }

pub index-requires : goal.index-requires
index-requires c =
    let rest = map unit_entry_of (into_iter_items c.next.new.self) in
    let below = left_below c.loop-entry.place c.in_ok-before_end.before_end.items (is_end_next rest) (ends_next rest) (c.loop-entry.invariant.ends ∙ ap (λ (es : List items.UnitEntry). ends_next (map unit_entry_of es)) c.in-Some.ensures.steps.0) in
    let long = c.in_ok-before_end.before_end.ok.0 in
    omega (arith, below, long)

pub loop-entry-preserved : goal.loop-entry-preserved
loop-entry-preserved c =
    let e = unit_entry_of c.in-Some.entry in
    let bs = c.in_ok-before_end.before_end.items in
    let place = c.loop-entry.place in
    let left = map unit_entry_of (into_iter_items c.loop-entry.entry-iterator) in
    let rest = map unit_entry_of (into_iter_items c.next.new.self) in
    let is : left ≡ e ∷ rest = ap (map unit_entry_of) c.in-Some.ensures.steps.0 in
    let below : place < length bs = left_below place bs (is_end_next rest) (ends_next rest) (c.loop-entry.invariant.ends ∙ ap ends_next is) in
    let first : drop place bs ≡ c.index.result.now ∷ drop (place + 1) bs = grind (arith, common_steps, below) in
    record {
      entries = seen_more c.args.in_subroutine (map entry_of c.loop-entry.seen.entries.items) (as_entries stand_in c.args.in_subroutine (map unit_entry_of c.args.entries.items)) (map entry_of c.add.new.self.entries.items) bs place c.index.result.now e left rest
          c.loop-entry.invariant.entries c.loop-entry.invariant.ends is first c.in_ok-add.ensures.entries;
      calls = calls_more (map call_view c.loop-entry.seen.calls.items) (calls_in_entries (map unit_entry_of c.args.entries.items)) (map call_view c.add.new.self.calls.items) e left rest c.loop-entry.invariant.calls is c.in_ok-add.ensures.calls;
      ends = ends_more bs place c.index.result.now e left rest c.loop-entry.invariant.ends is first;
    }

pub returns : goal.returns
returns c =
    let at = c.loop-entry in
    let none : into_iter_items at.entry-iterator ≡ [] = nil_from_length _ (omega (arith, c.in-None.ensures.steps.0, at.entry-iterator.rest.ok.0)) in
    let left = map unit_entry_of (into_iter_items at.entry-iterator) in
    record {
      entries = all_seen c.args.in_subroutine (map entry_of at.seen.entries.items) _ left at.invariant.entries (ap (map unit_entry_of) none);
      calls = all_calls (map call_view at.seen.calls.items) _ left at.invariant.calls (ap (map unit_entry_of) none);
    }
