use Rattle.std.proofs.Common.{rules, ◌≡◌, ℕ, ◌++◌, ◌+◌, ◌∷◌, [], List, map, length, length-append, drop, ap, ◌∙◌, arith}
use Rattle.std.proofs.lemmas.List.{map_push, nil_from_length}
use Rattle.std.specs.Prelude.{Option}
use Rattle.std.specs.Vec.Iter.{into_iter_items}
use Rattle.ped_tree.specs.Grammar.ItemViews.{entry_of}
use Rattle.ped_tree.specs.declared.grammar.items.Entry.{Entry}
use Rattle.ped_units.specs.Units.{call_statement}
use Rattle.ped_units.specs.Reading.{as_entries}
use Rattle.ped_units.specs.Seeing.{call_view}
use Rattle.ped_units.specs.declared.items.Called.{Called}
use Rattle.ped_units.proofs.KeptCalls.{kept_more, all_kept, behind_first}
use Rattle.ped_units.proofs.seen.Seen.kept.Goals as goal

pub loop-entry-init : goal.loop-entry-init
loop-entry-init c in_subroutine es seen =
    let all : into_iter_items c.into_iter-entry-iterator.result ≡ c.args.self.entries.items = search rules in
    record {
      rest = es;
      seen = ap (map entry_of) all ∙ seen.entries;
      are = ap (λ (n : ℕ). map call_view (drop n c.args.self.calls.items)) (ap (λ (xs : List Entry). length xs) c.new-kept.ensures.items) ∙ seen.calls;
      whole = ap (λ (xs : List Entry). map entry_of xs ++ as_entries call_statement in_subroutine es) c.new-kept.ensures.items;
    }

pub loop-entry-preserved : goal.loop-entry-preserved
loop-entry-preserved c in_subroutine es seen =
    let calls = c.args.self.calls.items in
    let place = length c.loop-entry.kept.items in
    let is : c.len-place.result ≡ place = let has = c.len-place.ensures in let long = c.loop-entry.kept.ok.0 in omega (arith, has, long) in
    let more : length c.push.new.self.items ≡ place + 1 = let both = length-append c.loop-entry.kept.items (c.in_ok-with_call_at.field-0 ∷ []) in ap length c.in_ok-push.ensures.items ∙ omega (arith, both) in
    kept_more in_subroutine es (map entry_of c.loop-entry.kept.items) (map entry_of c.push.new.self.items) (map entry_of (into_iter_items c.loop-entry.entry-iterator)) (map entry_of (into_iter_items c.next.new.self)) (entry_of c.in-Some.entry) (entry_of c.in_ok-with_call_at.field-0)
    (map call_view (drop place calls)) (map call_view (drop (length c.push.new.self.items) calls)) (c.loop-entry.invariant in_subroutine es seen) (ap (map entry_of) c.in-Some.ensures.steps.0)
    (ap (map entry_of) c.in_ok-push.ensures.items ∙ map_push entry_of c.loop-entry.kept.items c.in_ok-with_call_at.field-0) (ap (λ (n : ℕ). map call_view (drop n calls)) more ∙ behind_first place calls)
    (λ before_end e cs h k. c.in_ok-with_call_at.ensures in_subroutine before_end e cs (ap (λ (ds : List (Option Called)). map call_view (drop c.len-place.result ds)) c.deref.ensures.value ∙ ap (λ (n : ℕ). map call_view (drop n calls)) is ∙ h) k)

pub returns : goal.returns
returns c in_subroutine es seen =
    let at = c.loop-entry in
    let none : into_iter_items at.entry-iterator ≡ [] = nil_from_length _ (omega (arith, c.in-None.ensures.steps.0, at.entry-iterator.rest.ok.0)) in
    all_kept in_subroutine es (map entry_of at.kept.items) (map entry_of (into_iter_items at.entry-iterator)) (map call_view (drop (length at.kept.items) c.args.self.calls.items)) (at.invariant in_subroutine es seen) (ap (map entry_of) none)
