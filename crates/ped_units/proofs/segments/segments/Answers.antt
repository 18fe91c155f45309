use Rattle.std.proofs.Common.{rules, ◌≡◌, List, [], ◌∷◌, ◌++◌, map, Bool, true, false, sym, ap, ◌∙◌, arith}
use Rattle.std.proofs.lemmas.List.{map_push, nil_from_length}
use Rattle.std.specs.Prelude.{◌&&◌, ◌||◌}
use Rattle.std.specs.Vec.Iter.{into_iter_items}
use Rattle.ped_units.specs.Reading.{UnitEntry, Segment, begins, segments_of}
use Rattle.ped_units.specs.Seeing.{segments_onto}
use Rattle.ped_units.specs.Views.{unit_entry_of, head_of, segment_of}
use Rattle.ped_units.specs.declared.items.UnitEntry as items
use Rattle.ped_units.specs.declared.segments.Segment as code
use Rattle.ped_units.proofs.EndedLists.{nothing_onto, begun_more, owned_more, all_done}
use Rattle.ped_units.proofs.segments.segments.Goals.{else-ended-via-then-ended+else-begins, else-ended-via-else-ended}
use Rattle.ped_units.proofs.segments.segments.Goals as goal

pub loop-entry-init : goal.loop-entry-init
loop-entry-init c =
    let all : into_iter_items c.into_iter-entry-iterator.result ≡ c.args.entries.items = search rules in
    nothing_onto (map segment_of c.new-done.result.items) (segment_of c.headed-current.result) (map unit_entry_of (into_iter_items c.into_iter-entry-iterator.result)) (ap (map segment_of) c.new-done.ensures.items) c.headed-current.ensures
    ∙ ap (λ (es : List items.UnitEntry). segments_of (map unit_entry_of es)) all

pub loop-entry-preserved-then-begins : goal.loop-entry-preserved-then-begins
loop-entry-preserved-then-begins c =
    let e = unit_entry_of c.in-Some.entry in
    let whole = segments_of (map unit_entry_of c.args.entries.items) in
    let rest = map unit_entry_of (into_iter_items c.next.new.self) in
    let at : (c.loop-entry.ended && begins e.item) ≡ true = ap (λ (b : Bool). b && begins e.item) c.if-ended.true ∙ sym c.begins.ensures ∙ c.if-begins.true in
    let done : map segment_of c.push.new.self.items ≡ map segment_of c.loop-entry.done.items ++ segment_of c.loop-entry.current ∷ [] =
    ap (map segment_of) c.in_ok-push.ensures.items ∙ map_push segment_of c.loop-entry.done.items c.replace.result ∙ ap (λ (s : code.Segment). map segment_of c.loop-entry.done.items ++ segment_of s ∷ []) c.replace.ensures.value in
    ap (λ (ss : List Segment). ss ++ segments_onto (segment_of c.replace.new.dest) false rest) done
    ∙ ap (λ (s : code.Segment). (map segment_of c.loop-entry.done.items ++ segment_of c.loop-entry.current ∷ []) ++ segments_onto (segment_of s) false rest) c.replace.ensures.after
    ∙ begun_more whole (map segment_of c.loop-entry.done.items) (segment_of c.loop-entry.current) (segment_of c.headed.result) c.loop-entry.ended e (map unit_entry_of (into_iter_items c.loop-entry.entry-iterator)) rest c.loop-entry.invariant (ap (map unit_entry_of) c.in-Some.ensures.steps.0) at c.headed.ensures

pub loop-entry-preserved : goal.loop-entry-preserved
loop-entry-preserved c =
    let e = unit_entry_of c.in-Some.entry in
    let whole = segments_of (map unit_entry_of c.args.entries.items) in
    let at : (c.loop-entry.ended && begins e.item) ≡ false = elim c.else-ended.branch [
      | else-ended-via-then-ended+else-begins w ↦ ap (λ (b : Bool). b && begins e.item) w.if-ended.true ∙ sym w.begins.ensures ∙ w.if-begins.false
      | else-ended-via-else-ended w ↦ ap (λ (b : Bool). b && begins e.item) w.if-ended.false
    ] in
    owned_more whole (map segment_of c.loop-entry.done.items) (segment_of c.loop-entry.current) (segment_of (record { head = c.loop-entry.current.head; entries = c.push-else-ended.new.self })) c.loop-entry.ended c.either-ended.result e
    (map unit_entry_of (into_iter_items c.loop-entry.entry-iterator)) (map unit_entry_of (into_iter_items c.next.new.self)) c.loop-entry.invariant (ap (map unit_entry_of) c.in-Some.ensures.steps.0) at
    (ap (λ (es : List UnitEntry). record { head = head_of c.loop-entry.current.head; entries = es }) (ap (map unit_entry_of) c.in_ok-push-2.ensures.items ∙ map_push unit_entry_of c.loop-entry.current.entries.items c.in-Some.entry))
    (c.either-ended.ensures ∙ ap (λ (b : Bool). c.loop-entry.ended || b) c.ends.ensures)

pub returns : goal.returns
returns c =
    let at = c.loop-entry in
    let none : into_iter_items at.entry-iterator ≡ [] = nil_from_length _ (omega (arith, c.in-None.ensures.steps.0, at.entry-iterator.rest.ok.0)) in
    ap (map segment_of) c.in_ok-push-3.ensures.items
    ∙ map_push segment_of at.done.items at.current
    ∙ all_done (segments_of (map unit_entry_of c.args.entries.items)) (map segment_of at.done.items) (segment_of at.current) at.ended (map unit_entry_of (into_iter_items at.entry-iterator)) at.invariant (ap (map unit_entry_of) none)
