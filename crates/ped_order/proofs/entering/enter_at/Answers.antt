use Rattle.std.proofs.Common.{[], map, ap, ◌∙◌, if◌then◌else◌, Some, None, not, ◌&&◌, ◌||◌, ◌==◌}
use Rattle.std.specs.Map.{lookup}
use Rattle.std.proofs.lemmas.List.{length-map}
use Rattle.std.proofs.Common.{length, arith}
use Rattle.ped_laws.specs.ped_eval.specs.AccessViews.{turn_view}
use Rattle.ped_order.specs.Keys.{Key, same_key}
use Rattle.ped_order.specs.Sightings.{rival_in, first_of}
use Rattle.ped_order.specs.Entered.{in_turns}
use Rattle.ped_order.proofs.Remembering.{added_nothing, added_further}
use Rattle.ped_order.proofs.entering.enter_at.Goals as goal

pub returns-then-not-turn : goal.returns-then-not-turn
returns-then-not-turn c told from far h =
    added_nothing told c.args.entries.now.entries from c.args.touch.now.sighting (in_turns [] c.args.touch.now) (map turn_view c.args.around.now) (turn_view c.args.turn.now) c.if-not-turn.true h

pub returns : goal.returns
returns c told from far h =
    let old = c.args.entries.now.entries in
    let turn = turn_view c.args.turn.now in
    let touch = c.args.touch.now in
    let entry = c.with_access-entry.result in
    let found = c.copied-entry.ensures ∙ c.get.ensures.value ∙ ap (λ (k : Key). lookup (same_key k) old) c.in_ok-key.ensures in
    let long = length-map c.args.around.now turn_view in
    added_further told old c.insert.new.self.entries entry from touch.sighting (in_turns [] touch) (map turn_view c.args.around.now) turn (omega (arith, far, long)) c.if-not-turn.false
    (λ n w. c.with_access-entry.ensures n w ∙ ap (λ o. first_of (rival_in o n w) (if not (turn.number == n) && (touch.writes || w) then Some touch.sighting else None)) found)
    (λ k. c.in_ok-insert.ensures.updates.0 k ∙ ap (λ (j : Key). if same_key j k then Some entry else lookup (same_key k) old) c.in_ok-key.ensures)
    h
