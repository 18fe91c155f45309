use Rattle.std.proofs.Common.{◌≡◌, ◌+◌, length, ap, subst, arith}
use Rattle.std.proofs.lemmas.Result.{on_ok_weaker}
use Rattle.ped_views.specs.Views.{View}
use Rattle.ped_tree.specs.Views.{program_tree}
use Rattle.ped_graph.specs.Dependences.{view_of}
use Rattle.ped_graph.specs.Held.{pair_by}
use Rattle.ped_graph.specs.Keys.{key_shown}
use Rattle.ped_graph.specs.Parts.{HeldParts}
use Rattle.ped_update.specs.Matching.{IsMatched, tests}
use Rattle.ped_update.proofs.OneMore.{keeps_matched, kept_untested, on_any, key_there}
use Rattle.ped_update.proofs.matching.match_pair.Goals as goal

pub returns-in-Some-clause-parts : goal.returns-in-Some-clause-parts
returns-in-Some-clause-parts g c = on_ok_weaker c.keep_verdict.result (λ keeps keep f p once table at there.
    let place : c.len.result ≡ length c.args.parts.now.slots = (let seen = ap (λ (q : HeldParts). length q.slots) c.parts.view_is in let ok = c.parts.inside.slots.ok.0 in let len = c.len.ensures in omega (arith, seen, ok, len)) in
    let key = key_there c.args.parts.now.frame c.parts.inside.frame c.len.result (length c.args.parts.now.slots) (key_shown c.key-key.result) f (ap (λ (q : HeldParts). q.frame) c.parts.view_is) place c.key-key.ensures there in
    keeps_matched c.args.former.now.graph.now keep (pair_by f (view_of (program_tree c.args.changed.now.known.program.now) p.0 p.1)) c.args.parts.now _ c.in-Some.here (c.in-Some.ensures keep f p once table at key) keeps)
    c.keep_verdict.ensures.kept

pub returns-in-Some-clause-ticks : goal.returns-in-Some-clause-ticks
returns-in-Some-clause-ticks g c = on_any c.keep_verdict.result (λ keep f p once table at there.
    let place : c.len.result ≡ length c.args.parts.now.slots = (let seen = ap (λ (q : HeldParts). length q.slots) c.parts.view_is in let ok = c.parts.inside.slots.ok.0 in let len = c.len.ensures in omega (arith, seen, ok, len)) in
    let key = key_there c.args.parts.now.frame c.parts.inside.frame c.len.result (length c.args.parts.now.slots) (key_shown c.key-key.result) f (ap (λ (q : HeldParts). q.frame) c.parts.view_is) place c.key-key.ensures there in
    let none = kept_untested c.args.former.now.graph.now keep (pair_by f (view_of (program_tree c.args.changed.now.known.program.now) p.0 p.1)) c.in-Some.here (c.in-Some.ensures keep f p once table at key) in
    omega (arith, none))

pub returns-in-Some-clause-most : goal.returns-in-Some-clause-most
returns-in-Some-clause-most g c = λ keep f p once table at there. omega arith

pub returns-in_err-view-clause-most : goal.returns-in_err-view-clause-most
returns-in_err-view-clause-most g c = λ keep f p once table at there. omega arith

pub returns-clause-parts : goal.returns-clause-parts
returns-clause-parts g c = on_ok_weaker c.match_view.result (λ matched keep f p once table at there.
    let place : c.len.result ≡ length c.args.parts.now.slots = (let seen = ap (λ (q : HeldParts). length q.slots) c.parts.view_is in let ok = c.parts.inside.slots.ok.0 in let len = c.len.ensures in omega (arith, seen, ok, len)) in
    let key = key_there c.args.parts.now.frame c.parts.inside.frame c.len.result (length c.args.parts.now.slots) (key_shown c.key-key.result) f (ap (λ (q : HeldParts). q.frame) c.parts.view_is) place c.key-key.ensures there in
    subst (λ (v : View). IsMatched c.args.former.now.graph.now keep (pair_by f v) c.args.parts.now c.match_view.new.parts) (c.in_ok-view.ensures p at) (matched keep f once table key))
    c.match_view.ensures.parts

pub returns-clause-ticks : goal.returns-clause-ticks
returns-clause-ticks g c = on_any c.match_view.result (λ keep f p once table at there.
    let place : c.len.result ≡ length c.args.parts.now.slots = (let seen = ap (λ (q : HeldParts). length q.slots) c.parts.view_is in let ok = c.parts.inside.slots.ok.0 in let len = c.len.ensures in omega (arith, seen, ok, len)) in
    let key = key_there c.args.parts.now.frame c.parts.inside.frame c.len.result (length c.args.parts.now.slots) (key_shown c.key-key.result) f (ap (λ (q : HeldParts). q.frame) c.parts.view_is) place c.key-key.ensures there in
    subst (λ (v : View). c.match_view.new.steps ≡ c.args.steps.now + tests c.args.former.now.graph.now keep (pair_by f v)) (c.in_ok-view.ensures p at) (c.match_view.ensures.ticks keep f once table key))

pub returns-clause-most : goal.returns-clause-most
returns-clause-most g c = λ keep f p once table at there.
    let place : c.len.result ≡ length c.args.parts.now.slots = (let seen = ap (λ (q : HeldParts). length q.slots) c.parts.view_is in let ok = c.parts.inside.slots.ok.0 in let len = c.len.ensures in omega (arith, seen, ok, len)) in
    let key = key_there c.args.parts.now.frame c.parts.inside.frame c.len.result (length c.args.parts.now.slots) (key_shown c.key-key.result) f (ap (λ (q : HeldParts). q.frame) c.parts.view_is) place c.key-key.ensures there in
    let ticks = subst (λ (v : View). c.match_view.new.steps ≡ c.args.steps.now + tests c.args.former.now.graph.now keep (pair_by f v)) (c.in_ok-view.ensures p at) (c.match_view.ensures.ticks keep f once table key) in
    omega (arith, ticks)
