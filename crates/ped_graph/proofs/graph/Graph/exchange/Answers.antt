use Rattle.std.proofs.Common.{◌∙◌, ap, List, length, map, arith}
use Rattle.ped_graph.specs.CodeParts.{exchanged}
use Rattle.ped_graph.specs.Parts.{turned}
use Rattle.ped_graph.specs.declared.parts.Kept.{Kept}
use Rattle.ped_graph.proofs.Slices.{front_is, length_mapped}
use Rattle.ped_graph.proofs.Exchanging.{exchange_makes, exchange_whole, as_many_here, as_many_there}
use Rattle.ped_graph.proofs.graph.Graph.exchange.Goals as goal

pub invariant_of-self : goal.invariant_of-self
invariant_of-self g c =
    let vs = c.self.inside.verdicts.items in
    let ws = c.parts.inside.slots.items in
    let ks = c.parts.inside.kept.items in
    let made = c.exchange_kept.ensures.slots ∙ (λ i. (exchanged (c.deref.ensures.value i) (c.deref_mut.ensures.value i) (c.deref_mut-2.ensures.value i)).1) in
    let left = c.exchange_kept.ensures.verdicts ∙ (λ i. (exchanged (c.deref.ensures.value i) (c.deref_mut.ensures.value i) (c.deref_mut-2.ensures.value i)).0) in
    let turns = c.turn.ensures ∙ ap (λ (xs : List Kept). map turned xs) c.deref_mut-3.ensures.value in
    let many = ap (λ (xs : List _). length xs) made ∙ as_many_there ks vs ws in
    let rest = ap (λ (xs : List _). length xs) left ∙ as_many_here ks vs ws in
    let ok = c.parts.inside.slots.ok.0 in
    let ok2 = c.self.inside.verdicts.ok.0 in
    exchange_whole c.args.self.now c.args.parts.now c.self.inside.frame c.parts.inside.frame vs ws ks c.self.invariant c.self.view_is c.parts.view_is
    c.swap-2.new.x c.swap-2.new.y c.swap.new.x.items c.swap.new.y.items c.turn.new.kept
    c.swap-2.ensures.x_after c.swap-2.ensures.y_after
    (ap (λ v. v.items) c.swap.ensures.x_after ∙ front_is c.parts.inside.slots.len c.exchange_kept.new.slots _ (omega (arith, ok, many)) ∙ made)
    (ap (λ v. v.items) c.swap.ensures.y_after ∙ front_is c.self.inside.verdicts.len c.exchange_kept.new.verdicts _ (omega (arith, ok2, rest)) ∙ left)
    turns c.requires.0 c.requires.1

pub returns-clause-exchanged : goal.returns-clause-exchanged
returns-clause-exchanged g c =
    let vs = c.self.inside.verdicts.items in
    let ws = c.parts.inside.slots.items in
    let ks = c.parts.inside.kept.items in
    let made = c.exchange_kept.ensures.slots ∙ (λ i. (exchanged (c.deref.ensures.value i) (c.deref_mut.ensures.value i) (c.deref_mut-2.ensures.value i)).1) in
    let left = c.exchange_kept.ensures.verdicts ∙ (λ i. (exchanged (c.deref.ensures.value i) (c.deref_mut.ensures.value i) (c.deref_mut-2.ensures.value i)).0) in
    let turns = c.turn.ensures ∙ ap (λ (xs : List Kept). map turned xs) c.deref_mut-3.ensures.value in
    let many = ap (λ (xs : List _). length xs) made ∙ as_many_there ks vs ws in
    let rest = ap (λ (xs : List _). length xs) left ∙ as_many_here ks vs ws in
    let mapped = length_mapped turned ks in
    let same = ap (λ (xs : List Kept). length xs) turns in
    let ok = c.parts.inside.slots.ok.0 in
    let ok2 = c.self.inside.verdicts.ok.0 in
    let ok3 = c.parts.inside.kept.ok.0 in
    exchange_makes c.args.self.now c.args.parts.now c.self.inside.frame c.parts.inside.frame vs ws ks c.self.invariant c.self.view_is c.parts.view_is
    c.swap-2.new.x c.swap-2.new.y c.swap.new.x.items c.swap.new.y.items _
    c.swap-2.ensures.x_after c.swap-2.ensures.y_after
    (ap (λ v. v.items) c.swap.ensures.x_after ∙ front_is c.parts.inside.slots.len c.exchange_kept.new.slots _ (omega (arith, ok, many)) ∙ made)
    (ap (λ v. v.items) c.swap.ensures.y_after ∙ front_is c.self.inside.verdicts.len c.exchange_kept.new.verdicts _ (omega (arith, ok2, rest)) ∙ left)
    (front_is c.parts.inside.kept.len c.turn.new.kept _ (omega (arith, ok3, mapped, same)) ∙ turns)
