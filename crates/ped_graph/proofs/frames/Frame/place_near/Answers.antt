use Rattle.std.proofs.Common.{◌<◌, map, length, subst, arith}
use Rattle.ped_graph.specs.Held.{HeldFrame}
use Rattle.ped_graph.specs.CodeFacts.{framed_of}
use Rattle.ped_graph.specs.Keys.{key_of, key_shown, IsOnlyAt}
use Rattle.ped_graph.proofs.Slices.{item_there}
use Rattle.ped_graph.proofs.InOrder.{alone}
use Rattle.ped_graph.proofs.frames.Frame.place_near.Goals as goal

pub returns-then-is_at : goal.returns-then-is_at
returns-then-is_at c =
    let items = c.self.inside.pairs.items in
    let x = c.index.result.now in
    let ok = c.self.inside.pairs.ok.0 in
    let len = c.len.ensures in
    let less = c.if-place-len.false in
    let below : c.args.expected < length items = omega (arith, ok, len, less) in
    let at = item_there items c.args.expected x c.index.ensures below in
    subst (λ (h : HeldFrame). IsOnlyAt (map key_of h.pairs) (key_shown c.args.key.now) c.args.expected) c.self.view_is
    (alone framed_of items c.self.invariant (key_shown c.args.key.now) c.args.expected x at (c.is_at.ensures.0 c.if-is_at.true))
