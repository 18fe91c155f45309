use Rattle.std.proofs.Common.{◌<◌, ◌∙◌, ap, sym, map, length, Some, slice_get, arith}
use Rattle.ped_graph.specs.Held.{HeldFrame}
use Rattle.ped_graph.specs.CodeFacts.{framed_of}
use Rattle.ped_graph.specs.Keys.{key_of}
use Rattle.ped_graph.proofs.Slices.{item_there, mapped_at, length_mapped}
use Rattle.ped_graph.proofs.frames.Frame.key.Goals as goal

pub returns : goal.returns
returns c =
    let items = c.self.inside.pairs.items in
    let x = c.index.result.now in
    let many = ap (λ (h : HeldFrame). length h.pairs) c.self.view_is in
    let mapped = length_mapped framed_of items in
    let below : c.args.n < length items = omega arith in
    let at = item_there items c.args.n x c.index.ensures below in
    ap (λ (h : HeldFrame). slice_get (map key_of h.pairs) c.args.n) (sym c.self.view_is)
    ∙ mapped_at key_of (map framed_of items) c.args.n (framed_of x) (mapped_at framed_of items c.args.n x at) ∙ ap Some (sym c.key_of.ensures)
