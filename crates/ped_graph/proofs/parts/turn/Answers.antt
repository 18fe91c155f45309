use Rattle.std.proofs.Common.{◌<◌, ◌++◌, List, map, take, drop, length, ap, sym, ◌∙◌, add-one, arith}
use Rattle.std.specs.Prelude.{slice_get, slice_set, slice_index_or}
use Rattle.ped_graph.specs.Parts.{turned}
use Rattle.ped_graph.specs.declared.parts.Kept.{Kept}
use Rattle.ped_graph.proofs.Slices.{get_there, set_mapped, next_unmapped}
use Rattle.ped_graph.proofs.parts.turn.Goals as goal

pub loop-i-preserved : goal.loop-i-preserved
loop-i-preserved c =
    let xs = c.args.kept.now in
    let i = c.loop-i.i in
    let kept = c.loop-i.kept in
    let none : Kept = record { here = 0; there = 0 } in
    let x = slice_index_or kept i none in
    let same = c.loop-i.auto.kept in
    let test = c.loop-i-test.true in
    let below : i < length kept = omega (arith, same, test) in
    let there = sym (next_unmapped turned xs i) ∙ ap (λ (ys : List Kept). slice_get ys i) (sym c.loop-i.invariant) ∙ get_there kept i none below in
    ap (λ (ys : List Kept). slice_set ys i (turned x)) c.loop-i.invariant ∙ set_mapped turned xs i x there ∙ ap (λ (n : _). map turned (take n xs) ++ drop n xs) (sym (add-one i))
