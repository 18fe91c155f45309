use Rattle.std.proofs.Common.{◌∙◌, ◌<◌, ℕ, List, Bool, false, length, slice_get, ap, sym, subst, arith}
use Rattle.std.specs.Prelude.{slice_index_or}
use Rattle.ped_tree.specs.Nests.{common_nest}
use Rattle.ped_graph.specs.Marks.{rejects}
use Rattle.ped_graph.proofs.CommonLoops.{common_there, six_places}
use Rattle.ped_graph.proofs.Slices.{none_past}
use Rattle.ped_graph.proofs.rejections.rejects_within.Goals as goal

pub returns-then-place-common : goal.returns-then-place-common
returns-then-place-common c = λ x source sink are many.
    let below : c.args.place < length (common_nest source sink) = subst (λ (n : ℕ). c.args.place < n) many c.if-place-common.true in
    ap (λ (flags : List Bool). slice_index_or flags c.args.place false) are
    ∙ six_places (λ n. rejects x (slice_get source n)) c.args.place c.requires
    ∙ ap (rejects x) (sym (common_there source sink c.args.place below))

pub returns : goal.returns
returns c = λ x source sink are many.
    let past = c.if-place-common.false in
    ap (rejects x) (sym (none_past (common_nest source sink) c.args.place (omega (arith, many, past))))
