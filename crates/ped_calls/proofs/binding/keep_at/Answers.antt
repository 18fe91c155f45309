use Rattle.std.proofs.Common.{◌<◌, ◌∙◌, length, arith}
use Rattle.std.proofs.lemmas.Result.{on_ok_weaker}
use Rattle.ped_tree.specs.Views.{expr_tree}
use Rattle.ped_calls.specs.Meaning.{meanings_of}
use Rattle.ped_calls.proofs.BoundArguments.{formal_kept}
use Rattle.ped_calls.proofs.binding.keep_at.Goals as goal

pub returns-then-place-formals : goal.returns-then-place-formals
returns-then-place-formals c =
    let below : c.args.place < length c.args.formals.now = omega arith in
    let kept = formal_kept (meanings_of c.args.meanings.now) c.args.formals.now c.args.place c.index-formals-place.result (expr_tree c.args.e) below c.index-formals-place.is in
    on_ok_weaker c.keep.result (λ is. is ∙ kept) c.keep.ensures
