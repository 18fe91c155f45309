use Rattle.std.proofs.Common.{ℕ, subst}
use Rattle.ped_tree.specs.Views.{program_tree, stmt_trees, head_of}
use Rattle.ped_splits.specs.CodeFusing.{IsReaderOf, IsBrokenInTwo, IsShownInTwo}
use Rattle.ped_splits.proofs.Here.{here}
use Rattle.ped_splits.proofs.FuseAnswers.{loop_of_pair, no_match, number_of_next}
use Rattle.ped_splits.proofs.FuseReaders.{reader_unlike, named_rule}
use Rattle.ped_splits.proofs.fusing.escapes_unlike.Goals as goal

pub returns : goal.returns
returns g c =
    let t = program_tree c.args.scene.now.tree.now in
    let p = c.args.pair.now in
    let s = p.number in
    let is = c.requires.pair in
    let r = c.readers_of_two.result in
    let reader = subst (λ (m : ℕ). IsReaderOf (IsBrokenInTwo t s m) (IsShownInTwo t s m) r) (number_of_next t p is) c.readers_of_two.ensures in
    named_rule t s (here t s (head_of p.own.now) (stmt_trees p.own.now.body.items) (loop_of_pair t p is)) r (reader_unlike t s is.neighbour (no_match t p is c.requires.unlike) r reader) c.named.result c.named.ensures
