use Rattle.std.proofs.Common.{◌⊎◌, ℕ, ◌+◌, ◌<◌, ◌^◌, Option, sym, subst, arith}
use Rattle.ped_tree.specs.Views.{program_tree, stmt_trees, head_of}
use Rattle.ped_tree.specs.Numbering.{statements_count}
use Rattle.ped_tree.specs.Tree.{ProgramTree}
use Rattle.ped_rules.specs.ped_steps.proofs.Answering.{few_numbers}
use Rattle.ped_rules.specs.ped_flow.specs.Questions.{IsShown}
use Rattle.ped_rules.specs.ped_flow.specs.declared.flows.Reader.{Reader}
use Rattle.ped_splits.specs.Neighbours.{fused}
use Rattle.ped_splits.specs.CodeFusing.{IsReaderOf, IsBrokenInTwo, IsShownInTwo, IsBrokenInNew}
use Rattle.ped_splits.proofs.Here.{here}
use Rattle.ped_splits.proofs.FuseAnswers.{loop_of_pair, match_of, number_of_next, pair_fits, fused_count}
use Rattle.ped_splits.proofs.FuseReaders.{earlier_reader, reader_alike, named_rule}
use Rattle.ped_splits.proofs.fusing.escapes_alike.Goals as goal

pub reader_in_fused-requires : goal.reader_in_fused-requires
reader_in_fused-requires g c =
    let t = program_tree c.args.scene.now.tree.now in
    let p = c.args.pair.now in
    let is = c.requires.pair in
    let fits = pair_fits t p is in
    let few = few_numbers t c.requires.scene.valid in
    let count = fused_count t p is in
    let less : statements_count (fused is.neighbour).body + 1 < 2 ^ 32 = omega (arith, few, count) in
    record {
      few = subst (λ (u : ProgramTree). statements_count u.body + 1 < 2 ^ 32) (sym (c.requires.tree is)) less;
      next = omega (arith, fits, few);
    }

pub returns : goal.returns
returns g c =
    let t = program_tree c.args.scene.now.tree.now in
    let p = c.args.pair.now in
    let s = p.number in
    let is = c.requires.pair in
    let m = s + 1 + statements_count (stmt_trees p.own.now.body.items) in
    let u = program_tree c.args.tree.now in
    let a = c.readers_of_two.result in
    let b = c.in_ok-inside.inside in
    let both = earlier_reader (IsBrokenInTwo t s m) (IsBrokenInNew u s m) (IsShownInTwo t s m) (IsShown u s) a b c.readers_of_two.ensures c.in_ok-inside.ensures in
    let found = subst (λ (r : Option Reader). IsReaderOf (λ n. IsBrokenInTwo t s m n ⊎ IsBrokenInNew u s m n) (IsShownInTwo t s m ⊎ IsShown u s) r) (sym c.earlier-reader.ensures) both in
    let in_new = subst (λ (v : ProgramTree). IsReaderOf (λ n. IsBrokenInTwo t s m n ⊎ IsBrokenInNew v s m n) (IsShownInTwo t s m ⊎ IsShown v s) c.earlier-reader.result) (c.requires.tree is) found in
    let reader = subst (λ (k : ℕ). IsReaderOf (λ n. IsBrokenInTwo t s k n ⊎ IsBrokenInNew (fused is.neighbour) s k n) (IsShownInTwo t s k ⊎ IsShown (fused is.neighbour) s) c.earlier-reader.result) (number_of_next t p is) in_new in
    named_rule t s (here t s (head_of p.own.now) (stmt_trees p.own.now.body.items) (loop_of_pair t p is)) c.earlier-reader.result (reader_alike t s (match_of t p is c.requires.alike) c.earlier-reader.result reader) c.named.result c.named.ensures
