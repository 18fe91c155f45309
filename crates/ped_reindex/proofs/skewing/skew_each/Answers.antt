use Rattle.std.proofs.Common.{◌≤◌, ◌∙◌, ap, map, length, arith, take_all, ℤ, to_z, of_z}
use Rattle.std.specs.Int.{w64}
use Rattle.std.proofs.lemmas.Int.{to_z-of_z}
use Rattle.ped_tree.specs.Views.{stmt_tree, pack_stmts}
use Rattle.ped_reindex.specs.CodeSkewing.{skewed_statement, all_skewed}
use Rattle.ped_reindex.proofs.SkewAnswers.{all_packed}
use Rattle.ped_reindex.proofs.skewing.skew_each.Goals as goal

pub returns : goal.returns
returns c =
    let f = to_z w64 (of_z w64 c.args.factor) in
    let i = c.args.outer in
    let old = map stmt_tree c.args.statements.now in
    let ended : length c.args.statements.now ≤ c.loop-statement.statement-index = omega (arith, c.loop-statement-test.false, c.loop-statement.auto.statement-index-end) in
    ap pack_stmts (c.loop-statement.invariant ∙ ap (λ ss. map (skewed_statement f i) (map stmt_tree ss)) (take_all c.loop-statement.statement-index c.args.statements.now ended)) ∙ all_packed f i old ∙ ap (λ (z : ℤ). all_skewed z i (pack_stmts old)) (to_z-of_z w64 c.args.factor c.ranges.factor)
