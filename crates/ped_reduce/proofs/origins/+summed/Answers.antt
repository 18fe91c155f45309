use Rattle.std.proofs.Common.{◌≡◌, ℕ, ◌+◌, ◌++◌, List, map, sym, ap, ◌∙◌, subst}
use Rattle.std.specs.Prelude.{OnOk}
use Rattle.ped_tree.specs.Tree.{StmtTree, If, Do}
use Rattle.ped_tree.specs.Numbering.{numbered, all_numbered, statements_count}
use Rattle.ped_tree.specs.Views.{cond_tree, stmt_tree, stmt_trees, head_of}
use Rattle.ped_tree.specs.declared.statements.Stmt.{Stmt}
use Rattle.ped_tree.proofs.Levels.{stmt_tree-If}
use Rattle.ped_reduce.specs.Lowering.{summed_origins}
use Rattle.ped_reduce.specs.CodeLowering.{partials_view}
use Rattle.ped_reduce.proofs.OriginsCode.{loop_tree, number_next, origins_next, origins_if, origins_do}
use Rattle.ped_reduce.proofs.origins.+summed.Goals as goal

pub add_one_summed-returns-in-If : goal.add_one_summed-returns-in-If
add_one_summed-returns-in-If t c =
    let ps = map partials_view c.args.partials.now in
    let old = c.args.all.now.items in
    let n = c.args.number in
    let one = c.push.new.self.items in
    let two = c.add_summed.new.all.items in
    let a = stmt_trees c.in-If.then_part.items in
    let b = stmt_trees c.in-If.else_part.items in
    let tree : stmt_tree c.args.statement.now ≡ If (cond_tree c.in-If.condition) a b = ◌∙◌ {A = StmtTree} (ap stmt_tree c.in-If.is) (stmt_tree-If c.in-If.condition c.in-If.then_part c.in-If.else_part) in
    let first : two ≡ one ++ summed_origins ps (all_numbered a) (n + 1) = ◌∙◌ {A = List ℕ} c.in_ok-add_summed-in-If.ensures (ap (λ (ss : List Stmt). one ++ summed_origins ps (all_numbered (stmt_trees ss)) (n + 1)) c.deref.ensures.value) in
    let at : c.count_statements.result ≡ statements_count a = c.count_statements.ensures ∙ ap (λ (ss : List Stmt). statements_count (stmt_trees ss)) c.deref-in-If.ensures.value in
    let later = summed_origins ps (all_numbered (stmt_trees c.deref-in-If-2.result.now)) (n + 1 + c.count_statements.result) in
    let same : two ++ later ≡ two ++ summed_origins ps (all_numbered b) (n + 1 + statements_count a) = λ i. two ++ summed_origins ps (all_numbered (stmt_trees (c.deref-in-If-2.ensures.value i))) (n + 1 + at i) in
    let whole : two ++ later ≡ old ++ summed_origins ps (numbered (stmt_tree c.args.statement.now)) n = same
    ∙ origins_if ps (cond_tree c.in-If.condition) a b n old one two c.in_ok-push-in-If.ensures.items first
    ∙ ap (λ (s : StmtTree). old ++ summed_origins ps (numbered s) n) (sym tree) in
    subst (λ (xs : List ℕ). OnOk c.add_summed-in-If.result (c.add_summed-in-If.new.all.items ≡ xs)) whole c.add_summed-in-If.ensures

pub add_one_summed-returns-in-Do : goal.add_one_summed-returns-in-Do
add_one_summed-returns-in-Do t c =
    let ps = map partials_view c.args.partials.now in
    let old = c.args.all.now.items in
    let n = c.args.number in
    let one = c.push-in-Do.new.self.items in
    let d = c.in-Do.d in
    let tree : stmt_tree c.args.statement.now ≡ Do (head_of d) (stmt_trees d.body.items) = ◌∙◌ {A = StmtTree} (ap stmt_tree c.in-Do.is) (loop_tree d) in
    let whole = ap (λ (ss : List Stmt). one ++ summed_origins ps (all_numbered (stmt_trees ss)) (n + 1)) c.deref-in-Do.ensures.value
    ∙ origins_do ps (head_of d) (stmt_trees d.body.items) n old one c.in_ok-push-in-Do.ensures.items
    ∙ ap (λ (s : StmtTree). old ++ summed_origins ps (numbered s) n) (sym tree) in
    subst (λ (xs : List ℕ). OnOk c.add_summed-in-Do.result (c.add_summed-in-Do.new.all.items ≡ xs)) whole c.add_summed-in-Do.ensures

pub add_summed-loop-statement-preserved : goal.add_summed-loop-statement-preserved
add_summed-loop-statement-preserved t c =
    let ss = c.args.statements.now in
    let i = c.loop-statement.statement-index in
    let s = c.statement-item.result in
    let ps = map partials_view c.args.partials.now in
    let k = ap (λ (n : ℕ). c.loop-statement.next + n) c.count_statement-next.ensures in
    record {
      number = number_next ss i s c.loop-statement-test.true c.statement-item.is c.loop-statement.next _ _ k c.loop-statement.invariant.number;
      added = origins_next ps ss i s c.loop-statement-test.true c.statement-item.is c.loop-statement.next _ k _ _ _ c.loop-statement.invariant.added c.in_ok-add_one_summed.ensures;
    }
