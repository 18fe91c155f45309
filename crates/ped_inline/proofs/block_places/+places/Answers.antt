use Rattle.std.proofs.Common.{◌≡◌, ◌+◌, ◌++◌, List, length, sym, ap, ◌∙◌}
use Rattle.std.proofs.lemmas.Result.{on_ok_weaker}
use Rattle.ped_tree.specs.Tree.{StmtTree, Do}
use Rattle.ped_tree.specs.Views.{head_of, stmt_tree, stmt_trees}
use Rattle.ped_tree.specs.declared.statements.Stmt.{Stmt}
use Rattle.ped_rules.specs.ped_flow.proofs.Known.{tree-Do}
use Rattle.ped_inline.specs.Folding.{blocks_in}
use Rattle.ped_inline.specs.CodeFolding.{places_seen}
use Rattle.ped_inline.proofs.PlacedBlocks.{do_placed}
use Rattle.ped_inline.proofs.block_places.+places.Goals as goal

pub push_statement-returns-in_ok-push-in-Do-clause-places :
    goal.push_statement-returns-in_ok-push-in-Do-clause-places
push_statement-returns-in_ok-push-in-Do-clause-places t c =
    let old = c.args.places.now.items in
    let d = c.in-Do.d in
    let body = c.deref-in-Do.result.now in
    let tree : Do (head_of d) (stmt_trees body) ≡ stmt_tree c.args.statement.now =
    ap (λ (ss : List Stmt). Do (head_of d) (stmt_trees ss)) c.deref-in-Do.ensures.value ∙ sym (ap stmt_tree c.in-Do.is ∙ tree-Do d) in
    on_ok_weaker c.push_all-in-Do.result
    (λ e. do_placed old c.push-in-Do.new.self.items c.push_all-in-Do.new.places.items c.args.loops (head_of d) (stmt_trees body) c.in_ok-push-in-Do.ensures.items e ∙ ap (λ (s : StmtTree). places_seen old ++ blocks_in c.args.loops (length old + 1) s) tree)
    c.push_all-in-Do.ensures.places
